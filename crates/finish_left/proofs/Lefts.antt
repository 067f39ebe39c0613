-- k, processor by processor; and that it is the model's.
use mathlib.Core.Path.{◌≡◌, refl, sym, ap, ◌∙◌}
use mathlib.Core.List.{List, [], ◌∷◌, ◌++◌, map, map-append}
use Prim.Native.Nat.{ℕ, zero, suc, ◌+◌, ◌-◌, ◌*◌, ◌≤◌, ◌<◌}
use native.Mathlib.Numerals.{add-one}
use native.Mathlib.Omega.{arith}
use lib.ListN.{length, get_or, drop}
use lib.Dec.{lit<}
use lib.Seq.{slice, length-slice}
use Rattle.model.specs.declared.record.Record.{Record}
use Rattle.model.specs.Sizes.{processors, instructions_each}
use Rattle.model.specs.Program.{ProgramStep}
use Rattle.model.specs.Rules.{kind_of}
use Rattle.model.specs.Kinds.{table_uses, table_rows, entry_of}
use Rattle.model.specs.Left.{writes, left_of, left_in as model_left_in, left}
use Rattle.model.specs.Code.{Columns, place_at, steps_in, instruction_at, steps_from, count_in, Fits}
use Rattle.model.proofs.Roles.{of_kind}
use Rattle.model.proofs.Rows.{below}
use Rattle.model.proofs.Columns.{steps_at}
use Rattle.machine_rules.specs.Steps.{steps_of_kind}
use Rattle.machine_rules.specs.Offers.{writes_in}
use Rattle.machine_state.specs.State.{State}
use Rattle.machine.specs.View.{left_from, todo_in, waiting_in, processor_of, machine_of}
use Rattle.machine.specs.Ready.{ReadyAt, Ready}
use Rattle.machine.proofs.Todo.{stands-first}
use Rattle.finish_left.specs.Weight.{weight, heaviest, step_kinds_from, program_left}
use Rattle.finish_left.specs.Left.{processor_left, left_of_first, left_in, CountableAt, AllCountable}
use Rattle.finish_left.proofs.Weights.{steps-weight}

-- ---- the sum over the processors

module _ (g : Columns) (m : State) where
  -- k is the sum over those below p
  pub record Summed (k p : ℕ) : Type 0 where
    pub sum : k ≡ left_of_first g m p
    pub small : k ≤ p * (heaviest + instructions_each)

  pub begins : Summed 0 0
  unfolding left_of_first
  begins = record { sum = refl; small = omega arith }

  module _ (k p : ℕ) (s : Summed k p) where
    pub ends : p ≡ processors → (k ≡ left_in g m) × (k ≤ processors * (heaviest + instructions_each))
    ends z = (rw z at s.sum, rw z at s.small)

    -- w is k of processor p's program
    module _ (asks : CountableAt g m p) (w : ℕ) (is : (w ≡ program_left g.kinds p (count_in g p) (get_or m.at p 0) (get_or m.phase p 0)) × (w ≤ heaviest)) where
      pub goes_on : Summed (k + (w + (get_or m.issued p 0 - get_or m.drained p 0))) (p + 1)
      unfolding left_of_first
      goes_on =
          let few = asks.few in
          let light = is.1 in
          let e = s.sum in
          let o = s.small in
          record { sum = let w = is.0 in rw add-one (omega arith); small = omega arith }

-- ---- a program is the model's

-- the steps of a record have the kinds of its kind's steps
same-kinds : (r : Record) → r.kind < table_rows → map kind_of (steps_in (entry_of r)) ≡ map kind_of (steps_of_kind r.kind)
unfolding steps_in steps_of_kind table_uses
same-kinds r h = below table_rows Same (refl, (refl, (refl, (refl, (refl, (refl, (refl, (refl, (refl, (refl, (refl, (refl, tt)))))))))))) r.kind h
  where
    Same : ℕ → Type 0
    Same k = map kind_of (steps_in (entry_of (of_kind r k))) ≡ map kind_of (steps_of_kind k)

drop-map : (f : ℕ) (l : List ProgramStep) → drop f (map kind_of l) ≡ map kind_of (drop f l)
drop-map zero l = refl
drop-map (suc f) [] = refl
drop-map (suc f) (s ∷ l) = drop-map f l

module _ (g : Columns) (fits : Fits g) (p : ℕ) (h : p < processors) where
  kinds-from : (a n : ℕ) → a + n ≤ count_in g p → map kind_of (steps_from g p a n) ≡ step_kinds_from g.kinds p a n
  unfolding steps_from step_kinds_from
  kinds-from a zero l = refl
  kinds-from a (suc n) l =
      map-append kind_of (steps_at g p a) (steps_from g p (suc a) n)
      ∙ (λ j. same-kinds (instruction_at g p a) (fits.each p a h (omega arith)).kind j ++ kinds-from (suc a) n (omega arith) j)

  program-left : (a f : ℕ) → a ≤ count_in g p → program_left g.kinds p (count_in g p) a f ≡ length (left_from g p a f) + writes (left_from g p a f)
  program-left a f l =
      ap (λ (ks : List ℕ). weight (drop f ks)) (sym (kinds-from a (count_in g p - a) (omega arith)))
      ∙ ap weight (drop-map f (steps_from g p a (count_in g p - a))) ∙ steps-weight (left_from g p a f)

-- ---- and so are a processor and all four

writes-length : (xs vs : List ℕ) → length xs ≡ length vs → length (writes_in xs vs) ≡ length xs
unfolding writes_in
writes-length [] vs h = refl
writes-length (x ∷ xs) [] h = absurd (omega arith)
writes-length (x ∷ xs) (v ∷ vs) h = omega (arith, writes-length xs vs (omega arith))

module _ (g : Columns) (m : State) (ready : Ready g m) where
  module _ (p : ℕ) (h : p < processors) where
    abbrev n : ℕ
    n = get_or m.issued p 0

    abbrev d : ℕ
    d = get_or m.drained p 0

    at : ReadyAt g m p
    at = ready.each p h

    few : n ≤ instructions_each
    few = let r = at.room in omega arith

    countable : CountableAt g m p
    unfolding instruction_at
    countable = record {
      program = record {
        processor = h;
        few = ready.fits.few p;
        each = λ b l. ((ready.fits.each p b h l).kind, (stands-first g p b ready.fits h (omega arith)).inside l);
        inside = at.stands.inside;
      };
      order = at.order;
      few = few;
    }

    abbrev part : List ℕ → List ℕ
    part l = slice (place_at p d) (place_at p n) l

    waiting-length : length (waiting_in m p) ≡ n - d
    unfolding waiting_in
    waiting-length =
        let o = at.order in
        let inside : place_at p n ≤ processors * instructions_each = omega (arith, few) in
        let xs : length (part m.locations) ≡ place_at p n - place_at p d = length-slice (place_at p d) (place_at p n) m.locations (rw ready.long.log_locations inside) in
        let vs : length (part m.values) ≡ place_at p n - place_at p d = length-slice (place_at p d) (place_at p n) m.values (rw ready.long.log_values inside) in
        let z : place_at p n - place_at p d ≡ n - d = omega arith in
        writes-length (part m.locations) (part m.values) (xs ∙ sym vs) ∙ xs ∙ z

    processor-left : processor_left g m p ≡ left_of (processor_of g m p)
    unfolding left_of processor_of todo_in
    processor-left = rw (waiting-length, program-left g ready.fits p h (get_or m.at p 0) (get_or m.phase p 0) at.stands.at)

  pub all-countable : AllCountable g m
  all-countable = record { each = countable }

  pub left_is : left_in g m ≡ left (machine_of g m)
  unfolding left_of_first left model_left_in machine_of
  left_is = omega (arith, processor-left 0 (lit< tt), processor-left 1 (lit< tt), processor-left 2 (lit< tt), processor-left 3 (lit< tt))
