-- What is left of a program: its next step, and what is left after it.
use mathlib.Core.Path.{◌≡◌, refl, sym, ap, ◌∙◌}
use mathlib.Core.Bool.{Bool, true, false, cond}
use mathlib.Core.List.{List, [], ◌∷◌}
use Prim.Native.Nat.{ℕ, suc, ◌+◌, ◌-◌, ◌≤◌, ◌<◌}
use native.Mathlib.Numerals.{add-one}
use native.Mathlib.Omega.{arith}
use lib.ListN.{length, get_or, drop, set}
use lib.Seq.{drop-nil}
use lib.Dec.{eqb, lit<}
use borrow.Author.Tests.{eqb-true, eqb-false}
use Rattle.model.specs.declared.record.Record.{Record}
use Rattle.model.specs.declared.kind.Role.{Role}
use Rattle.model.specs.declared.kind.Role.TheVariants.{Unknown, InitialMemory, InitialRegister, StoreConstant, StoreRegister, Load, SetRegister, Fence, Exchange, ExchangeAdd}
use Rattle.model.specs.Program.{ProgramStep, read, write, fence, lock, unlock, local, Target, into, aside, Source, constant, register, swapped, added}
use Rattle.model.specs.Sizes.{processors}
use Rattle.model.specs.Kinds.{table_uses, table_rows, entry_of}
use Rattle.model.specs.Machine.{Processor, issued, exchanged}
use Rattle.model.specs.Reading.{is_instruction}
use Rattle.model.specs.Code.{Columns, role_of, acts, acts_of, steps_in, instruction_at, steps_from, count_in, Fits}
use Rattle.model.proofs.Bools.{false-true}
use Rattle.model.proofs.Roles.{by-role, of_kind}
use Rattle.model.proofs.Rows.{AllBelow, below}
use Rattle.model.proofs.Columns.{steps_at, entry-weight, next-phase, next-instruction}
use Rattle.machine_rules.specs.Steps.{steps_of_kind, step_kind, step_count}
use Rattle.machine.specs.View.{left_from}
use Rattle.machine.specs.Ready.{Stands}

-- ---- the program steps of a record, by its kind

-- where a load's or an exchange's read goes, and what a write issues
abbrev pub target_of : Record → Target
target_of r = cond (acts_of r.kind).loads (into r.register) aside

abbrev pub source_as : Role → Record → Source
source_as Unknown r = register r.register
source_as InitialMemory r = register r.register
source_as InitialRegister r = register r.register
source_as StoreConstant r = constant r.value
source_as StoreRegister r = register r.register
source_as Load r = register r.register
source_as SetRegister r = register r.register
source_as Fence r = register r.register
source_as Exchange r = swapped r.register
source_as ExchangeAdd r = added r.register

abbrev pub source_of : Record → Source
source_of r = source_as (role_of r.kind) r

-- the program step of r that has kind n
abbrev pub step_for : Record → ℕ → ProgramStep
step_for r n =
    get_or
    (fence ∷ read r.location (target_of r) ∷ write r.location (source_of r) ∷ fence ∷ fence ∷ lock ∷ unlock ∷ local r.register r.value ∷ [])
    n
    fence

module _ (r : Record) where
  abbrev Counts : ℕ → Type 0
  Counts k = length (steps_in (entry_of (of_kind r k))) ≡ step_count k

  pub count-is : r.kind < table_rows → length (steps_in (entry_of r)) ≡ step_count r.kind
  unfolding steps_in step_count table_uses
  count-is h = below table_rows Counts (refl, (refl, (refl, (refl, (refl, (refl, (refl, (refl, (refl, (refl, (refl, (refl, tt)))))))))))) r.kind h

  abbrev Next : ℕ → ℕ → Type 0
  Next k f = get_or (steps_in (entry_of (of_kind r k))) f fence ≡ step_for (of_kind r k) (step_kind k f)

  nexts : AllBelow table_rows (λ k. AllBelow (step_count k) (Next k))
  unfolding steps_in step_count step_kind role_of table_uses
  nexts =
      (tt, (tt, (tt, ((refl, tt), ((refl, tt), ((refl, tt), ((refl, tt), ((refl, tt), ((refl, (refl, tt)), ((refl, (refl, (refl, (refl, tt)))), ((refl, (refl, tt)), ((refl, (refl, (refl, (refl, tt)))), tt))))))))))))

  pub next-is : (f : ℕ) → r.kind < table_rows → f < step_count r.kind → Next r.kind f
  next-is f h l = below (step_count r.kind) (Next r.kind) (below table_rows (λ k. AllBelow (step_count k) (Next k)) nexts r.kind h) f l

  some-steps : r.kind < table_rows → is_instruction (entry_of r) ≡ true → 0 < step_count r.kind
  unfolding step_count steps_in table_uses
  some-steps h =
      below table_rows (λ k. is_instruction (entry_of (of_kind r k)) ≡ true → 0 < step_count k) (
        false-true,
        (false-true, (false-true, (λ e. lit< tt, (λ e. lit< tt, (λ e. lit< tt, (λ e. lit< tt, (λ e. lit< tt, (λ e. lit< tt, (λ e. lit< tt, (λ e. lit< tt, (λ e. lit< tt, tt))))))))))),
      ) r.kind h

-- what its write issues
module _ (r : Record) (P : Processor) where
  pub issues : issued P (source_of r) ≡ (acts_of r.kind).issues r.value P.kept (get_or P.registers r.register 0)
  unfolding issued
  issues = by-role (λ o. issued P (source_as o r) ≡ (acts o).issues r.value P.kept (get_or P.registers r.register 0)) refl refl refl refl refl refl refl refl refl refl (role_of r.kind)

  -- and the register after it
  pub exchanges-is : exchanged P (source_of r) ≡ cond (acts_of r.kind).exchanges (set P.registers r.register P.kept) P.registers
  unfolding exchanged
  exchanges-is =
      by-role (λ o. exchanged P (source_as o r) ≡ cond (acts o).exchanges (set P.registers r.register P.kept) P.registers) refl refl refl refl refl refl refl refl refl refl (role_of r.kind)

few-steps : (k : ℕ) → step_count k ≤ 4
unfolding step_count steps_of_kind
few-steps k = (entry-weight (entry_of (record { kind = k; processor = 0; register = 0; location = 0; value = 0 }))).0

-- what holds for read, write, fence, lock, unlock and local holds for every program step's kind
pub by_kind : (K : ℕ → Type 0) → K 1 → K 2 → K 4 → K 5 → K 6 → K 7 → (k f : ℕ) → k < table_rows → f < step_count k → K (step_kind k f)
unfolding step_count step_kind steps_in table_uses
by_kind K r w e l u n k f h o =
    below (step_count k) (λ f. K (step_kind k f)) (
    below table_rows (λ k. AllBelow (step_count k) (λ f. K (step_kind k f)))
    (tt, (tt, (tt, ((w, tt), ((w, tt), ((r, tt), ((n, tt), ((e, tt), ((r, (w, tt)), ((l, (r, (w, (u, tt)))), ((r, (w, tt)), ((l, (r, (w, (u, tt)))), tt)))))))))))) k h
    ) f o

-- ---- at instruction a, of which f steps are taken

module _ (g : Columns) (p a f : ℕ) where
  -- after one step more
  abbrev pub rest_at : List ProgramStep
  rest_at = drop (suc f) (steps_from g p a (count_in g p - a))

  pub none_left : count_in g p ≤ a → left_from g p a f ≡ []
  unfolding steps_from
  none_left h = let e : count_in g p - a ≡ 0 = omega arith in ap (λ (n : ℕ). drop f (steps_from g p a n)) e ∙ drop-nil f

  module _ (high : (instruction_at g p a).kind < table_rows) (h : a < count_in g p) (inside : f < step_count (instruction_at g p a).kind) where
    more : count_in g p - a ≡ suc (count_in g p - suc a)
    more = omega arith

    pub next-left : left_from g p a f ≡ step_for (instruction_at g p a) (step_kind (instruction_at g p a).kind f) ∷ rest_at
    next-left =
        ap (λ (n : ℕ). drop f (steps_from g p a n)) more ∙ next-phase g p a (count_in g p - suc a) f (rw (count-is (instruction_at g p a) high) inside)
        ∙ (λ j. next-is (instruction_at g p a) f high inside j ∷ drop (suc f) (steps_from g p a (sym more j)))

    pub rest-left : (b : Bool) → eqb (f + 1) (step_count (instruction_at g p a).kind) ≡ b
        → drop (cond b 0 (f + 1)) (steps_from g p (cond b (a + 1) a) (count_in g p - cond b (a + 1) a)) ≡ rest_at
    rest-left true e =
        let last : length (steps_at g p a) ≡ suc f = count-is (instruction_at g p a) high ∙ sym (eqb-true _ _ e) ∙ add-one f in
        sym (
        (λ j. drop (sym last j) (steps_from g p a (more j)))
        ∙ next-instruction g p a (count_in g p - suc a) ∙ (λ j. steps_from g p (sym (add-one a) j) (count_in g p - sym (add-one a) j))
        )
    rest-left false e = λ j. drop (add-one f j) (steps_from g p a (count_in g p - a))

-- ---- where a processor may stand

-- at the first step of an instruction
pub stands-first : (g : Columns) (p a : ℕ) → Fits g → p < processors → a ≤ count_in g p → Stands g p a 0
stands-first g p a fits h l = record {
  at = l;
  phase = lit< tt;
  inside = λ o. let t = fits.each p a h o in some-steps (instruction_at g p a) t.kind t.instruction;
}

-- past one step
pub stands-next : (g : Columns) (p a f : ℕ) → Fits g → p < processors → Stands g p a f → a < count_in g p
    → (b : Bool) → eqb (f + 1) (step_count (instruction_at g p a).kind) ≡ b → Stands g p (cond b (a + 1) a) (cond b 0 (f + 1))
stands-next g p a f fits h s l true e = stands-first g p (a + 1) fits h (omega arith)
stands-next g p a f fits h s l false e =
    let x = eqb-false (f + 1) (step_count (instruction_at g p a).kind) e in
    let o = s.inside l in
    let n : f + 1 < step_count (instruction_at g p a).kind = omega arith in
    record { at = s.at; phase = omega (arith, few-steps (instruction_at g p a).kind); inside = λ q. n }
