-- A step of a state is a step of the machine that it stands for.
use mathlib.Core.Path.{◌≡◌, refl, sym, ap, ◌∙◌}
use mathlib.Core.Bool.{Bool, true, false, cond, not}
use mathlib.Core.Option.{Option, none}
use mathlib.Core.List.{List, [], ◌∷◌}
use Prim.Native.Nat.{ℕ, ◌+◌, ◌≤◌, ◌<◌}
use native.Mathlib.Omega.{arith}
use lib.ListN.{get_or}
use lib.Seq.{get_or-set_same}
use lib.Dec.{eqb, ltb}
use borrow.Author.Tests.{eqb-true, ne_eqb, ltb-true, ltb-false, lt-ltb, le-ltb}
use Rattle.model.specs.declared.record.Record.{Record}
use Rattle.model.specs.Program.{ProgramStep}
use Rattle.model.specs.Sizes.{processors}
use Rattle.model.specs.Kinds.{table_rows}
use Rattle.model.specs.Machine as model
use Rattle.model.specs.Machine.{Processor, processor}
use Rattle.model.specs.declared.answer.Condition.{Condition}
use Rattle.model.specs.declared.answer.Condition.TheVariants.{AnotherKind, NothingWaits, LockHeld, BufferNotEmpty, NotRight}
use Rattle.model.specs.Rules.{Event, event, conditions}
use Rattle.model.specs.Step.{Move, is_empty, blocked, same, move, drain_move, next_move, move_for, is_so, met, first_met, stepped, after_move, step}
use Rattle.model.specs.Code.{Columns, instruction_at, count_in}
use Rattle.machine.specs.View.{todo_in, processor_of, holder_of, machine_of}
use Rattle.machine_rules.specs.Steps.{steps_of_kind, step_kind, step_count}
use Rattle.machine_rules.specs.Programs.{fetched, Fetched}
use Rattle.machine_rules.specs.Offers.{next_in, offered_in}
use Rattle.machine.specs.Arrays.{oldest_of, next_of, offered_of}
use Rattle.machine.specs.Next.{met_of, found_of}
use Rattle.machine.specs.Stores.{after_event}
use Rattle.machine_store.specs.Stores.{is_last, advanced_in}
use Rattle.machine.specs.Ready.{ReadyAt, Ready}
use Rattle.machine_store.specs.Stores.{Own}
use Rattle.machine.proofs.Todo.{step_for, rest_at, none_left, next-left, rest-left}
use Rattle.machine.proofs.Changes.{processor-is, at_next}
use Rattle.machine.proofs.Locks.{blocked-is}
use Rattle.machine.proofs.Moves.{offer, empty-is, oldest-offer, offers}
use Rattle.machine_state.specs.State.{State}

pub unlike : (e o : Event) → ¬ (e.kind ≡ o.kind) → same e o ≡ false
unfolding same
unlike e o n = rw (ne_eqb e.kind o.kind n)

module _ (g : Columns) (m : State) (ready : Ready g m) (i : Record) (here : Fetched g i.processor (get_or m.at i.processor 0) i) (h : i.processor < processors) where
  abbrev p : ℕ
  p = i.processor

  abbrev a : ℕ
  a = get_or m.at p 0

  abbrev f : ℕ
  f = get_or m.phase p 0

  abbrev M : model.Machine
  M = machine_of g m

  own : Own i
  own = record { processor = h; register = here.register }

  at : ReadyAt g m p
  at = ready.each p h

  todo-is : (processor M p).todo ≡ todo_in g m p
  unfolding processor_of
  todo-is = ap (λ (P : Processor). P.todo) (processor-is g m p h)

  -- ---- inside the program

  pub is-instruction : a < count_in g p → i ≡ instruction_at g p a
  unfolding fetched
  is-instruction l = here.here ∙ rw (lt-ltb a (count_in g p) l)

  module _ (l : a < count_in g p) where
    kind-is : i.kind ≡ (instruction_at g p a).kind
    kind-is = ap (λ (r : Record). r.kind) (is-instruction l)

    high : (instruction_at g p a).kind < table_rows
    high = rw (sym kind-is) here.kind

    abbrev pub rest : List ProgramStep
    rest = rest_at g p a f

    pub todo-next : todo_in g m p ≡ step_for i (step_kind i.kind f) ∷ rest
    unfolding todo_in
    todo-next = next-left g p a f high l (at.stands.inside l) ∙ (λ j. step_for (sym (is-instruction l) j) (step_kind (sym kind-is j) f) ∷ rest)

    pub goes_on : (o : State) → o.at ≡ m.at → o.phase ≡ m.phase → todo_in g (advanced_in o i) p ≡ rest
    unfolding todo_in
    goes_on o ea ef =
        rw (
          ea,
          ef,
          at_next g m.at m.phase i (rw ready.long.at h),
          get_or-set_same m.phase p (cond (is_last m.phase i.kind p) 0 (f + 1)) 0 (rw ready.long.phase h),
        )
        (rest-left g p a f high l (at.stands.inside l) (is_last m.phase i.kind p) (ap (λ (k : ℕ). eqb (f + 1) (step_count k)) (sym kind-is)))

  -- ---- past its end

  past : count_in g p ≤ a → todo_in g m p ≡ []
  unfolding todo_in
  past l = none_left g p a f l

  pub is_none : count_in g p ≤ a → i ≡ event 0 p 0 0
  unfolding fetched
  is_none l = here.here ∙ rw (le-ltb a (count_in g p) l)

  none-offered : count_in g p ≤ a → next_move M p [] ≡ offer g m i (next_of m i (step_kind i.kind f))
  unfolding next_move next_in step_kind steps_of_kind
  none-offered l = let z : i.kind ≡ 0 = ap (λ (r : Record). r.kind) (is_none l) in rw z

  -- ---- the program step offered, or none

  pub next-offer : next_move M p (processor M p).todo ≡ offer g m i (next_of m i (step_kind i.kind f))
  next-offer = rw todo-is (go (ltb a (count_in g p)) refl)
    where
      go : (b : Bool) → ltb a (count_in g p) ≡ b → next_move M p (todo_in g m p) ≡ offer g m i (next_of m i (step_kind i.kind f))
      go true e =
          let l = ltb-true a (count_in g p) e in
          ap (next_move M p) (todo-next l)
          ∙ offers g m ready i own (rest l) (goes_on l) i.kind f here.kind (rw (kind-is l) (at.stands.inside l)) (todo-next l)
      go false e = ap (next_move M p) (past (ltb-false a (count_in g p) e)) ∙ none-offered (ltb-false a (count_in g p) e)

  -- ---- the step

  pub move-is : (e : Event) → e.processor ≡ p → move_for M e ≡ offer g m i (offered_of m i e.kind)
  unfolding move_for offered_in
  move-is e q = (λ j. cond (eqb e.kind 3) (drain_move M (q j) (processor M (q j)).waiting) (next_move M (q j) (processor M (q j)).todo)) ∙ go (eqb e.kind 3)
    where
      go : (b : Bool) → cond b (drain_move M p (processor M p).waiting) (next_move M p (processor M p).todo) ≡ offer g m i (cond b (oldest_of m i) (next_of m i (step_kind i.kind f)))
      go true = oldest-offer g m ready i own
      go false = next-offer

  -- a step that is offered is so, if no step of kind 0 is
  offered-so : (so : Event → Bool) (o : Event) → (o.kind ≡ 0 → so o ≡ false) → is_so so (offer g m i o) ≡ so o
  unfolding is_so
  offered-so so o n = go (eqb o.kind 0) refl
    where
      go : (b : Bool) → eqb o.kind 0 ≡ b → is_so so (cond b none (move o (machine_of g (after_event m i o)))) ≡ so o
      go true z = sym (n (eqb-true o.kind 0 z))
      go false z = refl

  module _ (e : Event) (k : 0 < e.kind) (q : e.processor ≡ p) where
    abbrev o : Event
    o = offered_of m i e.kind

    not_none : o.kind ≡ 0 → ¬ (e.kind ≡ o.kind)
    not_none z w = omega arith

    met-is : (c : Condition) → met M e c ≡ met_of m i o e c
    unfolding met machine_of
    met-is AnotherKind = ap (λ (u : Option Move). not (is_so (λ (u : Event). eqb e.kind u.kind) u)) (move-is e q) ∙ ap not (offered-so (λ u. eqb e.kind u.kind) o (λ z. ne_eqb e.kind o.kind (not_none z)))
    met-is NothingWaits = ap (λ (r : ℕ). is_empty (processor M r).waiting) q ∙ empty-is g m ready i own
    met-is LockHeld = ap (blocked (holder_of m.holder)) q ∙ blocked-is m.holder p
    met-is BufferNotEmpty = ap not (ap (λ (r : ℕ). is_empty (processor M r).waiting) q ∙ empty-is g m ready i own)
    met-is NotRight = ap (λ (u : Option Move). not (is_so (same e) u)) (move-is e q) ∙ ap not (offered-so (same e) o (λ z. unlike e o (not_none z)))

    pub step_is : step M e ≡ stepped (found_of m i o e) (after_move M (offer g m i o))
    unfolding step
    step_is = λ j. stepped (first_met (λ c. met-is c j) (conditions e.kind)) (after_move M (move-is e q j))

  pub offered-after : (o : Event) → 0 < o.kind → after_move M (offer g m i o) ≡ machine_of g (after_event m i o)
  unfolding after_move
  offered-after o k = rw (ne_eqb o.kind 0 (λ z. omega arith))
