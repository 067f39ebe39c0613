-- The step that is offered: its fields, where it can be, and what holds of it.
use mathlib.Core.Path.{◌≡◌, refl, sym, ap, ◌∙◌}
use mathlib.Core.Bool.{Bool, true, false, cond}
use mathlib.Core.List.{◌∷◌}
use Prim.Native.Nat.{ℕ, suc, ◌<◌}
use native.Mathlib.Omega.{arith}
use lib.ListN.{get_or}
use lib.Dec.{eqb, ltb}
use borrow.Author.Tests.{eqb-true, ne_eqb, ltb-true, ltb-false}
use Rattle.model.specs.declared.record.Record.{Record}
use Rattle.model.specs.Sizes.{processors, instructions_each}
use Rattle.model.specs.Left.{writes}
use Rattle.model.specs.Rules.{Event, event}
use Rattle.model.specs.Code.{Columns, count_in}
use Rattle.machine.specs.View.{todo_in}
use Rattle.machine_rules.specs.Steps.{steps_of_kind, step_kind}
use Rattle.machine.specs.Arrays.{oldest_of, next_of, offered_of}
use Rattle.machine_rules.specs.Offers.{next_in, offered_in}
use Rattle.machine.specs.Ready.{ReadyAt, Ready}
use Rattle.machine_rules.specs.Programs.{Fetched}
use Rattle.machine.proofs.Todo.{step_for, by_kind}
use Rattle.machine.proofs.Sim.{is-instruction, is_none, rest, todo-next}
use Rattle.machine_state.specs.State.{State}

module _ (g : Columns) (m : State) (ready : Ready g m) (i : Record) (here : Fetched g i.processor (get_or m.at i.processor 0) i) (h : i.processor < processors) where
  abbrev p : ℕ
  p = i.processor

  abbrev a : ℕ
  a = get_or m.at p 0

  abbrev f : ℕ
  f = get_or m.phase p 0

  abbrev n : ℕ
  n = get_or m.issued p 0

  at : ReadyAt g m p
  at = ready.each p h

  -- ---- the program step that is offered

  abbrev Fields : Event → ℕ → Type 0
  Fields e k = (e.kind ≡ k) × (e.register ≡ 0)

  pub next-fields : (k : ℕ) → Fields (next_of m i k) k
  unfolding next_in
  next-fields k = go (eqb k 1) refl (eqb k 2) refl _ _
    where
      x : ℕ
      x = i.location

      go : (b : Bool) → eqb k 1 ≡ b → (c : Bool) → eqb k 2 ≡ c → (v w : ℕ) → Fields (cond b (event 1 p x v) (cond c (event 2 p x w) (event k p 0 0))) k
      go true e c y v w = (sym (eqb-true k 1 e), refl)
      go false e true y v w = (sym (eqb-true k 2 y), refl)
      go false e false y v w = (refl, refl)

  -- one that uses neither location nor value
  pub bare-next : (k : ℕ) → ¬ (k ≡ 1) → ¬ (k ≡ 2) → next_of m i k ≡ event k p 0 0
  unfolding next_in
  bare-next k r w = rw (ne_eqb k 1 r, ne_eqb k 2 w)

  -- a program step is offered only inside the program
  pub inside : 0 < step_kind i.kind f → a < count_in g p
  unfolding step_kind steps_of_kind
  inside z = go (ltb a (count_in g p)) refl
    where
      go : (b : Bool) → ltb a (count_in g p) ≡ b → a < count_in g p
      go true w = ltb-true a (count_in g p) w
      go false w =
          let none : i.kind ≡ 0 = ap (λ (r : Record). r.kind) (is_none g m ready i here h (ltb-false a (count_in g p) w)) in
          let x : step_kind i.kind f ≡ 0 = ap (λ (n : ℕ). step_kind n f) none in
          absurd (omega arith)

  -- what holds of the drain that is offered, if one is, and of the program step, holds of whatever is offered, if it is a step
  pub by-offer : (K : Event → Type 0) → (0 < (oldest_of m i).kind → K (oldest_of m i)) → (a < count_in g p → K (next_of m i (step_kind i.kind f)))
      → (k : ℕ) → 0 < (offered_of m i k).kind → K (offered_of m i k)
  unfolding offered_in
  by-offer K drain next k = go (eqb k 3)
    where
      go : (b : Bool) → 0 < (cond b (oldest_of m i) (next_of m i (step_kind i.kind f))).kind → K (cond b (oldest_of m i) (next_of m i (step_kind i.kind f)))
      go true z = drain z
      go false z = next (inside (rw (next-fields (step_kind i.kind f)).0 at z))

  module _ (l : a < count_in g p) where
    pub not-drain : ¬ (step_kind i.kind f ≡ 3)
    not-drain =
        by_kind (λ k. ¬ (k ≡ 3)) (λ z. omega arith) (λ z. omega arith) (λ z. omega arith) (λ z. omega arith) (λ z. omega arith) (λ z. omega arith) i.kind f here.kind
        (rw (ap (λ (r : Record). r.kind) (is-instruction g m ready i here h l)) (at.stands.inside l))

    pub room : step_kind i.kind f ≡ 2 → n < instructions_each
    unfolding writes
    room z =
        let t = todo-next g m ready i here h l in
        let w : writes (todo_in g m p) ≡ suc (writes (rest g m ready i here h l)) = ap writes (t ∙ ap (λ (k : ℕ). step_for i k ∷ rest g m ready i here h l) z) in
        let x = at.room in
        omega arith
