-- A step that is taken keeps what holds of a state at every step.
use mathlib.Core.Path.{◌≡◌, refl, sym, ◌∙◌}
use mathlib.Core.Bool.{Bool, true, false, cond}
use Prim.Native.Nat.{ℕ, ◌+◌, ◌≤◌, ◌<◌}
use native.Mathlib.Omega.{arith}
use lib.ListN.{get_or}
use lib.Seq.{get_or-set_same, get_or-set_other}
use lib.Dec.{eqb}
use borrow.Author.Tests.{eqb-true, eqb-false, ne_eqb}
use Rattle.model.specs.declared.record.Record.{Record}
use Rattle.model.specs.Sizes.{processors, longest_trace}
use Rattle.model.specs.Left.{left}
use Rattle.model.specs.Rules.{Event, event}
use Rattle.model.specs.Code.{Columns, count_in}
use Rattle.machine.specs.View.{todo_in, machine_of}
use Rattle.machine_rules.specs.Steps.{step_kind}
use Rattle.machine.specs.Arrays.{oldest_of, next_of, offered_of}
use Rattle.machine_rules.specs.Offers.{oldest_in}
use Rattle.machine.specs.Stores.{carried_out, after_event}
use Rattle.machine_store.specs.Stores.{after_drain}
use Rattle.machine.specs.Ready.{ReadyAt, Ready}
use Rattle.machine_rules.specs.Programs.{Fetched}
use Rattle.machine.proofs.Lengths.{drained-long}
use Rattle.machine.proofs.Keeps.{carries, ready-advanced}
use Rattle.machine.proofs.Offered.{next-fields, not-drain, by-offer}
use Rattle.machine.proofs.Counts.{Bounded, bounded}
use Rattle.machine_state.specs.State.{State}

module _ (g : Columns) (m : State) (ready : Ready g m) (i : Record) (here : Fetched g i.processor (get_or m.at i.processor 0) i) (h : i.processor < processors) where
  abbrev p : ℕ
  p = i.processor

  abbrev a : ℕ
  a = get_or m.at p 0

  abbrev f : ℕ
  f = get_or m.phase p 0

  abbrev n : ℕ
  n = get_or m.issued p 0

  at : ReadyAt g m p
  at = ready.each p h

  -- ---- the drain

  abbrev d : ℕ
  d = get_or m.drained p 0

  ready-drained : (x v : ℕ) → d < n → m.own + left (machine_of g (after_drain m (event 3 p x v))) ≤ longest_trace → Ready g (after_drain m (event 3 p x v))
  unfolding todo_in
  ready-drained x v l counts = record { fits = ready.fits; long = drained-long m ready.long (event 3 p x v); in_log = ready.in_log; each = λ q o. go q o (eqb q p) refl; counts = counts }
    where
      go : (q : ℕ) → q < processors → (b : Bool) → eqb q p ≡ b → ReadyAt g (after_drain m (event 3 p x v)) q
      go q o true e =
          let y : ReadyAt g (after_drain m (event 3 p x v)) p = record {
            order = rw (get_or-set_same m.drained p (d + 1) 0 (rw ready.long.drained h)) (omega arith);
            room = at.room;
            stands = at.stands;
          } in
          rw (eqb-true q p e) y
      go q o false e =
          let y = ready.each q o in
          record {
            order = rw (get_or-set_other m.drained p q (d + 1) 0 (eqb-false q p e)) y.order;
            room = y.room;
            stands = y.stands;
          }

  -- ---- either

  abbrev Taken : Event → Type 0
  Taken o = Bounded g m ready i here h o → Ready g (after_event m i o)

  next-taken : a < count_in g p → Taken (next_of m i (step_kind i.kind f))
  unfolding after_event
  next-taken l =
      let o = next_of m i (step_kind i.kind f) in
      let fields = next-fields g m ready i here h (step_kind i.kind f) in
      let other : ¬ (o.kind ≡ 3) = λ z. not-drain g m ready i here h l (sym fields.0 ∙ z) in
      rw (ne_eqb o.kind 3 other) (ready-advanced g m ready i here h l (carried_out m i o) (carries g m ready i here h l))

  drain-taken : 0 < (oldest_of m i).kind → Taken (oldest_of m i)
  unfolding oldest_in after_event
  drain-taken = go (eqb d n) refl _ _
    where
      go : (c : Bool) → eqb d n ≡ c → (x v : ℕ) → 0 < (cond c (event 0 p 0 0) (event 3 p x v)).kind → Taken (cond c (event 0 p 0 0) (event 3 p x v))
      go true w x v z = absurd (omega arith)
      go false w x v z = let o = at.order in ready-drained x v (omega (arith, eqb-false d n w))

  -- whatever is offered, if it is a step, may be taken
  pub offered-taken : (k : ℕ) → 0 < (offered_of m i k).kind → Ready g (after_event m i (offered_of m i k))
  offered-taken k z = by-offer g m ready i here h Taken drain-taken next-taken k z (bounded g m ready i here h k z)
