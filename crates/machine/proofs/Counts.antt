-- What a step that is offered counts, and that it lowers k: so there are no more reads to count than steps.
use mathlib.Core.Path.{◌≡◌, refl, sym, ap, ◌∙◌}
use mathlib.Core.Bool.{Bool, true, false, cond}
use mathlib.Core.List.{List}
use Prim.Native.Nat.{ℕ, suc, ◌+◌, ◌≤◌, ◌<◌}
use native.Mathlib.Nat.{add-zero}
use native.Mathlib.Omega.{arith}
use lib.ListN.{get_or}
use lib.Dec.{eqb}
use borrow.Author.Tests.{ne_eqb}
use Rattle.model.specs.declared.record.Record.{Record}
use Rattle.model.specs.Sizes.{processors, longest_trace}
use Rattle.model.specs.Machine as model
use Rattle.model.specs.Machine.{WaitingWrite, Processor, processor}
use Rattle.model.specs.Left.{left}
use Rattle.model.specs.Rules.{Event, event, served}
use Rattle.model.specs.Step.{origin_in, origin_of, served_own}
use Rattle.model.specs.Code.{Columns, count_in}
use Rattle.model.proofs.Left.{move-less}
use Rattle.model.proofs.Steps.{served-few}
use Rattle.machine_rules.specs.Steps.{step_kind}
use Rattle.machine_rules.specs.Offers.{next_in, oldest_in}
use Rattle.machine_rules.specs.Programs.{Fetched}
use Rattle.machine_state.specs.State.{State}
use Rattle.machine.specs.View.{waiting_in, processor_of, machine_of}
use Rattle.machine.specs.Arrays.{oldest_of, next_of, offered_of}
use Rattle.machine.specs.Stores.{carried_out, after_event}
use Rattle.machine.specs.Ready.{ReadyAt, Ready}
use Rattle.machine.proofs.Todo.{by_kind}
use Rattle.machine.proofs.Changes.{processor-is}
use Rattle.machine.proofs.Sim.{is-instruction, move-is}
use Rattle.machine.proofs.Offered.{by-offer}

module _ (g : Columns) (m : State) (ready : Ready g m) (i : Record) (here : Fetched g i.processor (get_or m.at i.processor 0) i) (h : i.processor < processors) where
  abbrev p : ℕ
  p = i.processor

  abbrev a : ℕ
  a = get_or m.at p 0

  abbrev f : ℕ
  f = get_or m.phase p 0

  abbrev n : ℕ
  n = get_or m.issued p 0

  abbrev d : ℕ
  d = get_or m.drained p 0

  abbrev M : model.Machine
  M = machine_of g m

  at : ReadyAt g m p
  at = ready.each p h

  -- ---- what is counted

  abbrev Counts : Event → Type 0
  Counts o = (after_event m i o).own ≡ m.own + served_own M o

  drain-counts : 0 < (oldest_of m i).kind → Counts (oldest_of m i)
  unfolding oldest_in after_event served_own
  drain-counts = go (eqb d n) _ _
    where
      go : (c : Bool) (x v : ℕ) → 0 < (cond c (event 0 p 0 0) (event 3 p x v)).kind → Counts (cond c (event 0 p 0 0) (event 3 p x v))
      go true x v z = absurd (omega arith)
      go false x v z = sym (add-zero m.own)

  waits : (processor M p).waiting ≡ waiting_in m p
  unfolding processor_of
  waits = ap (λ (P : Processor). P.waiting) (processor-is g m p h)

  next-counts : a < count_in g p → Counts (next_of m i (step_kind i.kind f))
  unfolding after_event carried_out next_in served_own origin_of
  next-counts l =
      by_kind (λ k. Counts (next_of m i k))
      (ap (λ (ws : List WaitingWrite). m.own + served (origin_in ws i.location)) (sym waits))
      (sym (add-zero m.own)) (sym (add-zero m.own)) (sym (add-zero m.own)) (sym (add-zero m.own)) (sym (add-zero m.own))
      i.kind f here.kind (rw (ap (λ (r : Record). r.kind) (is-instruction g m ready i here h l)) (at.stands.inside l))

  pub offered-counts : (k : ℕ) → 0 < (offered_of m i k).kind → Counts (offered_of m i k)
  offered-counts = by-offer g m ready i here h Counts drain-counts next-counts

  -- ---- k

  pub offered-less : (k : ℕ) → 0 < (offered_of m i k).kind → left M ≡ suc (left (machine_of g (after_event m i (offered_of m i k))))
  offered-less k z =
      let o = offered_of m i k in
      move-less M (event k p 0 0) (record { event = o; after = machine_of g (after_event m i o) }) (move-is g m ready i here h (event k p 0 0) refl ∙ rw (ne_eqb o.kind 0 (λ w. omega arith)) refl)

  abbrev pub Bounded : Event → Type 0
  Bounded o = (after_event m i o).own + left (machine_of g (after_event m i o)) ≤ longest_trace

  pub bounded : (k : ℕ) → 0 < (offered_of m i k).kind → Bounded (offered_of m i k)
  bounded k z = omega (arith, ready.counts, offered-counts k z, offered-less k z, served-few M (offered_of m i k))
