-- What the code stores when a run is finished is what the theory says, kind by kind.
use mathlib.Core.Path.{◌≡◌, refl, sym, ap, ◌∙◌}
use mathlib.Core.List.{[]}
use Prim.Native.Nat.{ℕ}
use native.Mathlib.Nat.{add-zero}
use lib.ListN.{get_or}
use Rattle.std.specs.Prelude.{Some}
use Rattle.model.specs.declared.origin.Origin.TheVariants.{Memory}
use Rattle.model.specs.declared.record.Record.{Record}
use Rattle.model.specs.Code.{register_of, acts_of}
use Rattle.model.specs.Rules.{event}
use Rattle.model.specs.Step.{origin_in, seen_in}
use Rattle.machine_rules.specs.declared.program.Step.TheVariants.{Read, Write, Fence, Lock, Unlock, Local}
use Rattle.machine_rules.specs.Guards.{nobody}
use Rattle.machine_rules.specs.Offers.{next_in}
use Rattle.machine_state.specs.State.{State, parts}
use Rattle.machine_store.specs.Stores.{assigned_in, received_in, counted_in, wrote_in, held_in}
use Rattle.machine.specs.View.{waiting_in}
use Rattle.machine.specs.Stores.{carried_out}
use Rattle.machine.proofs.Logs.{none-waits}
use Rattle.finish_step.specs.Moves.{CarriesOut}

module _ (m : State) (i : Record) where
  abbrev q : ℕ
  q = i.processor

  abbrev x : ℕ
  x = i.location

  -- where nothing waits, memory is read
  pub read-carried : get_or m.drained q 0 ≡ get_or m.issued q 0 → let v = get_or m.memory x 0 in CarriesOut m i Read (event 1 q x v) (received_in m i v)
  unfolding next_in carried_out waiting_in seen_in origin_in
  read-carried dry =
      let none : waiting_in m q ≡ [] = none-waits m q dry in
      let v = get_or m.memory x 0 in
      record {
        says = ap (event 1 q x) (sym (ap (λ (ws : _). seen_in ws x v) none));
        after = uncounted (received_in m i v) ∙ ap (λ (ws : _). counted_in (received_in m i v) (origin_in ws x)) (sym none);
      }
    where
      uncounted : (n : State) → n ≡ counted_in n Memory
      uncounted n = ap (λ (own : ℕ). parts n.registers n.memory n.kept n.at n.phase n.locations n.values n.issued n.drained n.holder own) (sym (add-zero n.own))

  pub write-carried : (v : ℕ) → v ≡ (acts_of i.kind).issues i.value (get_or m.kept q 0) (get_or m.registers (register_of i) 0)
      → CarriesOut m i Write (event 2 q x v) (wrote_in m i (event 2 q x v))
  unfolding next_in carried_out
  write-carried v f = record { says = ap (event 2 q x) f; after = refl }

  pub fence-carried : CarriesOut m i Fence (event 4 q 0 0) m
  unfolding next_in carried_out
  fence-carried = record { says = refl; after = refl }

  pub lock-carried : CarriesOut m i Lock (event 5 q 0 0) (held_in m (Some q))
  unfolding next_in carried_out
  lock-carried = record { says = refl; after = refl }

  pub unlock-carried : CarriesOut m i Unlock (event 6 q 0 0) (held_in m nobody)
  unfolding next_in carried_out
  unlock-carried = record { says = refl; after = refl }

  pub local-carried : CarriesOut m i Local (event 7 q 0 0) (assigned_in m i i.value)
  unfolding next_in carried_out
  local-carried = record { says = refl; after = refl }
