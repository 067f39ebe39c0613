-- A read, attempted: blocked, of another location or value, or taken.
use mathlib.Core.Path.{◌≡◌, refl, sym, ap, ◌∙◌}
use mathlib.Core.Bool.{Bool, true, false}
use Prim.Native.Nat.{ℕ}
use lib.ListN.{get_or}
use Rattle.std.specs.Prelude.{Ok, Err}
use Rattle.model.specs.declared.origin.Origin.{Origin}
use Rattle.model.specs.declared.answer.Condition.TheVariants.{LockHeld, NotRight}
use Rattle.model.specs.declared.record.Record.{Record}
use Rattle.model.specs.Rules.{conditions}
use Rattle.model.specs.Code.{place_at}
use Rattle.model.specs.Step.{origin_in, seen_in, first_met}
use Rattle.machine_rules.specs.Guards.{blocked_in}
use Rattle.machine_rules.specs.Lookups.{FindsIn, value_at, Reaches}
use Rattle.machine_rules.proofs.Offers.{reaches, value-is}
use Rattle.machine_state.specs.State.{State}
use Rattle.machine_store.specs.Stores.{received_in, counted_in}
use Rattle.machine_take.specs.Takes.{names, LogOf}
use Rattle.machine_read.specs.Reads.{waits_in, Reads}

module _ (m : State) (i e : Record) (log : LogOf m i.processor) (from : Origin)
    (found : FindsIn m.locations (get_or m.issued i.processor 0) (get_or m.drained i.processor 0) i.processor i.location from) where
  abbrev x : ℕ
  x = i.location

  -- where the oldest waiting write is in the log
  abbrev k : ℕ
  k = place_at i.processor (get_or m.drained i.processor 0)

  is-origin : from ≡ origin_in (waits_in m i.processor) x
  is-origin = found.says m.values log.values

  pub reached : Reaches from k
  reached = reaches m.locations _ _ _ log.locations log.part m.values log.values x from is-origin

  -- v is what the code sees, and `held` whether it finds the processor blocked
  module _ (v : ℕ) (value : v ≡ value_at m.values k from (get_or m.memory x 0)) (held : Bool) (blocked : held ≡ blocked_in m.holder i.processor) where
    is_seen : v ≡ seen_in (waits_in m i.processor) x (get_or m.memory x 0)
    is_seen = value ∙ value-is m.locations _ _ _ log.locations log.part m.values log.values x (get_or m.memory x 0) from is-origin

    pub when-held : held ≡ true → Reads m i e (Err LockHeld) m
    unfolding first_met conditions
    when-held h = record { says = rw (sym blocked ∙ h); after = refl }

    pub when-not : held ≡ false → names e x v ≡ false → Reads m i e (Err NotRight) m
    unfolding first_met conditions
    when-not h r = record { says = rw (sym blocked ∙ h, ← is_seen, r); after = refl }

    pub when-right : held ≡ false → names e x v ≡ true → (n : State) → n ≡ counted_in (received_in m i e.value) from → Reads m i e (Ok tt) n
    unfolding first_met conditions
    when-right h r n a = record { says = rw (sym blocked ∙ h, ← is_seen, r); after = a ∙ ap (counted_in (received_in m i e.value)) is-origin }
