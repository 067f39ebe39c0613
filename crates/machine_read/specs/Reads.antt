-- What attempting a read promises: whether it is taken, or why not, and what is stored if it is.
-- i is the instruction that its processor stands at, e the event; from the state m to the state n.
use Rattle.std.specs.Prelude.{◌≡◌, Bool, cond, List, ℕ, ◌<◌, get_or}
use Rattle.model.specs.declared.record.Record.{Record}
use Rattle.model.specs.Sizes as sizes
use Rattle.model.specs.Code.{Attempt, taken}
use Rattle.model.specs.Machine.{WaitingWrite}
use Rattle.model.specs.Step.{origin_in, seen_in}
use Rattle.machine_rules.specs.Offers.{waiting_from}
use Rattle.machine_state.specs.State.{State}
use Rattle.machine_store.specs.Stores.{received_in, counted_in, Own, MayCount}
use Rattle.machine_take.specs.Takes.{names, attempted, LogOf}

-- what waits for processor p
abbrev pub waits_in : State → ℕ → List WaitingWrite
waits_in m p = waiting_from m.locations m.values (get_or m.issued p 0) (get_or m.drained p 0) p

abbrev pub read_right : State → Record → Record → Bool
read_right m i e = names e i.location (seen_in (waits_in m i.processor) i.location (get_or m.memory i.location 0))

pub record Reads (m : State) (i e : Record) (r : Attempt) (n : State) : Type 0 where
  pub says : r ≡ attempted 1 m i.processor (read_right m i e)
  pub after : n ≡ cond (taken r) (counted_in (received_in m i e.value) (origin_in (waits_in m i.processor) i.location)) m

pub record MayRead (m : State) (i : Record) : Type 0 where
  pub log : LogOf m i.processor
  pub count : MayCount m
  pub own : Own i
  pub location : i.location < sizes.locations
