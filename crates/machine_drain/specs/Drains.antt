-- What attempting a drain promises: whether it is taken, or why not, and what is stored if it is. e is the event; from the state m to the state n.
use Rattle.std.specs.Prelude.{◌≡◌, Bool, cond, ℕ, ◌<◌, get_or}
use Rattle.model.specs.declared.record.Record.{Record}
use Rattle.model.specs.Sizes as sizes
use Rattle.model.specs.Code.{place_at, Attempt, taken}
use Rattle.machine_state.specs.State.{State}
use Rattle.machine_store.specs.Stores.{after_drain}
use Rattle.machine_take.specs.Takes.{names, attempted, LogOf}

-- the write after the drained ones is e's
abbrev pub drain_right : State → Record → Bool
drain_right m e = let k = place_at e.processor (get_or m.drained e.processor 0) in names e (get_or m.locations k 0) (get_or m.values k 0)

pub record Drains (m : State) (e : Record) (r : Attempt) (n : State) : Type 0 where
  pub says : r ≡ attempted 3 m e.processor (drain_right m e)
  pub after : n ≡ cond (taken r) (after_drain m e) m

pub record MayDrain (m : State) (e : Record) : Type 0 where
  pub log : LogOf m e.processor
  pub location : e.location < sizes.locations
