-- What a drain and a program step ask and promise when a run is finished: from the state m to the state n by the event e.
use Rattle.std.specs.Prelude.{◌≡◌, ℕ, ◌<◌, get_or}
use Rattle.model.specs.Code.{place_at}
use Rattle.model.specs.declared.record.Record.{Record}
use Rattle.model.specs.Sizes as sizes
use Rattle.model.specs.Rules.{Event, event}
use Rattle.machine_rules.specs.declared.program.Step.{Step}
use Rattle.machine_rules.specs.Steps.{code_of}
use Rattle.machine_state.specs.State.{State}
use Rattle.machine_store.specs.Stores.{Own, Issuable, Drainable, after_drain}
use Rattle.machine.specs.Arrays.{next_of}
use Rattle.machine.specs.Stores.{carried_out}

-- ---- the drain of processor p's oldest waiting write

abbrev pub oldest_drain : State → ℕ → Event
oldest_drain m p = let k = place_at p (get_or m.drained p 0) in event 3 p (get_or m.locations k 0) (get_or m.values k 0)

abbrev pub MayDrainOldest : State → ℕ → Type 0
MayDrainOldest m p = Drainable m p (get_or m.locations (place_at p (get_or m.drained p 0)) 0)

pub record DrainsOldest (m : State) (p : ℕ) (e : Event) (n : State) : Type 0 where
  pub says : e ≡ oldest_drain m p
  pub after : n ≡ after_drain m e

-- ---- the program step `next` of the instruction i, before the program goes on

pub record MayCarryOut (m : State) (i : Record) (next : Step) : Type 0 where
  pub own : Own i
  pub location : i.location < sizes.locations
  pub dry : get_or m.drained i.processor 0 ≡ get_or m.issued i.processor 0
  pub program : ¬ (code_of next ≡ 3)
  pub write : code_of next ≡ 2 → Issuable m i.processor

pub record CarriesOut (m : State) (i : Record) (next : Step) (e : Event) (n : State) : Type 0 where
  pub says : e ≡ next_of m i (code_of next)
  pub after : n ≡ carried_out m i e
