-- What taking the next program step asks and promises. i is the instruction that the processor stands at, e the step.
use Rattle.std.specs.Prelude.{◌≡◌, Bool, cond, not, ◌<◌, eqb}
use Rattle.std.proofs.Math.Option.{Option}
use Rattle.model.specs.declared.answer.Condition.{Condition}
use Rattle.model.specs.declared.answer.Condition.TheVariants.{AnotherKind, NothingWaits, LockHeld, BufferNotEmpty, NotRight}
use Rattle.model.specs.declared.record.Record.{Record}
use Rattle.model.specs.Sizes as sizes
use Rattle.model.specs.Fields.{Proper}
use Rattle.model.specs.Kinds.{step_uses}
use Rattle.model.specs.Rules.{Event, conditions}
use Rattle.model.specs.Step.{same, first_met}
use Rattle.model.specs.Code.{Attempt, taken, judged}
use Rattle.machine_rules.specs.declared.program.Step.{Step}
use Rattle.machine_rules.specs.Guards.{blocked_in}
use Rattle.machine_rules.specs.Steps.{code_of}
use Rattle.machine_state.specs.State.{State}
use Rattle.machine_store.specs.Stores.{Own, Issuable, MayCount}
use Rattle.machine_take.specs.Takes.{LogOf}
use Rattle.machine.specs.Arrays.{is_dry, next_of}
use Rattle.machine.specs.Stores.{carried_out}

pub record MayTake (m : State) (i : Record) (next : Step) (e : Event) : Type 0 where
  pub proper : Proper step_uses e
  pub kind : code_of next ≡ e.kind
  pub program : ¬ (e.kind ≡ 3)
  pub whose : i.processor ≡ e.processor
  pub own : Own i
  pub log : LogOf m i.processor
  pub count : MayCount m
  pub location : i.location < sizes.locations
  pub write : e.kind ≡ 2 → Issuable m i.processor

-- whether a condition is met for the step e, where its processor can come to the step o
abbrev pub met_of : State → Record → Event → Event → Condition → Bool
met_of m i o e AnotherKind = not (eqb e.kind o.kind)
met_of m i o e NothingWaits = is_dry m i
met_of m i o e LockHeld = blocked_in m.holder i.processor
met_of m i o e BufferNotEmpty = not (is_dry m i)
met_of m i o e NotRight = not (same e o)

-- the first that is
abbrev pub found_of : State → Record → Event → Event → Option Condition
found_of m i o e = first_met (met_of m i o e) (conditions e.kind)

-- what the attempt of e comes to
abbrev pub attempted_of : State → Record → Event → Event → Attempt
attempted_of m i o e = judged (found_of m i o e)

-- from the state m to the state n, before the program goes on
pub record TakesNext (m : State) (i : Record) (e : Event) (r : Attempt) (n : State) : Type 0 where
  pub says : r ≡ attempted_of m i (next_of m i e.kind) e
  pub after : n ≡ cond (taken r) (carried_out m i e) m
