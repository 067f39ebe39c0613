-- The state after a step. i is the instruction that the processor stands at, e the step.
use Rattle.std.specs.Prelude.{cond, [], ◌∷◌, get_or, eqb, Some}
use Rattle.model.specs.declared.record.Record.{Record}
use Rattle.model.specs.Rules.{Event}
use Rattle.model.specs.Step.{origin_in}
use Rattle.machine.specs.View.{waiting_in}
use Rattle.machine_rules.specs.Guards.{nobody}
use Rattle.machine_state.specs.State.{State}
use Rattle.machine_store.specs.Stores.{after_drain, assigned_in, received_in, counted_in, wrote_in, held_in, advanced_in}

-- a program step, before the program goes on: by its kind, from 0 on
unfoldable pub carried_out : State → Record → Event → State
unfolding waiting_in
carried_out m i e =
    get_or
    (m
    ∷ counted_in (received_in m i e.value) (origin_in (waiting_in m i.processor) i.location)  -- read
    ∷ wrote_in m i e  -- write
    ∷ m
    ∷ m  -- fence
    ∷ held_in m (Some i.processor)  -- lock
    ∷ held_in m nobody  -- unlock
    ∷ assigned_in m i i.value  -- local
    ∷ [])
    e.kind
    m

unfoldable pub after_event : State → Record → Event → State
unfolding carried_out
after_event m i e = cond (eqb e.kind 3) (after_drain m e) (advanced_in (carried_out m i e) i)
