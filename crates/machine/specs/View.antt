-- The machine that a state stands for, where g has the programs.
use Rattle.std.specs.Prelude.{List, ℕ, ◌-◌, get_or, drop, Option, Some, None}
use Rattle.model.specs.Sizes.{registers_each}
use Rattle.model.specs.Program.{ProgramStep}
use Rattle.model.specs.Machine as model
use Rattle.model.specs.Machine.{WaitingWrite, Processor, Holder, free, held}
use Rattle.model.specs.Code.{Columns, row, four, steps_from, count_in}
use Rattle.model.specs.Calls.{Reached, reached}
use Rattle.machine_rules.specs.Offers.{writes_in, waiting_from}
use Rattle.machine_state.specs.State.{State}

-- the writes of processor p that wait, oldest first
unfoldable pub waiting_in : State → ℕ → List WaitingWrite
unfolding writes_in
waiting_in m p = waiting_from m.locations m.values (get_or m.issued p 0) (get_or m.drained p 0) p

-- what is left of its program at instruction a, of which f program steps are taken
abbrev pub left_from : Columns → ℕ → ℕ → ℕ → List ProgramStep
left_from g p a f = drop f (steps_from g p a (count_in g p - a))

unfoldable pub todo_in : Columns → State → ℕ → List ProgramStep
unfolding steps_from
todo_in g m p = left_from g p (get_or m.at p 0) (get_or m.phase p 0)

unfoldable pub processor_of : Columns → State → ℕ → Processor
unfolding todo_in waiting_in
processor_of g m p = record { todo = todo_in g m p; kept = get_or m.kept p 0; registers = row registers_each p m.registers; waiting = waiting_in m p }

unfoldable pub holder_of : Option ℕ → Holder
holder_of None = free
holder_of (Some p) = held p

unfoldable pub machine_of : Columns → State → model.Machine
unfolding processor_of holder_of
machine_of g m = record { processors = four (processor_of g m); memory = m.memory; holder = holder_of m.holder }

-- and with what was counted on the way to it
abbrev pub reached_of : Columns → State → Reached
reached_of g m = reached (machine_of g m) m.own
