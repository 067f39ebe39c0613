-- The state at the start, and the steps that a processor can come to. i is the instruction that a processor stands at.
use Rattle.std.specs.Prelude.{Bool, List, ℕ, ◌*◌, get_or, replicate, eqb}
use Rattle.model.specs.Code.{register_of, unread}
use Rattle.model.specs.declared.record.Record.{Record}
use Rattle.model.specs.declared.table.Cells.{Cells}
use Rattle.model.specs.Sizes.{processors, instructions_each}
use Rattle.model.specs.Rules.{Event}
use Rattle.machine_rules.specs.Offers.{oldest_in, next_in, offered_in}
use Rattle.machine_rules.specs.Guards.{nobody}
use Rattle.machine_state.specs.State.{State, parts}

-- nothing taken, nothing waiting, the lock free
abbrev pub start_in : Cells → State
start_in c =
    let zeros : List ℕ = replicate processors 0 in
    let log : ℕ → List ℕ = replicate (processors * instructions_each) in
    parts c.registers c.memory zeros zeros zeros (log 0) (log unread) zeros zeros nobody 0

-- ---- the step that a processor can come to in it

abbrev pub issued_now : State → Record → ℕ
issued_now m i = get_or m.issued i.processor 0

abbrev pub drained_now : State → Record → ℕ
drained_now m i = get_or m.drained i.processor 0

abbrev pub is_dry : State → Record → Bool
is_dry m i = eqb (drained_now m i) (issued_now m i)

abbrev pub oldest_of : State → Record → Event
oldest_of m i = oldest_in m.locations m.values (issued_now m i) (drained_now m i) i.processor

abbrev pub next_of : State → Record → ℕ → Event
next_of m i k =
    next_in m.locations m.values (issued_now m i) (drained_now m i) (get_or m.kept i.processor 0) (get_or m.registers (register_of i) 0)
    (get_or m.memory i.location 0) i k

abbrev pub offered_of : State → Record → ℕ → Event
offered_of m i k =
    offered_in m.locations m.values (issued_now m i) (drained_now m i) (get_or m.kept i.processor 0) (get_or m.registers (register_of i) 0)
    (get_or m.memory i.location 0) i (get_or m.phase i.processor 0) k
