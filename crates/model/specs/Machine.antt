-- The machine: its parts, what a processor issues, and what a step changes.
-- A processor that the machine does not have is idle, and a cell that it does not have holds 0.
use Rattle.std.specs.Prelude.{List, [], ◌∷◌, ◌++◌, ℕ, ◌+◌, ◌%◌, get_or, set}
use Rattle.model.specs.Sizes.{values}
use Rattle.model.specs.Program.{ProgramStep, Target, into, aside, Source, constant, register, swapped, added}

-- ---- the parts

pub record WaitingWrite : Type 0 where
  pub location : ℕ
  pub value : ℕ

pub record Processor : Type 0 where
  pub todo : List ProgramStep  -- the program steps left
  pub kept : ℕ  -- the value that an exchange's read keeps aside
  pub registers : List ℕ
  pub waiting : List WaitingWrite  -- the own buffer, oldest first

-- who holds the lock
pub data Holder : Type 0 where
  free : Holder
  held : (p : ℕ) → Holder

pub record Machine : Type 0 where
  pub processors : List Processor
  pub memory : List ℕ
  pub holder : Holder

abbrev pub write_of : ℕ → ℕ → WaitingWrite
write_of x v = record { location = x; value = v }

unfoldable pub idle : Processor
idle = record { todo = []; kept = 0; registers = []; waiting = [] }

unfoldable pub processor : Machine → ℕ → Processor
unfolding idle
processor s p = get_or s.processors p idle

unfoldable pub cell : Machine → ℕ → ℕ
cell s x = get_or s.memory x 0

-- ---- what a processor issues

unfoldable pub in_register : Processor → ℕ → ℕ
in_register P r = get_or P.registers r 0

-- the value that a write issues
unfoldable pub issued : Processor → Source → ℕ
unfolding in_register
issued P (constant v) = v
issued P (register r) = in_register P r
issued P (swapped r) = in_register P r
issued P (added r) = (P.kept + in_register P r) % values

-- the registers after that same step
unfoldable pub exchanged : Processor → Source → List ℕ
exchanged P (constant v) = P.registers
exchanged P (register r) = P.registers
exchanged P (swapped r) = set P.registers r P.kept
exchanged P (added r) = set P.registers r P.kept

-- ---- what a step changes; `rest` is what is left of the program after it

-- a fence, a lock, an unlock
unfoldable pub advanced : Processor → List ProgramStep → Processor
advanced P rest = record { todo = rest; kept = P.kept; registers = P.registers; waiting = P.waiting }

-- a register set to v
unfoldable pub assigned : Processor → List ProgramStep → ℕ → ℕ → Processor
assigned P rest r v = record { todo = rest; kept = P.kept; registers = set P.registers r v; waiting = P.waiting }

-- a read of v
unfoldable pub received : Processor → List ProgramStep → Target → ℕ → Processor
unfolding assigned
received P rest (into r) v = assigned P rest r v
received P rest aside v = record { todo = rest; kept = v; registers = P.registers; waiting = P.waiting }

-- a write to x, which joins the newest end of the buffer
unfoldable pub wrote : Processor → List ProgramStep → ℕ → Source → Processor
unfolding issued exchanged
wrote P rest x from = record {
  todo = rest;
  kept = P.kept;
  registers = exchanged P from;
  waiting = P.waiting ++ (write_of x (issued P from) ∷ []);
}

-- a drain that leaves `newer` waiting
unfoldable pub drained : Processor → List WaitingWrite → Processor
drained P newer = record { todo = P.todo; kept = P.kept; registers = P.registers; waiting = newer }

-- the machine with P for its processor p; with v at location x; with its lock as h says
unfoldable pub with_processor : Machine → ℕ → Processor → Machine
with_processor s p P = record { processors = set s.processors p P; memory = s.memory; holder = s.holder }

unfoldable pub with_cell : Machine → ℕ → ℕ → Machine
with_cell s x v = record { processors = s.processors; memory = set s.memory x v; holder = s.holder }

unfoldable pub with_holder : Machine → Holder → Machine
with_holder s h = record { processors = s.processors; memory = s.memory; holder = h }
