-- The instructions, and the program steps of each in order (document 01, "Records").
-- r is a register, x a location, v a value: all are numbers.
use Rattle.std.specs.Prelude.{List, [], ◌∷◌, ℕ}

pub data Instruction : Type 0 where
  store_constant : (x v : ℕ) → Instruction
  store_register : (r x : ℕ) → Instruction
  load : (r x : ℕ) → Instruction
  set_register : (r v : ℕ) → Instruction
  mfence : Instruction
  exchange : (r x : ℕ) → Instruction
  locked_exchange : (r x : ℕ) → Instruction
  exchange_add : (r x : ℕ) → Instruction
  locked_exchange_add : (r x : ℕ) → Instruction

-- where the value of a read goes: into a register, or kept aside
pub data Target : Type 0 where
  into : (r : ℕ) → Target
  aside : Target

-- what a write issues: a constant; a register; the register of an exchange; the sum of an exchange-and-add
pub data Source : Type 0 where
  constant : (v : ℕ) → Source
  register : (r : ℕ) → Source
  swapped : (r : ℕ) → Source
  added : (r : ℕ) → Source

pub data ProgramStep : Type 0 where
  read : (x : ℕ) → Target → ProgramStep
  write : (x : ℕ) → Source → ProgramStep
  fence lock unlock : ProgramStep
  local : (r v : ℕ) → ProgramStep

-- the program steps of an instruction, in order
unfoldable pub steps_of : Instruction → List ProgramStep
steps_of (store_constant x v) = write x (constant v) ∷ []
steps_of (store_register r x) = write x (register r) ∷ []
steps_of (load r x) = read x (into r) ∷ []
steps_of (set_register r v) = local r v ∷ []
steps_of mfence = fence ∷ []
steps_of (exchange r x) = read x aside ∷ write x (swapped r) ∷ []
steps_of (locked_exchange r x) = lock ∷ read x aside ∷ write x (swapped r) ∷ unlock ∷ []
steps_of (exchange_add r x) = read x aside ∷ write x (added r) ∷ []
steps_of (locked_exchange_add r x) = lock ∷ read x aside ∷ write x (added r) ∷ unlock ∷ []
