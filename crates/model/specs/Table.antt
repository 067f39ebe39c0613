-- Tables: what is wrong with a record, when a table is readable, and the machine that it starts (document 01, numbers 1 to 7).
use Rattle.std.specs.Prelude.{◌≡◌, cond, List, [], ◌∷◌, ◌++◌, ℕ, ◌+◌, ◌%◌, ◌≤◌, length, replicate, eqb}
use Rattle.model.specs.declared.record.Record.{Record}
use Rattle.model.specs.Sizes.{processors, registers_each, locations, instructions_each, record_size}
use Rattle.model.specs.Lists.{In}
use Rattle.model.specs.Record.{records}
use Rattle.model.specs.Fields.{Known, InRange, UnusedZero, Proper}
use Rattle.model.specs.Program.{Instruction, steps_of}
use Rattle.model.specs.Kinds.{Entry, initial_memory, initial_register, instruction, table_uses, entry_of}
use Rattle.model.specs.Machine.{Machine, Processor, free, processor, assigned, with_processor, with_cell}

-- ---- an entry, where the entries `before` stand before it

-- an initial record after an instruction
abbrev pub Late : List Entry → Entry → Type 0
Late before (initial_memory x v) = (p : ℕ) × (i : Instruction) × In (instruction p i) before
Late before (initial_register q r v) = (p : ℕ) × (i : Instruction) × In (instruction p i) before
Late before (instruction q j) = ⊥

-- the same cell given twice
abbrev pub Twice : List Entry → Entry → Type 0
Twice before (initial_memory x v) = (w : ℕ) × In (initial_memory x w) before
Twice before (initial_register p r v) = (w : ℕ) × In (initial_register p r w) before
Twice before (instruction p i) = ⊥

-- how many instructions processor p has
unfoldable pub instructions_of : ℕ → List Entry → ℕ
instructions_of p [] = 0
instructions_of p (initial_memory x v ∷ es) = instructions_of p es
instructions_of p (initial_register q r v ∷ es) = instructions_of p es
instructions_of p (instruction q i ∷ es) = cond (eqb q p) 1 0 + instructions_of p es

-- the seventeenth instruction of a processor
abbrev pub Crowded : List Entry → Entry → Type 0
Crowded before (initial_memory x v) = ⊥
Crowded before (initial_register p r v) = ⊥
Crowded before (instruction p i) = instructions_each ≤ instructions_of p before

-- ---- the number under which a record is refused: tested 2, 3, 4, 5, 6, 7

pub data Refuses (before : List Entry) (r : Record) : ℕ → Type 0 where
  kind_unknown : ¬ Known table_uses r → Refuses before r 2
  too_large : Known table_uses r → ¬ InRange table_uses r → Refuses before r 3
  not_zero : Known table_uses r → InRange table_uses r → ¬ UnusedZero table_uses r → Refuses before r 4
  late : Proper table_uses r → Late before (entry_of r) → Refuses before r 5
  twice : Proper table_uses r → ¬ Late before (entry_of r) → Twice before (entry_of r) → Refuses before r 6
  crowded : Proper table_uses r → ¬ Late before (entry_of r) → ¬ Twice before (entry_of r) → Crowded before (entry_of r) → Refuses before r 7

-- the records rs, behind the entries `before`, are not refused, and give `entries` with them
abbrev pub Reads : List Entry → List Record → List Entry → Type 0
Reads before [] entries = before ≡ entries
Reads before (r ∷ rs) entries = ((n : ℕ) → ¬ Refuses before r n) × Reads (before ++ (entry_of r ∷ [])) rs entries

abbrev pub Whole : List ℕ → Type 0
Whole bytes = length bytes % record_size ≡ 0

abbrev pub Readable : List ℕ → List Entry → Type 0
Readable table entries = Whole table × Reads [] (records table) entries

-- ---- the machine at the start

-- all cells 0, no program, nothing waiting, the lock free
unfoldable pub empty : Machine
empty = record {
  processors = replicate processors (record { todo = []; kept = 0; registers = replicate registers_each 0; waiting = [] });
  memory = replicate locations 0;
  holder = free;
}

unfoldable pub extended : Processor → Instruction → Processor
unfolding steps_of
extended P i = record { todo = P.todo ++ steps_of i; kept = P.kept; registers = P.registers; waiting = P.waiting }

unfoldable pub enter : Machine → Entry → Machine
unfolding extended with_processor with_cell assigned processor
enter s (initial_memory x v) = with_cell s x v
enter s (initial_register p r v) = with_processor s p (assigned (processor s p) (processor s p).todo r v)
enter s (instruction p i) = with_processor s p (extended (processor s p) i)

unfoldable pub enter_all : Machine → List Entry → Machine
unfolding enter
enter_all s [] = s
enter_all s (e ∷ es) = enter_all (enter s e) es

unfoldable pub start : List Entry → Machine
unfolding enter_all empty
start es = enter_all empty es
