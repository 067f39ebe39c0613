-- A record entered into program and cells.
use Rattle.std.specs.Prelude.{◌≡◌, Bool, true, false, List, [], ◌∷◌, ◌++◌, ℕ, ◌+◌, set, leb, Ok, Err}
use Rattle.model.specs.declared.record.Record.{Record}
use Rattle.model.specs.declared.table.Cells.{Cells}
use Rattle.model.specs.Kinds.{Entry, initial_memory, initial_register, instruction, entry_of}
use Rattle.model.specs.Reading.{own_tests}
use Rattle.model.specs.Tests.{Test, test}
use Rattle.model.specs.Code.{Columns, columns, cells_of, register_at, place_at, count_in, Verdict, Gives}
use Rattle.table_record.specs.declared.given.Given.{Given}
use Rattle.table_record.specs.Given.{place_tests, noted_in}

-- ---- the entry of a record r, entered

abbrev pub cells_with : Cells → Entry → Cells
cells_with cells (initial_memory x v) = cells_of cells.registers (set cells.memory x v)
cells_with cells (initial_register p r v) = cells_of (set cells.registers (register_at p r) v) cells.memory
cells_with cells (instruction p i) = cells

abbrev pub with_instruction : Columns → Record → Columns
with_instruction program r =
    let n = count_in program r.processor in
    let at = place_at r.processor n in
    columns (set program.kinds at r.kind) (set program.registers at r.register) (set program.locations at r.location)
    (set program.values at r.value) (set program.counts r.processor (n + 1))

abbrev pub program_with : Columns → Record → Entry → Columns
program_with program r (initial_memory x v) = program
program_with program r (initial_register p q v) = program
program_with program r (instruction p i) = with_instruction program r

-- ---- record i, tested and entered: what there is before becomes what there is after

-- a record that is refused changes nothing
abbrev pub if_passed : {A : Type 0} → Verdict → A → A → A
if_passed (Ok u) new old = new
if_passed (Err r) new old = old

-- an initial record, which gives a cell its value
pub record GivesCell (cell : ℕ) (given : Bool) (begun : Bool) (i value : ℕ) (v : Verdict) (cell' : ℕ) (given' : Bool) : Type 0 where
  pub gives : Gives v (test 5 begun ∷ test 6 given ∷ []) i
  pub cell_after : cell' ≡ if_passed v value cell
  pub given_after : given' ≡ if_passed v true given

-- an instruction
pub record EntersInstruction (instructions : ℕ) (g : Columns) (begun : Bool) (i : ℕ) (r : Record) (v : Verdict) (h : Columns) (then : Bool) : Type 0 where
  pub gives : Gives v (test 7 (leb instructions (count_in g r.processor)) ∷ []) i
  pub program : h ≡ if_passed v (with_instruction g r) g
  pub begins : then ≡ if_passed v true begun

-- any record r, whose entry is e, by these tests
pub record EntersBy (tests : List Test) (e : Entry) (g : Columns) (c : Cells) (s : Given) (i : ℕ) (r : Record) (v : Verdict) (h : Columns) (d : Cells) (t : Given) : Type 0 where
  pub gives : Gives v tests i
  pub program : h ≡ if_passed v (program_with g r e) g
  pub cells : d ≡ if_passed v (cells_with c e) c
  pub given : t ≡ if_passed v (noted_in s e) s

abbrev pub EntersFormed : (g : Columns) (c : Cells) (s : Given) (i : ℕ) (r : Record) (v : Verdict) (h : Columns) (d : Cells) (t : Given) → Type 0
EntersFormed g c s i r v h d t = EntersBy (place_tests s g (entry_of r)) (entry_of r) g c s i r v h d t

abbrev pub Enters : (g : Columns) (c : Cells) (s : Given) (i : ℕ) (r : Record) (v : Verdict) (h : Columns) (d : Cells) (t : Given) → Type 0
Enters g c s i r v h d t = EntersBy (own_tests r ++ place_tests s g (entry_of r)) (entry_of r) g c s i r v h d t
