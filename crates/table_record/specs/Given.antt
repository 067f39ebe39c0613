-- What the records so far have given, and the tests of an entry that depend on it, as the code makes them: on flags, and on counts.
use Rattle.std.specs.Prelude.{Bool, true, false, not, ◌&&◌, List, [], ◌∷◌, ◌*◌, ◌<◌, get_or, set, replicate, leb}
use Rattle.model.specs.declared.record.Record.{Record}
use Rattle.model.specs.Sizes.{processors, registers_each, locations, instructions_each}
use Rattle.model.specs.Fields.{Known}
use Rattle.model.specs.Kinds.{Entry, initial_memory, initial_register, instruction, table_uses}
use Rattle.model.specs.Code.{Columns, register_at, count_in}
use Rattle.model.specs.Reading.{is_instruction}
use Rattle.model.specs.Tests.{Test, test}
use Rattle.table_record.specs.declared.given.Given.{Given}

-- the cells that initial records have given, and whether there was an instruction
abbrev pub flags : (registers memory : List Bool) → Bool → Given
flags registers memory begun = record { registers = registers; memory = memory; instruction = begun }

abbrev pub nothing_given : Given
nothing_given = flags (replicate (processors * registers_each) false) (replicate locations false) false

-- what tests 2, 3, 4 leave: the kind is known, and every field is in range, used or not
pub record Formed (r : Record) : Type 0 where
  pub known : Known table_uses r
  pub processor : r.processor < processors
  pub register : r.register < registers_each
  pub location : r.location < locations

-- ---- the tests of an entry

abbrev pub again_in : Given → Entry → Bool
again_in given (initial_memory x v) = get_or given.memory x false
again_in given (initial_register p r v) = get_or given.registers (register_at p r) false
again_in given (instruction p i) = false

abbrev pub crowded_in : Columns → Entry → Bool
crowded_in program (initial_memory x v) = false
crowded_in program (initial_register p r v) = false
crowded_in program (instruction p i) = leb instructions_each (count_in program p)

abbrev pub place_tests : Given → Columns → Entry → List Test
place_tests given program e = test 5 (not (is_instruction e) && given.instruction) ∷ test 6 (again_in given e) ∷ test 7 (crowded_in program e) ∷ []

-- ---- what is given with it

abbrev pub noted_in : Given → Entry → Given
noted_in given (initial_memory x v) = flags given.registers (set given.memory x true) given.instruction
noted_in given (initial_register p r v) = flags (set given.registers (register_at p r) true) given.memory given.instruction
noted_in given (instruction p i) = flags given.registers given.memory true
