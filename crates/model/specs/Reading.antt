-- Reading a table, as a function: its entries, or the refusal 1 to 7 with its place.
use Rattle.std.specs.Prelude.{Bool, true, false, not, ◌&&◌, ◌||◌, List, [], ◌∷◌, ◌++◌, ℕ, eqb, leb}
use Rattle.model.specs.declared.record.Record.{Record}
use Rattle.model.specs.Sizes.{instructions_each}
use Rattle.model.specs.Kinds.{Entry, initial_memory, initial_register, instruction, table_uses, entry_of}
use Rattle.model.specs.Table.{instructions_of}
use Rattle.model.specs.Tests.{Test, test, first, unknown, too_large, not_zero, Tested, passed, unless, in_file}

-- ---- tests of an entry, where the entries `before` stand before it

unfoldable pub any : (Entry → Bool) → List Entry → Bool
any f [] = false
any f (e ∷ es) = f e || any f es

abbrev pub is_instruction : Entry → Bool
is_instruction (initial_memory x v) = false
is_instruction (initial_register p r v) = false
is_instruction (instruction p i) = true

-- gives the cell of location x
abbrev pub gives_memory : ℕ → Entry → Bool
gives_memory x (initial_memory y v) = eqb y x
gives_memory x (initial_register p r v) = false
gives_memory x (instruction p i) = false

-- gives the cell of register r of processor p
abbrev pub gives_register : ℕ → ℕ → Entry → Bool
gives_register p r (initial_memory x v) = false
gives_register p r (initial_register q s v) = eqb q p && eqb s r
gives_register p r (instruction q i) = false

unfoldable pub late : List Entry → Entry → Bool
unfolding any
late before e = not (is_instruction e) && any is_instruction before

unfoldable pub again : List Entry → Entry → Bool
unfolding any
again before (initial_memory x v) = any (gives_memory x) before
again before (initial_register p r v) = any (gives_register p r) before
again before (instruction p i) = false

unfoldable pub crowded : List Entry → Entry → Bool
unfolding instructions_of
crowded before (initial_memory x v) = false
crowded before (initial_register p r v) = false
crowded before (instruction p i) = leb instructions_each (instructions_of p before)

-- of the record by itself
abbrev pub own_tests : Record → List Test
own_tests r = test 2 (unknown table_uses r) ∷ test 3 (too_large table_uses r) ∷ test 4 (not_zero table_uses r) ∷ []

unfoldable pub table_tests : List Entry → Record → List Test
unfolding table_uses unknown too_large not_zero entry_of late again crowded
table_tests before r = own_tests r ++ (test 5 (late before (entry_of r)) ∷ test 6 (again before (entry_of r)) ∷ test 7 (crowded before (entry_of r)) ∷ [])

-- ---- the reading

-- record i
unfoldable pub read_record : ℕ → List Entry → Record → Tested (List Entry)
unfolding table_tests first unless
read_record i before r = unless (first (table_tests before r)) i (passed (before ++ (entry_of r ∷ [])))

unfoldable pub reading : List ℕ → Tested (List Entry)
unfolding in_file read_record
reading table = in_file 1 read_record [] table
