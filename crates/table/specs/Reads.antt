-- What reading a table asks and promises.
use Rattle.std.specs.Prelude.{◌≡◌, List, ℕ, ◌*◌, replicate}
use Rattle.model.specs.declared.table.Cells.{Cells}
use Rattle.model.specs.Sizes.{processors, registers_each, locations, instructions_each}
use Rattle.model.specs.Code.{Columns, columns, cells_of, unread, Verdict, tested_of, start_of, Fits, Sized}
use Rattle.model.specs.Reading.{reading}
use Rattle.model.specs.Table.{start}
use Rattle.model.specs.Machine.{Machine}
use Rattle.model.specs.Tests.{Tested, passed, and_then}

-- ---- nothing entered

abbrev pub no_program : Columns
no_program =
    let zeros : List ℕ = replicate (processors * instructions_each) 0 in
    columns zeros zeros zeros (replicate (processors * instructions_each) unread) (replicate processors 0)

abbrev pub no_cells : Cells
no_cells = cells_of (replicate (processors * registers_each) 0) (replicate locations 0)

-- ---- the whole table

-- the machine that its entries start, or its refusal
abbrev pub started : List ℕ → Tested Machine
started table = and_then (reading table) (λ entries. passed (start entries))

-- the verdict is the definition's, and a table that passed gives that machine
pub record Reads (table : List ℕ) (verdict : Verdict) (program : Columns) (cells : Cells) : Type 0 where
  pub says : tested_of verdict (start_of program cells) ≡ started table
  pub fits : Fits program
  pub sized : Sized cells
