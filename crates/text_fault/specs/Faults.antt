-- The text of a fault: number, place, line and column; the line that the place is on, or a part of it; and "^" under the place.
use Rattle.std.specs.Prelude.{List, ◌++◌, ℕ, ◌+◌, ◌-◌}
use Rattle.text.specs.Text.{Adds}
use Rattle.std.specs.declared.ops.Range.{Range}
use Rattle.text_fault.specs.Places.{ends_before, since, Around}
use Rattle.text_fault.specs.Shown.{fault_line, shown_line, mark_line}

abbrev pub fault_lines : ℕ → List ℕ → ℕ → Range ℕ → List ℕ
fault_lines number text place part =
    fault_line number place (ends_before text place + 1) (since text place + 1)
    ++ (shown_line text part.start (part.end - part.start) ++ mark_line (place - part.start))

-- at the start of a buffer
pub record Shows (width number : ℕ) (text : List ℕ) (place : ℕ) (before after : List ℕ) (to : ℕ) : Type 0 where
  pub part : Range ℕ
  pub around : Around width text (place - since text place) place part
  pub adds : Adds before 0 (fault_lines number text place part) after to
