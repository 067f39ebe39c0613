use Rattle.std.proofs.Common.{◌≡◌, ◌+◌, ◌≤◌}
use Rattle.text_fault.specs.Places.{ends_before, since}
use Rattle.text_fault.proofs.position.position_at.Given as goal

-- The line and the column of the byte that comes next.
abbrev pub invariant-loop-b : goal.invariant-loop-b
invariant-loop-b l = record {
  line_bound : l.line ≤ l.b-index + 1;
  column_bound : l.column ≤ l.b-index + 1;
  line : l.line ≡ ends_before l.text l.b-index + 1;
  column : l.column ≡ since l.text l.b-index + 1;
}
