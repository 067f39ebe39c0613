use Rattle.std.proofs.Common.{◌+◌, ◌*◌, ◌≤◌}
use Rattle.litmus_standing.proofs.words.put_standing.Given as goal

-- The words of the first k rows are put.
abbrev pub invariant-loop-k : goal.invariant-loop-k
invariant-loop-k l = record {
  done : l.done ≤ l.k;
  upper_bound : l.next ≤ l.at + 44 * l.k;
}
