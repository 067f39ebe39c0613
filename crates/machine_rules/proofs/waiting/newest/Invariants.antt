use Rattle.std.proofs.Common.{◌≤◌, length}
use Rattle.machine_rules.proofs.Lookup.{Passed}
use Rattle.machine_rules.proofs.waiting.newest.Given as goal

abbrev pub invariant-loop-i : goal.invariant-loop-i
invariant-loop-i l = (l.i ≤ length l.locations) × Passed l.locations l.x l.i

abbrev pub decreases-loop-i : goal.decreases-loop-i
decreases-loop-i l = l.i
