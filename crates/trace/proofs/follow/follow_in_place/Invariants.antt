use Rattle.trace.proofs.Turns.{FollowsUpTo}
use Rattle.trace.proofs.follow.follow_in_place.Given as goal

abbrev pub invariant-loop-i : goal.invariant-loop-i
invariant-loop-i l = FollowsUpTo l.program l.initial.m l.trace l.m l.i-counter
