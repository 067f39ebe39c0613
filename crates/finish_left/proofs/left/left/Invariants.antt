use Rattle.finish_left.proofs.Lefts.{Summed}
use Rattle.finish_left.proofs.left.left.Given as goal

-- The processors below p are counted.
abbrev pub invariant-loop-p : goal.invariant-loop-p
invariant-loop-p l = Summed l.program l.m l.k l.p
