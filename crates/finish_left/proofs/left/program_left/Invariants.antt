use lib.ListN.{get_or}
use Rattle.model.specs.Code.{count_in}
use Rattle.finish_left.proofs.Weights.{Counted}
use Rattle.finish_left.proofs.left.program_left.Given as goal

abbrev pub invariant-loop-a : goal.invariant-loop-a
invariant-loop-a l = Counted l.program.kinds l.p (count_in l.program l.p) (get_or l.m.at l.p 0) (get_or l.m.phase l.p 0) l.k l.a l.f
