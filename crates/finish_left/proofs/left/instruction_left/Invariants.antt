use Rattle.finish_left.proofs.Weights.{Weighed}
use Rattle.finish_left.proofs.left.instruction_left.Given as goal

abbrev pub invariant-loop-next : goal.invariant-loop-next
invariant-loop-next l = Weighed l.kind l.f l.k l.next
