use Rattle.finish_left.proofs.Lefts.{begins, goes_on}
use Rattle.finish_left.proofs.left.left.Goals as goal

pub loop-p-init : goal.loop-p-init
loop-p-init c = begins _ _

pub loop-p-preserved : goal.loop-p-preserved
loop-p-preserved c = goes_on _ _ _ _ c.loop-p.invariant (c.requires.each c.loop-p.p c.loop-p-test.true) _ c.program_left.ensures
