use Rattle.finish_run.proofs.Writing.{begins, ends, unfinished, fits, goes_on}
use Rattle.finish_run.proofs.complete.write_steps.Goals as goal

pub loop-i-init : goal.loop-i-init
loop-i-init c = begins _ _ _ _ c.requires

pub finishing_step-e-requires : goal.finishing_step-e-requires
finishing_step-e-requires c = unfinished _ _ _ _ c.requires _ _ _ c.loop-i.invariant c.loop-i-test.true

pub write_record-requires : goal.write_record-requires
write_record-requires c = fits _ _ _ _ c.requires _ _ _ c.loop-i.invariant c.loop-i-test.true

pub loop-i-preserved : goal.loop-i-preserved
loop-i-preserved c =
    goes_on _ _ _ _ c.requires _ _ _ c.loop-i.invariant c.loop-i-test.true
    _ _ c.finishing_step-e.ensures _ c.write_record.ensures

pub returns : goal.returns
returns c = ends _ _ _ _ c.requires _ _ _ c.loop-i.invariant c.loop-i-test.false
