use Rattle.trace.proofs.Events.{located, bare, unknown-kind}
use Rattle.trace.proofs.event.misread.Goals as goal

pub returns-in_default : goal.returns-in_default
returns-in_default c = rw c.at.ensures (unknown-kind c.args.i c.args.e c.in_default.ensures)

pub tested-requires : goal.tested-requires
tested-requires c = located c.args.i c.args.e c.in-Ok.step c.in-Ok.ensures c.in-Read.is

pub tested-requires-in-Fence : goal.tested-requires-in-Fence
tested-requires-in-Fence c = bare c.args.i c.args.e c.in-Ok.step c.in-Ok.ensures c.in-Fence.is
