use Rattle.trace.proofs.Events.{wrong-field, well-formed}
use Rattle.trace.proofs.event.tested.Goals as goal

pub returns-then-too_large-not_zero : goal.returns-then-too_large-not_zero
returns-then-too_large-not_zero c =
    rw c.at.ensures
    (wrong-field c.args.i c.args.e c.requires.0 _ _ _ c.requires.1 c.too_large.ensures c.not_zero.ensures c.if-too_large-not_zero.true)

pub returns : goal.returns
returns c =
    well-formed c.args.i c.args.e c.requires.0 _ _ _ c.requires.1 c.too_large.ensures c.not_zero.ensures c.if-too_large-not_zero.false
