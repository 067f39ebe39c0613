use Rattle.litmus_model.specs.Forms.{constant_of}
use Rattle.litmus_said.proofs.Saying.{says-out, held, says-value}
use Rattle.litmus_said.proofs.said.constant.Goals as goal

pub returns-then-not-in_range : goal.returns-then-not-in_range
returns-then-not-in_range c =
    says-out (constant_of c.args.t.now) c.constant_of-v.result c.in_range.result c.constant_of-v.ensures c.in_range.ensures c.if-not-in_range.true

pub store-requires : goal.store-requires
store-requires c =
    held (constant_of c.args.t.now) c.constant_of-v.result c.in_range.result c.constant_of-v.ensures c.in_range.ensures c.if-not-in_range.false

pub returns : goal.returns
returns c =
    says-value (constant_of c.args.t.now) c.constant_of-v.result c.in_range.result c.store.result c.constant_of-v.ensures c.in_range.ensures c.if-not-in_range.false c.store.ensures
