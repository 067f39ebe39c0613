use mathlib.Core.Path.{sym, ◌∙◌}
use Rattle.model.specs.Rules.{conditions}
use Rattle.model.specs.Step.{first_met}
use Rattle.machine_take.proofs.hold.fence.Goals as goal

pub returns-then-not-is_empty : goal.returns-then-not-is_empty
unfolding first_met conditions
returns-then-not-is_empty c = rw (sym c.is_empty.ensures ∙ c.if-not-is_empty.true)

pub returns : goal.returns
unfolding first_met conditions
returns c = rw (sym c.is_empty.ensures ∙ c.if-not-is_empty.false)
