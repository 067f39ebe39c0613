use mathlib.Core.Path.{sym, ◌∙◌}
use Rattle.finish_step.proofs.Moving.{some-mover, one-moves}
use Rattle.finish_step.proofs.finishing.finishing_step.Goals as goal

pub unreachable-requires : goal.unreachable-requires
unreachable-requires c = some-mover _ _ c.requires (sym c.in_default.is ∙ c.mover.ensures)

pub step_of-requires : goal.step_of-requires
step_of-requires c = one-moves _ _ c.requires c.in-Some.p (sym c.in-Some.is ∙ c.mover.ensures)
