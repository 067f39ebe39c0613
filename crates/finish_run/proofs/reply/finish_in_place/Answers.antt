use mathlib.Core.Path.{◌∙◌}
use Rattle.model.specs.Calls.{replied}
use Rattle.model.proofs.Raised.{raised}
use Rattle.finish_run.proofs.reply.finish_in_place.Goals as goal

pub returns-in_err-end : goal.returns-in_err-end
unfolding replied
returns-in_err-end c =
    rw (raised c.from_residual.result c.in_err-end.field-0.0 c.from_residual.ensures.1, c.in_err-end.was)

pub returns : goal.returns
unfolding replied
returns c = c.complete.ensures ∙ rw c.in_ok-end.was
