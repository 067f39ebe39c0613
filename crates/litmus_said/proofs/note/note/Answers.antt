use mathlib.Core.Path.{ap, ◌∙◌}
use Rattle.std.specs.Prelude.{Ok}
use Rattle.model.proofs.Raised.{raised}
use Rattle.litmus_said.specs.declared.said.Said.{Said}
use Rattle.litmus_said.proofs.Saying.{notes-nothing, notes-processor, notes-register, notes-value, notes-wrong, notes-ninth, notes-letter}
use Rattle.litmus_said.proofs.note.note.Goals as goal

pub returns-in_err-says : goal.returns-in_err-says
returns-in_err-says c =
    rw (raised c.from_residual.result c.in_err-says.field-0.0 c.from_residual.ensures.1) (notes-wrong c.args.r _ c.says.result _ c.says.ensures c.in_err-says.field-0.0 c.in_err-says.was _)

pub returns-in_default : goal.returns-in_default
returns-in_default c = notes-ninth c.args.r _ c.says.result _ c.says.ensures c.in-Letter.x c.locate.result _ (c.in_ok-says.was ∙ ap (λ (s : Said). Ok s) c.in-Letter.is) c.locate.ensures c.in_default.is

pub returns-in-Nothing : goal.returns-in-Nothing
returns-in-Nothing c = notes-nothing c.args.r _ c.says.result _ c.says.ensures (c.in_ok-says.was ∙ ap (λ (s : Said). Ok s) c.in-Nothing.is)

pub returns-in-Processor : goal.returns-in-Processor
returns-in-Processor c = notes-processor c.args.r _ c.says.result _ c.says.ensures c.in-Processor.processor (c.in_ok-says.was ∙ ap (λ (s : Said). Ok s) c.in-Processor.is)

pub returns-in-Register : goal.returns-in-Register
returns-in-Register c = notes-register c.args.r _ c.says.result _ c.says.ensures c.in-Register.register (c.in_ok-says.was ∙ ap (λ (s : Said). Ok s) c.in-Register.is)

pub returns-in-Some : goal.returns-in-Some
returns-in-Some c = notes-letter c.args.r _ c.says.result _ c.says.ensures c.in-Letter.x c.in-Some.i c.locate.result _ (c.in_ok-says.was ∙ ap (λ (s : Said). Ok s) c.in-Letter.is) c.locate.ensures c.in-Some.is

pub returns-in-Value : goal.returns-in-Value
returns-in-Value c = notes-value c.args.r _ c.says.result _ c.says.ensures c.in-Value.value (c.in_ok-says.was ∙ ap (λ (s : Said). Ok s) c.in-Value.is)
