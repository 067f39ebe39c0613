use Rattle.std.proofs.Common.{◌++◌, ◌∙◌, ap, rules}
use Rattle.model.specs.Record.{records_from}
use Rattle.model.specs.Rules.{Event}
use Rattle.text_steps.specs.Steps.{step_line, step_lines}
use Rattle.text.proofs.Adding.{nothing, then, said}
use Rattle.text_steps.proofs.Notation.{one-more-step}
use Rattle.text_steps.proofs.steps.put_steps.Goals as goal

pub loop-i-init : goal.loop-i-init
unfolding step_lines records_from
loop-i-init c = record { adds = nothing c.args.out.now 0 (search rules); upper_bound = search rules; same_length = search rules }

pub loop-i-preserved : goal.loop-i-preserved
loop-i-preserved c = record {
  adds = said (then c.loop-i.invariant.adds c.put_step-next.ensures.adds)
      (ap (λ (e : Event). step_lines (records_from c.args.bytes.now 0 c.loop-i.i) ++ step_line e) c.read_record.ensures ∙ one-more-step c.args.bytes.now c.loop-i.i);
  upper_bound = search rules;
  same_length = search rules;
}
