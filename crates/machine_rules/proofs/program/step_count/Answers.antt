use Rattle.std.proofs.Common.{rules, ◌∙◌}
use Rattle.model.specs.Kinds.{table_uses}
use Rattle.machine_rules.specs.Steps.{step_count}
use Rattle.machine_rules.proofs.Table.{counts-are}
use Rattle.machine_rules.proofs.program.step_count.Goals as goal

pub returns : goal.returns
unfolding step_count table_uses
returns c = c.from-2.ensures ∙ rw c.from.ensures (counts-are c.args.kind (search rules))
