use Rattle.std.proofs.Common.{rules}
use Rattle.model.specs.Kinds.{table_uses}
use Rattle.machine_rules.specs.Steps.{step_kind, step_of}
use Rattle.machine_rules.proofs.Table.{steps-are}
use Rattle.machine_rules.proofs.program.next_step.Goals as goal

pub returns : goal.returns
unfolding step_kind table_uses step_of
returns c = rw c.from.ensures (steps-are c.args.kind c.args.phase (search rules) (search rules))
