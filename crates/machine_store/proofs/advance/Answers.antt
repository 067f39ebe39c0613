use Rattle.machine_rules.proofs.Table.{in_rows}
use Rattle.machine_store.proofs.advance.Goals as goal

pub step_count-requires : goal.step_count-requires
step_count-requires c = in_rows c.requires.known
