use Rattle.std.proofs.Common.{refl}
use Rattle.model.specs.Kinds.{table_uses}
use Rattle.model.proofs.table.limits.Goals as goal

pub returns : goal.returns
unfolding table_uses
returns c = refl
