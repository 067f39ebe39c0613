use Rattle.std.proofs.Common.{arith}
use Rattle.model.specs.Kinds.{table_uses}
use Rattle.model.proofs.Roles.{unknown-role}
use Rattle.model.proofs.kind.RoleFromU8.from.Goals as goal

-- every kind below twelve has an arm of its own
pub returns-in_default : goal.returns-in_default
unfolding table_uses
returns-in_default c = unknown-role c.args.kind (λ h. absurd (omega (arith, h)))
