use mathlib.Core.Path.{◌∙◌}
use native.Mathlib.Omega.{arith}
use Rattle.litmus_token.proofs.Classes.{dollar-none, dollar-other, dollar-sign}
use Rattle.litmus_token.proofs.tokens.is_dollar.Goals as goal

pub returns-in-36 : goal.returns-in-36
returns-in-36 c = c.is_constant.ensures ∙ dollar-sign _ c.in-36.len_at_least (omega arith)

pub returns-in_default : goal.returns-in_default
returns-in_default c = dollar-none _ c.in_default.len_below

pub returns-in_default-2 : goal.returns-in_default-2
returns-in_default-2 c = dollar-other _ (λ e. omega (arith, e))
