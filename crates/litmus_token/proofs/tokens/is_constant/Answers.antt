use mathlib.Core.Path.{◌∙◌}
use borrow.Author.Rules.{rules}
use native.Mathlib.Omega.{arith}
use Rattle.litmus_token.proofs.Classes.{constant-minus, constant-none, constant-plain}
use Rattle.litmus_token.proofs.tokens.is_constant.Goals as goal
use Rattle.litmus_token.proofs.tokens.is_constant.Goals.{in_default-via-then-t-lt1, in_default-via-else-t-lt1+in_default-1}

pub returns-in-45 : goal.returns-in-45
returns-in-45 c = c.is_number.ensures ∙ constant-minus _ c.in-45.len_at_least (omega arith)

pub returns-in_default : goal.returns-in_default
returns-in_default c =
    c.is_number-in_default.ensures ∙ elim c.in_default.branch [ in_default-via-then-t-lt1 w ↦ constant-none _ (search rules) | in_default-via-else-t-lt1+in_default-1 w ↦ constant-plain _ (λ e. omega (arith, e)) ]
