use mathlib.Core.Path.{◌∙◌}
use Rattle.litmus_model.specs.Bytes.{is_digit}
use Rattle.litmus_token.proofs.Scan.{some_all, some_none}
use Rattle.litmus_token.proofs.tokens.is_number.Goals as goal

pub returns-then-not-is_empty : goal.returns-then-not-is_empty
returns-then-not-is_empty c = c.has_all.ensures ∙ some_all is_digit _ _ c.is_empty.ensures c.if-not-is_empty.true

pub returns-else-not-is_empty : goal.returns-else-not-is_empty
returns-else-not-is_empty c = some_none is_digit _ _ c.is_empty.ensures c.if-not-is_empty.false
