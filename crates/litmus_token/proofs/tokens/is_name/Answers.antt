use mathlib.Core.Path.{◌∙◌}
use Rattle.litmus_model.specs.Bytes.{in_name}
use Rattle.litmus_token.proofs.Scan.{some_all, some_none}
use Rattle.litmus_token.proofs.tokens.is_name.Goals as goal

pub returns-then-not-is_empty : goal.returns-then-not-is_empty
returns-then-not-is_empty c = c.has_all.ensures ∙ some_all in_name _ _ c.is_empty.ensures c.if-not-is_empty.true

pub returns-else-not-is_empty : goal.returns-else-not-is_empty
returns-else-not-is_empty c = some_none in_name _ _ c.is_empty.ensures c.if-not-is_empty.false
