use mathlib.Core.Path.{◌∙◌}
use Rattle.litmus_token.proofs.Scan.{same_bytes_eq}
use Rattle.litmus_token.proofs.words.same_bytes.Goals as goal

pub returns : goal.returns
returns c = c.eq.ensures ∙ same_bytes_eq _ _
