use mathlib.Core.Path.{◌∙◌}
use native.Mathlib.Omega.{arith}
use Rattle.litmus_token.proofs.Scan.{one-letter, no-letter}
use Rattle.litmus_token.proofs.words.is_location.Goals as goal

pub returns-in-len1 : goal.returns-in-len1
returns-in-len1 c = c.is_ascii_lowercase.ensures.value ∙ one-letter c.args.t.now (omega arith)

pub returns-in_default : goal.returns-in_default
returns-in_default c = no-letter c.args.t.now (λ e. omega arith)

pub returns-in_default-2 : goal.returns-in_default-2
returns-in_default-2 c = no-letter c.args.t.now (λ e. omega arith)
