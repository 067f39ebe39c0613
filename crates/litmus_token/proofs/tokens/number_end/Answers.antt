use mathlib.Core.Path.{sym, ◌∙◌}
use Rattle.litmus_token.proofs.Classes.{number-here, no-number-here, number-long}
use Rattle.litmus_token.proofs.tokens.number_end.Goals as goal

pub returns-then-is_number : goal.returns-then-is_number
returns-then-is_number c =
    let n = sym c.is_number.ensures ∙ c.if-is_number.true in
    (number-here _ _ _ c.run_end-end.ensures.0 n, (c.run_end-end.ensures.1, number-long c.args.text.now _ _ n))

pub returns-else-is_number : goal.returns-else-is_number
returns-else-is_number c = (no-number-here _ _ _ c.run_end-end.ensures.0 (sym c.is_number.ensures ∙ c.if-is_number.false), tt)
