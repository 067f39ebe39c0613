use Rattle.litmus_token.proofs.Classes.{word-ends, dollar-ends, minus-ends, mark-ends, tilde-ends, tilde-mark, end_within}
use native.Mathlib.Omega.{arith}
use mathlib.Core.Path.{sym, ◌∙◌}
use borrow.Author.Rules.{rules}
use Rattle.litmus_token.proofs.tokens.token_end.Goals as goal

pub returns-then-has : goal.returns-then-has
returns-then-has c =
    (word-ends c.args.text.now c.args.at c.run_end.result (sym c.has.ensures ∙ c.if-has.true) c.run_end.ensures.0, c.run_end.ensures.1, omega (arith, c.run_end.ensures.2))

pub returns-in-36 : goal.returns-in-36
returns-in-36 c =
    let w = end_within c.args.text.now _ c.signed_end.result _ (omega arith) c.signed_end.ensures in
    let u = c.unwrap_or.ensures in
    (dollar-ends c.args.text.now c.args.at _ c.in-36.is (u ∙ c.signed_end.ensures.0), omega (arith, w.0, u), omega (arith, w.1, u))

pub returns-in-45 : goal.returns-in-45
returns-in-45 c =
    let w = end_within c.args.text.now _ c.number_end.result _ (omega arith) c.number_end.ensures in
    let u = c.unwrap_or-in-45.ensures in
    (minus-ends c.args.text.now c.args.at _ c.in-45.is (u ∙ c.number_end.ensures.0), omega (arith, w.0, u), omega (arith, w.1, u))

pub returns-then-same_bytes : goal.returns-then-same_bytes
returns-then-same_bytes c =
    (tilde-ends c.args.text.now c.args.at c.run_end-end.result c.in-126.is c.run_end-end.ensures.0 (sym c.same_bytes.ensures ∙ c.if-same_bytes.true), c.run_end-end.ensures.1, omega (arith, c.run_end-end.ensures.2))

pub returns-else-same_bytes : goal.returns-else-same_bytes
returns-else-same_bytes c =
    (tilde-mark c.args.text.now c.args.at c.run_end-end.result c.in-126.is c.run_end-end.ensures.0 (sym c.same_bytes.ensures ∙ c.if-same_bytes.false), search rules, search rules)

pub returns-in_default-2 : goal.returns-in_default-2
returns-in_default-2 c =
    (mark-ends c.args.text.now c.args.at (sym c.has.ensures ∙ c.if-has.false) (λ e. omega (arith, e)) (λ e. omega (arith, e)) (λ e. omega (arith, e)), search rules, search rules)
