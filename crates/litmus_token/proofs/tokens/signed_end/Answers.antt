use Prim.Native.Nat.{ℕ, ◌+◌}
use mathlib.Core.Bool.{true, false}
use mathlib.Core.List.{[], ◌∷◌}
use mathlib.Core.Path.{◌≡◌, ap, sym, ◌∙◌}
use lib.ListN.{drop}
use lib.Dec.{eqb}
use Rattle.std.specs.List.{starts_with}
use Rattle.std.proofs.lemmas.List.{take_rest}
use Rattle.litmus_token.proofs.Classes.{signed-minus, signed-plain}
use Rattle.litmus_token.proofs.tokens.signed_end.Goals as goal

pub returns-then-starts_with : goal.returns-then-starts_with
returns-then-starts_with c =
    let h : starts_with eqb (drop c.args.at c.args.text.now) (45 ∷ []) ≡ true = rw take_rest at (sym c.starts_with.ensures.value ∙ c.if-starts_with.true) in
    signed-minus c.args.text.now c.args.at _ h c.number_end.ensures

pub returns : goal.returns
returns c =
    let h : starts_with eqb (drop c.args.at c.args.text.now) (45 ∷ []) ≡ false = rw take_rest at (sym c.starts_with.ensures.value ∙ c.if-starts_with.false) in
    (c.number_end-2.ensures.0 ∙ ap (λ (n : ℕ). c.args.at + n) (signed-plain _ h), c.number_end-2.ensures.1)
