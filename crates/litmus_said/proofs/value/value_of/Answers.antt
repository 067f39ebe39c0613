use Rattle.litmus_said.proofs.Values.{capped-below, value-end, value-turn}
use Rattle.litmus_model.specs.Bytes.{value_from}
use Rattle.litmus_said.specs.Values.{capped}
use native.Mathlib.Numerals.{add-one}
use native.Mathlib.Omega.{arith}
use lib.ListN.{drop, get_or}
use Prim.Native.Nat.{ℕ, suc, ◌+◌, ◌*◌, ◌-◌, min}
use mathlib.Core.Path.{◌≡◌, refl, sym, ap, ◌∙◌}
use Rattle.litmus_said.proofs.value.value_of.Goals as goal

pub loop-b-preserved : goal.loop-b-preserved
loop-b-preserved c =
    let t = c.args.digits.now in
    let i = c.loop-b.b-index in
    let v = c.loop-b.v in
    let e : c.min-v.result ≡ min 4294967296 (v * 10 + (get_or t i 0 - 48)) = c.min-v.ensures ∙ ap (λ (x : ℕ). min 4294967296 (v * 10 + x)) (c.from.ensures ∙ c.saturating_sub.ensures) in
    (c.loop-b.invariant.0 ∙ rw add-one (value-turn t i v _ c.loop-b-test.true refl ∙ ap (λ (x : ℕ). capped (value_from x (drop (suc i) t))) (sym e)), omega arith)

pub returns : goal.returns
returns c =
    (sym (c.loop-b.invariant.0 ∙ ap capped (value-end c.args.digits.now c.loop-b.b-index c.loop-b.v c.loop-b-test.false) ∙ capped-below c.loop-b.v c.loop-b.invariant.1), c.loop-b.invariant.1)
