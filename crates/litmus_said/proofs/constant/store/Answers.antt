use mathlib.Core.Path.{◌≡◌, ◌∙◌, ap, subst, subst⁻¹}
use mathlib.Core.Bool.{true, false}
use lib.IntN.{ℤ, pos, ◌+ℤ◌}
use lib.Signed.{le_z}
use mir.Syntax.{w64}
use mir.Val.{to_z, of_z, SFits}
use mir.ValLaws.{to_z-of_z}
use Rattle.litmus_model.specs.Answers.{InRange}
use Rattle.litmus_said.proofs.Constants.{Is, up, down}
use Rattle.litmus_said.proofs.constant.store.Goals as goal

-- `litmus_said::constant::store` meets its contract. The machine reads v back from its bits, which is v; each branch is then a case of the sign.
high : (v : ℤ) → SFits w64 v → InRange v → le_z (pos 0) (to_z w64 (of_z w64 v)) ≡ true → Is v (to_z w64 (of_z w64 v))
high v f r h =
    subst⁻¹ (λ (z : ℤ). Is v z) (to_z-of_z w64 v f) (up v r (subst (λ (z : ℤ). le_z (pos 0) z ≡ true) (to_z-of_z w64 v f) h))

low : (v : ℤ) → SFits w64 v → InRange v → le_z (pos 0) (to_z w64 (of_z w64 v)) ≡ false → SFits w64 (v +ℤ pos 4294967296) × Is v (v +ℤ pos 4294967296)
low v f r h = down v r (subst (λ (z : ℤ). le_z (pos 0) z ≡ false) (to_z-of_z w64 v f) h)

moved : (v : ℤ) → SFits w64 v → InRange v → le_z (pos 0) (to_z w64 (of_z w64 v)) ≡ false
    → Is v (to_z w64 (of_z w64 (to_z w64 (of_z w64 v) +ℤ pos 4294967296)))
moved v f r h =
    subst⁻¹ (λ (z : ℤ). Is v z)
    (ap (λ (z : ℤ). to_z w64 (of_z w64 (z +ℤ pos 4294967296))) (to_z-of_z w64 v f) ∙ to_z-of_z w64 (v +ℤ pos 4294967296) (low v f r h).0)
    (low v f r h).1

pub overflow_cast-result : goal.overflow_cast-result
overflow_cast-result c = (high c.args.v c.ranges.v c.requires c.if-v-ge0.true).0

pub overflow_add-result : goal.overflow_add-result
overflow_add-result c =
    subst⁻¹ (λ (z : ℤ). SFits w64 (z +ℤ pos 4294967296)) (to_z-of_z w64 c.args.v c.ranges.v) (low c.args.v c.ranges.v c.requires c.if-v-ge0.false).0

pub overflow_cast-result-else-v-ge0 : goal.overflow_cast-result-else-v-ge0
overflow_cast-result-else-v-ge0 c = (moved c.args.v c.ranges.v c.requires c.if-v-ge0.false).0

pub returns-then-v-ge0 : goal.returns-then-v-ge0
returns-then-v-ge0 c = (high c.args.v c.ranges.v c.requires c.if-v-ge0.true).1

pub returns-else-v-ge0 : goal.returns-else-v-ge0
returns-else-v-ge0 c = (moved c.args.v c.ranges.v c.requires c.if-v-ge0.false).1
