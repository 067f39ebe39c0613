use Rattle.litmus_said.proofs.Constants.{range-test}
use mir.ValLaws.{to_z-of_z}
use mir.Syntax.{w64}
use lib.Signed.{le_z}
use lib.IntN.{ℤ, pos, negsuc}
use mathlib.Core.Bool.{◌&&◌}
use mathlib.Core.Path.{ap, ◌∙◌}
use Rattle.litmus_said.proofs.constant.in_range.Goals as goal

-- `litmus_said::constant::in_range` meets its contract.
pub returns : goal.returns
returns c =
    ap (λ (z : ℤ). le_z (negsuc 2147483647) z && le_z z (pos 4294967295)) (to_z-of_z w64 c.args.v c.ranges.v) ∙ range-test c.args.v
