use native.Mathlib.Omega.{arith}
use mathlib.Core.List.{List}
use mathlib.Core.Path.{◌≡◌, sym, ap, ◌∙◌, subst}
use Prim.Native.Nat.{ℕ, ◌+◌, ◌≤◌}
use lib.ListN.{length, take, set, length-take}
use lib.Dec.{eqb}
use Rattle.std.specs.Prelude.{Some, None, position}
use Rattle.litmus_said.specs.Saying.{Locates}
use Rattle.litmus_said.proofs.Letters.{locates-old, locates-ninth, locates-new}
use Rattle.litmus_said.proofs.letter.Letters.locate.Goals as goal

pub returns-in-Some : goal.returns-in-Some
returns-in-Some c =
    let l = length-take c.self.inside.count c.self.inside.seen in
    locates-old c.args.self.now c.args.x c.in-Some.i (subst (λ (q : List ℕ). length q ≤ 8) c.self.view_is (omega arith)) (sym c.place_of.ensures ∙ c.in-Some.is)

pub returns-then-i-eq-LOCATIONS : goal.returns-then-i-eq-LOCATIONS
returns-then-i-eq-LOCATIONS c =
    let l = length-take c.self.inside.count c.self.inside.seen in
    locates-ninth c.args.self.now c.args.x _ (sym c.place_of.ensures ∙ c.in_default.is) (subst (λ (q : List ℕ). 8 ≤ length q) c.self.view_is (omega arith))

pub returns : goal.returns
returns c =
    let n = c.self.inside.count in
    let seen = c.self.inside.seen in
    let p : position (λ y. eqb y c.args.x) (take n seen) ≡ None = ap (λ (q : List ℕ). position (λ y. eqb y c.args.x) q) c.self.view_is ∙ sym c.place_of.ensures ∙ c.in_default.is in
    subst (λ (q : List ℕ). Locates q c.args.x (Some n) (take (n + 1) (set seen n c.args.x))) c.self.view_is (locates-new seen n c.args.x (omega (arith, c.if-i-eq-LOCATIONS.false)) c.self.told p)
