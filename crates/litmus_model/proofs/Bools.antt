-- Tests, and the facts that they decide.
use mathlib.Core.Path.{◌≡◌, refl}
use mathlib.Core.Bool.{Bool, true, false, ◌&&◌, ◌||◌, false≢true}
use mathlib.Core.Logic.{◌⊎◌, inl, inr}
use mathlib.Core.List.{[], ◌∷◌}
use lib.Dec.{eqb}
use borrow.Author.Tests.{eqb-true, eq-eqb}
use Rattle.litmus_model.specs.Bytes.{Token, same}

pub false-true {ℓ} : {A : Type ℓ} → false ≡ true → A
false-true e = absurd (false≢true e)

pub and-true : {a b : Bool} → a ≡ true → b ≡ true → a && b ≡ true
and-true {a} {b} p q = rw (p, q)

pub and_left : (a b : Bool) → a && b ≡ true → a ≡ true
and_left true b e = refl
and_left false b e = e

pub and_right : (a b : Bool) → a && b ≡ true → b ≡ true
and_right true b e = e
and_right false b e = false-true e

pub or_cases : (a b : Bool) → a || b ≡ true → (a ≡ true) ⊎ (b ≡ true)
or_cases true b e = inl refl
or_cases false b e = inr e

pub same_true : (a b : Token) → same a b ≡ true → a ≡ b
unfolding same
same_true [] [] e = refl
same_true [] (b ∷ bs) e = false-true e
same_true (a ∷ aa) [] e = false-true e
same_true (a ∷ aa) (b ∷ bs) e =
    let h : a ≡ b = eqb-true a b (and_left _ (same aa bs) e) in
    let t : aa ≡ bs = same_true aa bs (and_right (eqb a b) _ e) in
    λ i. h i ∷ t i

pub same_refl : (a : Token) → same a a ≡ true
unfolding same
same_refl [] = refl
same_refl (a ∷ aa) = and-true (eq-eqb a a refl) (same_refl aa)
