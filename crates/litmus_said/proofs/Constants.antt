-- Constants: cut off, within their range, and stored.
use mathlib.Core.Path.{◌≡◌, refl, ap, sym, ◌∙◌, subst⁻¹}
use mathlib.Core.Bool.{Bool, true, false, cond, ◌&&◌, and-true}
use mathlib.Core.List.{[], ◌∷◌}
use Prim.Native.Nat.{ℕ, zero, suc, ◌-◌, ◌≤◌, ◌<◌}
use native.Mathlib.Omega.{arith}
use lib.ListN.{length, take, drop, get_or}
use Rattle.std.proofs.lemmas.List.{take_rest}
use lib.IntN.{ℤ, pos, negsuc, nat_abs, ◌+ℤ◌, ◌-ℤ◌, +ℤ_idl}
use lib.Signed.{le_z, non_neg}
use lib.Dec.{T, leb, ltb}
use mir.Syntax.{w32, w64}
use mir.Val.{Fits, SFits, to_z, of_z}
use mir.ValLaws.{to_z_pos, to_z-of_z}
use borrow.Author.Tests.{eq-eqb, ne_eqb, lt-ltb, le-ltb, ltb-true, ltb-false, lt-leb, leb-true, leb-false}
use Rattle.litmus_model.specs.Bytes.{Token, value_of}
use Rattle.litmus_model.specs.Answers.{InRange}
use Rattle.litmus_model.specs.Forms.{negated, constant_of, stored}
use Rattle.litmus_model.specs.Reader.{in_range}
use Rattle.litmus_said.specs.Values.{capped, capped_z}
use Rattle.litmus_said.proofs.Values.{capped-above, capped-below, capped-most}

-- ---- the range

next-ltb : (n : ℕ) → leb n 2147483647 ≡ ltb n 2147483648
next-ltb n = go (leb n 2147483647) refl
  where
    go : (b : Bool) → leb n 2147483647 ≡ b → b ≡ ltb n 2147483648
    go true e = let h = leb-true n 2147483647 e in sym (lt-ltb n 2147483648 (omega arith))
    go false e = let h = leb-false n 2147483647 e in sym (le-ltb n 2147483648 (omega arith))

pub range-test : (v : ℤ) → le_z (negsuc 2147483647) v && le_z v (pos 4294967295) ≡ in_range v
unfolding in_range
range-test (pos n) = refl
range-test (negsuc n) = and-true (leb n 2147483647) ∙ next-ltb n

-- ---- storing

-- z holds v as it is stored
abbrev pub Is : ℤ → ℤ → Type 0
Is v z = (T (non_neg z) × Fits w32 (nat_abs z)) × (nat_abs z ≡ stored v)

-- what the code needs of v + 2^32, where v is negative
moved : (n : ℕ) → suc n ≤ 2147483648 → negsuc n +ℤ pos 4294967296 ≡ pos (4294967296 - suc n)
moved n h = ap (λ (t : Bool). cond t (negsuc (suc n - suc 4294967296)) (pos (4294967296 - suc n))) (le-ltb 4294967296 (suc n) (omega arith))

pub up : (v : ℤ) → InRange v → le_z (pos 0) v ≡ true → Is v v
up (pos n) r t = ((tt, record { fits = omega arith }), refl)
up (negsuc n) r t = let z : ◌≡◌ {A = ℕ} 0 1 = cc in absurd (omega arith)

pub down : (v : ℤ) → InRange v → le_z (pos 0) v ≡ false → SFits w64 (v +ℤ pos 4294967296) × Is v (v +ℤ pos 4294967296)
down (pos n) r t = let z = leb-false 0 n t in absurd (omega arith)
down (negsuc n) r t =
    subst⁻¹ (λ (z : ℤ). SFits w64 z × Is (negsuc n) z) (moved n r)
    (record { sfits = omega arith }, ((tt, record { fits = omega arith }), refl))

-- ---- a number that is cut off, as an i64

as-signed : (n : ℕ) → n ≤ 4294967296 → to_z w64 n ≡ pos n
as-signed n h = to_z_pos w64 n (omega arith)

minus : (n : ℕ) → pos 0 -ℤ pos n ≡ negated n
minus zero = refl
minus (suc n) = +ℤ_idl (negsuc n)

negated_fits : (n : ℕ) → n ≤ 4294967296 → SFits w64 (negated n)
negated_fits zero h = record { sfits = omega arith }
negated_fits (suc n) h = record { sfits = omega arith }

taken-off : (n : ℕ) → n ≤ 4294967296 → pos 0 -ℤ to_z w64 n ≡ negated n
taken-off n h = ap (λ (z : ℤ). pos 0 -ℤ z) (as-signed n h) ∙ minus n

pub minus-fits : (n : ℕ) → n ≤ 4294967296 → SFits w64 (pos 0 -ℤ to_z w64 n)
minus-fits n h = subst⁻¹ (SFits w64) (taken-off n h) (negated_fits n h)

capped-negated : (n : ℕ) → capped_z (negated n) ≡ negated (capped n)
unfolding capped
capped-negated zero = refl
capped-negated (suc n) = refl

-- with a minus sign, and without
pub constant-minus : (t : Token) (n : ℕ) → 1 ≤ length t → get_or t 0 0 ≡ 45 → n ≡ capped (value_of (take (length t - 1) (drop 1 t))) → n ≤ 4294967296
    → to_z w64 (of_z w64 (pos 0 -ℤ to_z w64 n)) ≡ capped_z (constant_of t)
unfolding constant_of
constant-minus [] n h e r k = absurd (omega arith)
constant-minus (b ∷ t) n h e r k =
    to_z-of_z w64 (pos 0 -ℤ to_z w64 n) (minus-fits n k) ∙ taken-off n k ∙ ap negated (r ∙ ap (λ (l : Token). capped (value_of l)) (take_rest (b ∷ t) 1))
    ∙ sym (ap (λ (x : Bool). capped_z (cond x (negated (value_of t)) (pos (value_of (b ∷ t))))) (eq-eqb b 45 e) ∙ capped-negated (value_of t))

pub constant-none : (t : Token) (n : ℕ) → length t < 1 → n ≡ capped (value_of t) → n ≤ 4294967296 → to_z w64 n ≡ capped_z (constant_of t)
unfolding constant_of
constant-none [] n h r k = as-signed n k ∙ ap pos r
constant-none (b ∷ t) n h r k = absurd (omega arith)

pub constant-plus : (t : Token) (n : ℕ) → ¬ (get_or t 0 0 ≡ 45) → n ≡ capped (value_of t) → n ≤ 4294967296 → to_z w64 n ≡ capped_z (constant_of t)
unfolding constant_of
constant-plus [] n e r k = as-signed n k ∙ ap pos r
constant-plus (b ∷ t) n e r k = as-signed n k ∙ ap pos r ∙ sym (ap (λ (x : Bool). capped_z (cond x (negated (value_of t)) (pos (value_of (b ∷ t))))) (ne_eqb b 45 e))

-- ---- a constant that is cut off is judged alike

capped_fits : (v : ℤ) → SFits w64 (capped_z v)
capped_fits (pos n) = let h = capped-most n in record { sfits = omega arith }
capped_fits (negsuc n) = negated_fits (capped (suc n)) (capped-most (suc n))

-- the code reads it back from its bits
pub read_back : (v w : ℤ) → w ≡ capped_z v → to_z w64 (of_z w64 w) ≡ capped_z v
read_back v w e = to_z-of_z w64 w (subst⁻¹ (SFits w64) e (capped_fits v)) ∙ e

pub range-capped : (v : ℤ) → in_range (capped_z v) ≡ in_range v
unfolding in_range
range-capped (pos n) = go (ltb 4294967296 n) refl
  where
    go : (b : Bool) → ltb 4294967296 n ≡ b → leb (capped n) 4294967295 ≡ leb n 4294967295
    go true e = let h = ltb-true 4294967296 n e in ap (λ (k : ℕ). leb k 4294967295) (capped-above n h) ∙ sym (lt-leb n 4294967295 (omega arith))
    go false e = ap (λ (k : ℕ). leb k 4294967295) (capped-below n (ltb-false 4294967296 n e))
range-capped (negsuc n) = go (ltb 4294967296 (suc n)) refl
  where
    go : (b : Bool) → ltb 4294967296 (suc n) ≡ b → in_range (negated (capped (suc n))) ≡ ltb n 2147483648
    go true e = let h = ltb-true 4294967296 (suc n) e in ap (λ (k : ℕ). in_range (negated k)) (capped-above (suc n) h) ∙ sym (le-ltb n 2147483648 (omega arith))
    go false e = ap (λ (k : ℕ). in_range (negated k)) (capped-below (suc n) (ltb-false 4294967296 (suc n) e))

pub capped-in : (v : ℤ) → InRange v → capped_z v ≡ v
capped-in (pos n) r = ap pos (capped-below n (omega arith))
capped-in (negsuc n) r = ap negated (capped-below (suc n) (omega arith))
