-- The value of a run of digits, cut off at 2^32.
use mathlib.Core.Path.{◌≡◌, refl, ap, sym, ◌∙◌}
use mathlib.Core.Bool.{Bool, true, false}
use mathlib.Core.List.{[], ◌∷◌}
use Prim.Native.Nat.{ℕ, suc, ◌+◌, ◌*◌, ◌-◌, ◌≤◌, ◌<◌, min}
use native.Mathlib.Omega.{arith}
use lib.ListN.{length, drop, get_or, drop_of_length-le}
use lib.Seq.{drop-cons}
use lib.Dec.{ltb}
use borrow.Author.Tests.{lt-ltb, le-ltb, ltb-true, ltb-false}
use Rattle.litmus_model.specs.Bytes.{Token, value_from}
use Rattle.litmus_said.specs.Values.{capped}

pub capped-above : (n : ℕ) → 4294967296 < n → capped n ≡ 4294967296
unfolding capped
capped-above n h = rw (lt-ltb 4294967296 n h)

pub capped-below : (n : ℕ) → n ≤ 4294967296 → capped n ≡ n
unfolding capped
capped-below n h = rw (le-ltb 4294967296 n h)

grows : (n : ℕ) (ds : Token) → n ≤ value_from n ds
unfolding value_from
grows n [] = omega arith
grows n (d ∷ ds) = let h = grows (n * 10 + (d - 48)) ds in omega arith

at_cap : (n : ℕ) → 4294967296 ≤ n → capped n ≡ 4294967296
at_cap n h = go (ltb 4294967296 n) refl
  where
    go : (b : Bool) → ltb 4294967296 n ≡ b → capped n ≡ 4294967296
    go true e = capped-above n (ltb-true 4294967296 n e)
    go false e = let k = ltb-false 4294967296 n e in let c = capped-below n k in omega arith

-- a number that is too large stays so
capped-on : (n : ℕ) (ds : Token) → 4294967296 < n → capped (value_from n ds) ≡ capped (value_from 4294967296 ds)
capped-on n ds h = let g = grows n ds in at_cap (value_from n ds) (omega arith) ∙ sym (at_cap (value_from 4294967296 ds) (grows 4294967296 ds))

value-step : (t : Token) (i v : ℕ) → i < length t → value_from v (drop i t) ≡ value_from (v * 10 + (get_or t i 0 - 48)) (drop (suc i) t)
unfolding value_from
value-step t i v h = ap (value_from v) (drop-cons t i 0 h)

pub value-end : (t : Token) (i v : ℕ) → length t ≤ i → value_from v (drop i t) ≡ v
unfolding value_from
value-end t i v h = ap (value_from v) (drop_of_length-le t h)

-- cutting off makes no number larger, and leaves those below
pub capped-least : (n : ℕ) → capped n ≤ n
capped-least n = go (ltb 4294967296 n) refl
  where
    go : (b : Bool) → ltb 4294967296 n ≡ b → capped n ≤ n
    go true e = let h = ltb-true 4294967296 n e in let c = capped-above n h in omega arith
    go false e = let c = capped-below n (ltb-false 4294967296 n e) in omega arith

pub capped-most : (n : ℕ) → capped n ≤ 4294967296
capped-most n = go (ltb 4294967296 n) refl
  where
    go : (b : Bool) → ltb 4294967296 n ≡ b → capped n ≤ 4294967296
    go true e = let c = capped-above n (ltb-true 4294967296 n e) in omega arith
    go false e = let h = ltb-false 4294967296 n e in let c = capped-below n h in omega arith

pub capped_small : (n : ℕ) → capped n < 4294967296 → capped n ≡ n
capped_small n k = go (ltb 4294967296 n) refl
  where
    go : (b : Bool) → ltb 4294967296 n ≡ b → capped n ≡ n
    go true e = let c = capped-above n (ltb-true 4294967296 n e) in absurd (omega arith)
    go false e = capped-below n (ltb-false 4294967296 n e)

-- ---- the code's loop

capped-min : (n : ℕ) → min 4294967296 n ≡ capped n
capped-min n = go (ltb 4294967296 n) refl
  where
    go : (b : Bool) → ltb 4294967296 n ≡ b → min 4294967296 n ≡ capped n
    go true e = let h = ltb-true 4294967296 n e in let c = capped-above n h in omega arith
    go false e = let h = ltb-false 4294967296 n e in let c = capped-below n h in omega arith

-- a turn of it
pub value-turn : (t : Token) (i v d : ℕ) → i < length t → d ≡ get_or t i 0 → capped (value_from v (drop i t)) ≡ capped (value_from (min 4294967296 (v * 10 + (d - 48))) (drop (suc i) t))
value-turn t i v d h e =
    ap capped (value-step t i v h) ∙ ap (λ (x : ℕ). capped (value_from (v * 10 + (x - 48)) (drop (suc i) t))) (sym e) ∙ go (ltb 4294967296 (v * 10 + (d - 48))) refl
    ∙ ap (λ (x : ℕ). capped (value_from x (drop (suc i) t))) (sym (capped-min (v * 10 + (d - 48))))
  where
    go : (b : Bool) → ltb 4294967296 (v * 10 + (d - 48)) ≡ b → capped (value_from (v * 10 + (d - 48)) (drop (suc i) t)) ≡ capped (value_from (capped (v * 10 + (d - 48))) (drop (suc i) t))
    go true f =
        let k = ltb-true 4294967296 (v * 10 + (d - 48)) f in
        capped-on (v * 10 + (d - 48)) (drop (suc i) t) k ∙ ap (λ (x : ℕ). capped (value_from x (drop (suc i) t))) (sym (capped-above (v * 10 + (d - 48)) k))
    go false f = let k = ltb-false 4294967296 (v * 10 + (d - 48)) f in ap (λ (x : ℕ). capped (value_from x (drop (suc i) t))) (sym (capped-below (v * 10 + (d - 48)) k))
