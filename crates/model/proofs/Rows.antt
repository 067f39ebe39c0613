-- Flat arrays: lists of one value, parts and rows where one element is set; four values as a list.
use mathlib.Core.Path.{◌≡◌, refl, sym, ap, ◌∙◌}
use mathlib.Core.Bool.{Bool, true, false}
use mathlib.Core.List.{List, [], ◌∷◌, ◌++◌, append_assoc, append-nil}
use Prim.Native.Nat.{ℕ, zero, suc, ◌+◌, ◌*◌, ◌≤◌, ◌<◌}
use native.Mathlib.Nat.{mul-suc, mul-le-mul_left}
use native.Mathlib.Omega.{arith}
use lib.Dec.{ltb, lit<, lit≤}
use lib.ListN.{length, get_or, take, drop, set, replicate, take-append-drop}
use lib.Seq.{slice, take_all, take-take, get_or-take, get_or-drop, take-set-lt, take-set-le, drop-set-add, drop-set-lt}
use borrow.Author.Tests.{ltb-true, ltb-false}
use Rattle.model.specs.Code.{row, four}

-- ---- what holds of each number below n, number by number

abbrev pub AllBelow : ℕ → (ℕ → Type 0) → Type 0
AllBelow zero K = Unit {0}
AllBelow (suc n) K = K 0 × AllBelow n (λ k. K (suc k))

pub below : (n : ℕ) (K : ℕ → Type 0) → AllBelow n K → (k : ℕ) → k < n → K k
below zero K a k h = absurd (omega arith)
below (suc n) K a zero h = a.0
below (suc n) K a (suc k) h = below n (λ j. K (suc j)) a.1 k (omega arith)

-- ---- lists of one value, also past the end

pub alike : {A : Type 0} (a : A) (n k : ℕ) → get_or (replicate n a) k a ≡ a
alike a zero k = refl
alike a (suc n) zero = refl
alike a (suc n) (suc k) = alike a n k

-- ---- a part a..b

pub slice_get : (a b i : ℕ) (xs : List ℕ) → a + i < b → get_or (slice a b xs) i 0 ≡ get_or xs (a + i) 0
slice_get a b i xs h = get_or-drop a (take b xs) i 0 ∙ get_or-take b xs (a + i) 0 h

pub slice-set-in : (a b i x : ℕ) (xs : List ℕ) → a + i < b → slice a b (set xs (a + i) x) ≡ set (slice a b xs) i x
slice-set-in a b i x xs h = ap (drop a) (take-set-lt b xs (a + i) x h) ∙ drop-set-add a (take b xs) i x

-- k is not in it
pub slice-set-past : (a b k x : ℕ) (xs : List ℕ) → b ≤ k → slice a b (set xs k x) ≡ slice a b xs
slice-set-past a b k x xs h = ap (drop a) (take-set-le b xs k x h)

pub slice-set-before : (a b k x : ℕ) (xs : List ℕ) → k < a → slice a b (set xs k x) ≡ slice a b xs
slice-set-before a b k x xs h = go (ltb k b) refl
  where
    go : (t : Bool) → ltb k b ≡ t → slice a b (set xs k x) ≡ slice a b xs
    go true e = ap (drop a) (take-set-lt b xs k x (ltb-true k b e)) ∙ drop-set-lt a (take b xs) k x h
    go false e = slice-set-past a b k x xs (ltb-false k b e)

-- ---- rows

rows_apart : (w p q : ℕ) → p < q → w * p + w ≤ w * q
rows_apart w p q h = let m : w * suc p ≤ w * q = mul-le-mul_left w h in omega (arith, mul-suc w p)

pub row-set : (w p i x : ℕ) (xs : List ℕ) → i < w → row w p (set xs (w * p + i) x) ≡ set (row w p xs) i x
row-set w p i x xs h = slice-set-in (w * p) (w * p + w) i x xs (omega arith)

-- an element of row p is in no part of row q
pub part-set-other : (w p q a b i x : ℕ) (xs : List ℕ) → ¬ (q ≡ p) → i < w → w * q ≤ a → b ≤ w * q + w → slice a b (set xs (w * p + i) x) ≡ slice a b xs
part-set-other w p q a b i x xs n h ha hb = go (ltb p q) refl
  where
    go : (t : Bool) → ltb p q ≡ t → slice a b (set xs (w * p + i) x) ≡ slice a b xs
    go true e = slice-set-before a b (w * p + i) x xs (omega (arith, rows_apart w p q (ltb-true p q e)))
    go false e = slice-set-past a b (w * p + i) x xs (let l = ltb-false p q e in omega (arith, rows_apart w q p (omega arith)))

pub row-set-other : (w p q i x : ℕ) (xs : List ℕ) → ¬ (q ≡ p) → i < w → row w q (set xs (w * p + i) x) ≡ row w q xs
row-set-other w p q i x xs n h = part-set-other w p q (w * q) (w * q + w) i x xs n h (omega arith) (omega arith)

-- nor is it one of row q's elements
pub places-apart : (w p q i j : ℕ) → ¬ (q ≡ p) → i < w → j < w → ¬ (w * q + j ≡ w * p + i)
places-apart w p q i j n h k e = go (ltb p q) refl
  where
    go : (t : Bool) → ltb p q ≡ t → ⊥
    go true f = absurd (omega (arith, rows_apart w p q (ltb-true p q f)))
    go false f = let l = ltb-false p q f in absurd (omega (arith, rows_apart w q p (omega arith)))

-- ---- one for each processor

pub four-get : {A : Type 0} (f : ℕ → A) (d : A) (p : ℕ) → p < 4 → get_or (four f) p d ≡ f p
four-get f d p h = below 4 (λ q. get_or (four f) q d ≡ f q) (refl, (refl, (refl, (refl, tt)))) p h

-- g is f, but for p, where it is a
pub four-set : {A : Type 0} (f g : ℕ → A) (p : ℕ) (a : A) → p < 4 → g p ≡ a → ((q : ℕ) → q < 4 → ¬ (q ≡ p) → g q ≡ f q) → four g ≡ set (four f) p a
four-set f g zero a h e o = λ i. e i ∷ o 1 (lit< tt) (λ z. omega arith) i ∷ o 2 (lit< tt) (λ z. omega arith) i ∷ o 3 (lit< tt) (λ z. omega arith) i ∷ []
four-set f g (suc zero) a h e o = λ i. o 0 (lit< tt) (λ z. omega arith) i ∷ e i ∷ o 2 (lit< tt) (λ z. omega arith) i ∷ o 3 (lit< tt) (λ z. omega arith) i ∷ []
four-set f g (suc (suc zero)) a h e o = λ i. o 0 (lit< tt) (λ z. omega arith) i ∷ o 1 (lit< tt) (λ z. omega arith) i ∷ e i ∷ o 3 (lit< tt) (λ z. omega arith) i ∷ []
four-set f g (suc (suc (suc zero))) a h e o = λ i. o 0 (lit< tt) (λ z. omega arith) i ∷ o 1 (lit< tt) (λ z. omega arith) i ∷ o 2 (lit< tt) (λ z. omega arith) i ∷ e i ∷ []
four-set f g (suc (suc (suc (suc p)))) a h e o = absurd (omega arith)

-- ---- four rows are the whole array

pub slices : (a b : ℕ) (xs : List ℕ) → a ≤ b → take a xs ++ slice a b xs ≡ take b xs
slices a b xs h = ap (λ (l : List ℕ). l ++ slice a b xs) (sym (take-take a b xs h)) ∙ take-append-drop a (take b xs)

pub rows_whole : (xs : List ℕ) → length xs ≡ 16 → row 4 0 xs ++ (row 4 1 xs ++ (row 4 2 xs ++ (row 4 3 xs ++ []))) ≡ xs
rows_whole xs h =
    ap (λ (l : List ℕ). take 4 xs ++ (slice 4 8 xs ++ (slice 8 12 xs ++ l))) (append-nil (slice 12 16 xs))
    ∙ sym (append_assoc (take 4 xs) (slice 4 8 xs) (slice 8 12 xs ++ slice 12 16 xs))
    ∙ sym (append_assoc (take 4 xs ++ slice 4 8 xs) (slice 8 12 xs) (slice 12 16 xs))
    ∙ ap (λ (l : List ℕ). l ++ slice 8 12 xs ++ slice 12 16 xs) (slices 4 8 xs (lit≤ tt))
    ∙ ap (λ (l : List ℕ). l ++ slice 12 16 xs) (slices 8 12 xs (lit≤ tt))
    ∙ slices 12 16 xs (lit≤ tt) ∙ take_all 16 xs (omega arith)
