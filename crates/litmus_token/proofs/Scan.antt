-- Runs and tokens, as code tests them.
use mathlib.Core.Path.{◌≡◌, refl, ap, sym, ◌∙◌}
use mathlib.Core.Bool.{Bool, true, false, cond, ◌&&◌, not}
use mathlib.Core.List.{List, [], ◌∷◌}
use Prim.Native.Nat.{ℕ, suc, ◌+◌, ◌≤◌}
use native.Mathlib.Omega.{arith}
use lib.ListN.{length, get_or}
use mathlib.Core.Bool.{and-false}
use lib.Dec.{eqb}
use borrow.Author.Tests.{ne_eqb}
use Rattle.std.specs.List.{list_all, prefix_len}
use Rattle.std.specs.Str.{bytes_eq}
use Rattle.litmus_model.proofs.Bools.{false-true}
use Rattle.litmus_model.specs.Bytes.{Token, all, some, same, is_location, is_small}
use Rattle.litmus_model.specs.Splitting.{run}

-- ---- runs

pub run-prefix : (f : ℕ → Bool) (l : List ℕ) → (prefix_len f l ≡ run f l) × (run f l ≤ length l)
unfolding run
run-prefix f [] = (refl, omega arith)
run-prefix f (b ∷ l) = go (f b) (run-prefix f l)
  where
    go : (x : Bool) → (prefix_len f l ≡ run f l) × (run f l ≤ length l) → (cond x (1 + prefix_len f l) 0 ≡ cond x (suc (run f l)) 0) × (cond x (suc (run f l)) 0 ≤ suc (length l))
    go true r = let e = r.0 in let h = r.1 in (omega arith, omega arith)
    go false r = (refl, omega arith)

-- ---- bytes that are all of a class

all-list : (f : ℕ → Bool) (l : List ℕ) → list_all f l ≡ all f l
unfolding all
all-list f [] = refl
all-list f (b ∷ l) = ap (λ (x : Bool). f b && x) (all-list f l)

pub some_all : (f : ℕ → Bool) (l : List ℕ) (none : Bool) → none ≡ eqb (length l) 0 → none ≡ false → list_all f l ≡ some f l
unfolding some
some_all f [] none e n = false-true (sym n ∙ e)
some_all f (b ∷ l) none e n = ap (λ (x : Bool). f b && x) (all-list f l)

pub some_none : (f : ℕ → Bool) (l : List ℕ) (none : Bool) → none ≡ eqb (length l) 0 → none ≡ true → not none ≡ some f l
unfolding some
some_none f [] none e n = ap not n
some_none f (b ∷ l) none e n = false-true (sym (ne_eqb (suc (length l)) 0 (λ k. omega (arith, k))) ∙ sym e ∙ n)

-- ---- two tokens, byte by byte

pub same_bytes_eq : (a b : Token) → bytes_eq a b ≡ same a b
unfolding same
same_bytes_eq [] [] = refl
same_bytes_eq [] (y ∷ b) = refl
same_bytes_eq (x ∷ a) [] = refl
same_bytes_eq (x ∷ a) (y ∷ b) = ap (λ (t : Bool). eqb x y && t) (same_bytes_eq a b)

pub same-lengths : (a b : Token) → (length a ≡ length b → ⊥) → same a b ≡ false
unfolding same
same-lengths [] [] n = absurd (n refl)
same-lengths [] (y ∷ b) n = refl
same-lengths (x ∷ a) [] n = refl
same-lengths (x ∷ a) (y ∷ b) n = rw (same-lengths a b (λ e. n (ap suc e))) (and-false (eqb x y))

-- ---- a single small letter

pub no-letter : (t : Token) → ¬ (length t ≡ 1) → false ≡ is_location t
unfolding is_location
no-letter [] n = refl
no-letter (b ∷ []) n = absurd (n refl)
no-letter (b ∷ c ∷ t) n = refl

pub one-letter : (t : Token) → length t ≡ 1 → is_small (get_or t 0 0) ≡ is_location t
unfolding is_location
one-letter [] e = absurd (omega arith)
one-letter (b ∷ []) e = refl
one-letter (b ∷ c ∷ t) e = absurd (omega arith)
