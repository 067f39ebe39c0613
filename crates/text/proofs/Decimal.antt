-- The digits of a number read back as the number, and begin with no zero unless it is below 10.
use mathlib.Core.Path.{◌≡◌, refl, ap, ◌∙◌}
use mathlib.Core.Bool.{Bool, true, false, cond}
use mathlib.Core.List.{List, [], ◌∷◌, ◌++◌}
use Prim.Native.Nat.{ℕ, zero, suc, ◌+◌, ◌*◌, ◌-◌, ◌/◌, ◌%◌, ◌^◌, ◌≤◌, ◌<◌}
use native.Mathlib.Omega.{arith}
use borrow.Author.Tests.{ltb-false}
use lib.Dec.{ltb}
use Rattle.text.specs.Text.{digit, digits_of, decimal}

-- what digits say, read from the left, with what was read before
unfoldable pub read_from : ℕ → List ℕ → ℕ
read_from before [] = before
read_from before (d ∷ ds) = read_from (before * 10 + (d - 48)) ds

read-last : (ds : List ℕ) (before d : ℕ) → read_from before (ds ++ (d ∷ [])) ≡ read_from before ds * 10 + (d - 48)
unfolding read_from
read-last [] before d = refl
read-last (c ∷ ds) before d = read-last ds (before * 10 + (c - 48)) d

-- n below the next power of ten, and not below 10: what stands before its last digit
front_fits : (most n : ℕ) → n < 10 ^ suc most → n / 10 < 10 ^ most
front_fits most n h = omega arith

reads-case : (most n : ℕ) → ((m : ℕ) → m < 10 ^ most → read_from 0 (digits_of most m) ≡ m) → n < 10 ^ suc most
    → (t : Bool) → ltb n 10 ≡ t → read_from 0 (cond t (digit n ∷ []) (digits_of most (n / 10) ++ (digit (n % 10) ∷ []))) ≡ n
unfolding read_from
reads-case most n before h true e = omega arith
reads-case most n before h false e =
    let front : read_from 0 (digits_of most (n / 10)) ≡ n / 10 = before (n / 10) (front_fits most n h) in
    read-last (digits_of most (n / 10)) 0 (digit (n % 10)) ∙ rw front (omega arith)

pub reads-back : (most n : ℕ) → n < 10 ^ most → read_from 0 (digits_of most n) ≡ n
unfolding read_from digits_of
reads-back zero n h = omega arith
reads-back (suc most) n h = reads-case most n (reads-back most) h (ltb n 10) refl

-- a first digit that is not "0"
pub record Leads (ds : List ℕ) : Type 0 where
  pub first : ℕ
  pub others : List ℕ
  pub is : ds ≡ first ∷ others
  pub above : 48 < first

leads-case : (most n : ℕ) → ((m : ℕ) → 0 < m → m < 10 ^ most → Leads (digits_of most m)) → 0 < n → n < 10 ^ suc most
    → (t : Bool) → ltb n 10 ≡ t → Leads (cond t (digit n ∷ []) (digits_of most (n / 10) ++ (digit (n % 10) ∷ [])))
leads-case most n before p h true e = record { first = digit n; others = []; is = refl; above = omega arith }
leads-case most n before p h false e =
    let q : 10 ≤ n = ltb-false n 10 e in
    let front = before (n / 10) (omega arith) (front_fits most n h) in
    record {
      first = front.first;
      others = front.others ++ (digit (n % 10) ∷ []);
      is = ap (λ (ds : List ℕ). ds ++ (digit (n % 10) ∷ [])) front.is;
      above = front.above;
    }

pub no-leading-zero : (most n : ℕ) → 0 < n → n < 10 ^ most → Leads (digits_of most n)
unfolding digits_of
no-leading-zero zero n p h = absurd (omega arith)
no-leading-zero (suc most) n p h = leads-case most n (no-leading-zero most) p h (ltb n 10) refl

-- a number of 64 bits is below 10 ^ 20
pub decimal-reads : (n : ℕ) → n < 2 ^ 64 → read_from 0 (decimal n) ≡ n
decimal-reads n h = reads-back 20 n (omega arith)

pub decimal-leads : (n : ℕ) → 0 < n → n < 2 ^ 64 → Leads (decimal n)
decimal-leads n p h = no-leading-zero 20 n p (omega arith)

pub decimal-zero : decimal 0 ≡ 48 ∷ []
unfolding digits_of
decimal-zero = refl
