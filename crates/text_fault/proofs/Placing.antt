-- The steps of the loops over a text: line ends, and the signs of its bytes.
use mathlib.Core.Path.{◌≡◌, refl}
use mathlib.Core.List.{List, [], ◌∷◌, ◌++◌}
use Prim.Native.Nat.{ℕ, zero, suc, ◌+◌, ◌-◌, ◌≤◌, ◌<◌}
use native.Mathlib.Numerals.{add-one}
use native.Mathlib.Omega.{arith}
use borrow.Author.Tests.{eq-eqb, ne_eqb}
use lib.ListN.{length, take, drop, get_or, length-take, length-drop}
use Rattle.std.proofs.Common.{get_or-take, get_or-drop, zero-add}
use Rattle.std.specs.Prelude.{◌≢◌}
use Rattle.text_fault.specs.Places.{ends_before, since, up_to_end}
use Rattle.text_fault.specs.Shown.{sign_of, signs, blanks, shown_line}

-- a line ends where byte 10 is found first, or at the text's end
pub up_to_end_is : (bs : List ℕ) (n : ℕ) → n ≤ length bs → ((k : ℕ) → k < n → get_or bs k 0 ≢ 10) → (n < length bs → get_or bs n 0 ≡ 10) → up_to_end bs ≡ n
unfolding up_to_end
up_to_end_is [] n h before at = omega arith
up_to_end_is (b ∷ bs) zero h before at = rw (eq-eqb b 10 (at (omega arith)))
up_to_end_is (b ∷ bs) (suc n) h before at =
    let goes : b ≢ 10 = before 0 (omega arith) in
    let rest = up_to_end_is bs n (omega arith) (λ k i. before (suc k) (omega arith)) (λ i. at (omega arith)) in
    rw (ne_eqb b 10 goes, rest)

module _ (text : List ℕ) (i : ℕ) where
  -- a line ends at i
  module _ (ends : get_or text i 0 ≡ 10) where
    pub ends_more : ends_before text (i + 1) ≡ ends_before text i + 1
    unfolding ends_before
    ends_more = rw (add-one i, add-one (ends_before text i), eq-eqb (get_or text i 0) 10 ends)

    pub since_none : since text (i + 1) ≡ 0
    unfolding since
    since_none = rw (add-one i, eq-eqb (get_or text i 0) 10 ends)

  -- no line ends at i
  module _ (goes : get_or text i 0 ≡ 10 → ⊥) where
    pub ends_same : ends_before text (i + 1) ≡ ends_before text i
    unfolding ends_before
    ends_same = rw (add-one i, ne_eqb (get_or text i 0) 10 goes)

    pub since-more : since text (i + 1) ≡ since text i + 1
    unfolding since
    since-more = rw (add-one i, add-one (since text i), ne_eqb (get_or text i 0) 10 goes)

-- ---- signs

pub one-more-sign : (text : List ℕ) (from i : ℕ) → signs text from i ++ (sign_of (get_or text (from + i) 0) ∷ []) ≡ signs text from (i + 1)
unfolding signs
one-more-sign text from i = rw (add-one i)

-- the signs of a part of a text, cut out of it
pub signs-in : (text : List ℕ) (from n m : ℕ) → n ≤ m → signs (take m (drop from text)) 0 n ≡ signs text from n
unfolding signs
signs-in text from zero m h = refl
signs-in text from (suc n) m h =
    rw (signs-in text from n m (omega arith), zero-add n, get_or-take m (drop from text) n 0 (omega arith), get_or-drop from text n 0)

pub shown-in : (text : List ℕ) (from to : ℕ) → from ≤ to → to ≤ length text
    → shown_line (take (to - from) (drop from text)) 0 (length (take (to - from) (drop from text))) ≡ shown_line text from (to - from)
unfolding shown_line
shown-in text from to h k =
    let long : length (take (to - from) (drop from text)) ≡ to - from = simp (length-take, length-drop) (omega arith) in
    rw (long, signs-in text from (to - from) (to - from) (omega arith))

pub one-more-blank : (i : ℕ) → blanks i ++ (32 ∷ []) ≡ blanks (i + 1)
unfolding blanks
one-more-blank i = rw (add-one i)
