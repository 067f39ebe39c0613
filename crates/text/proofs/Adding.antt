-- Text behind text, the digits of a number, and the steps of the loops over numbers and processors.
use mathlib.Core.Path.{◌≡◌, sym, ap, ◌∙◌, subst}
use mathlib.Core.List.{List, [], ◌∷◌, ◌++◌, append_assoc, append-nil}
use Prim.Native.Nat.{ℕ, zero, suc, ◌+◌, ◌≤◌, ◌<◌, ◌^◌}
use native.Mathlib.Nat.{le_of_suc-le-suc, not-suc-le-zero}
use native.Mathlib.Numerals.{add-one}
use native.Mathlib.Omega.{arith}
use borrow.Author.Rules.{rules}
use lib.ListN.{length, take, drop, get_or, length-append, length-take, length-drop, take-append-drop}
use lib.Seq.{take_at, drop-append-add, drop-drop}
use Rattle.std.specs.Fmt as fmt
use Rattle.std.proofs.lemmas.Fmt.{decimal_from_appends, length-decimal-le}
use Rattle.text.specs.Text.{Adds, digits_of, decimal, spaced}
use Rattle.text.specs.Reply.{processor_line, processor_lines}

-- ---- text behind text

pub nothing : (l : List ℕ) (at : ℕ) → at ≤ length l → Adds l at [] l at
nothing l at h = record { fits = h; place = omega arith; stands = sym (take-append-drop at l) }

-- the text said otherwise
pub said : {l m : List ℕ} {from to : ℕ} {x y : List ℕ} → Adds l from x m to → x ≡ y → Adds l from y m to
said {l} {m} {from} {to} p e = subst (λ (t : List ℕ). Adds l from t m to) e p

module _ {l m k : List ℕ} {from via to : ℕ} {x y : List ℕ} (p : Adds l from x m via) (q : Adds m via y k to) where
  front : List ℕ
  front = take from l ++ x

  front_length : length front ≡ via
  unfolding front
  front_length = simp (length-append, length-take) (omega (arith, p.fits, p.place))

  middle : m ≡ front ++ drop via l
  unfolding front
  middle = p.stands ∙ sym (append_assoc (take from l) x (drop via l))

  taken : take via m ≡ front
  taken = ap (take via) middle ∙ take_at front (drop via l) via front_length

  same_length : length m ≡ length l
  same_length = ap length middle ∙ simp (length-append, length-drop) (omega (arith, front_length, p.fits))

  dropped : drop to m ≡ drop to l
  dropped =
      let e : to ≡ length front + length y = omega (arith, front_length, q.place) in
      ap (drop to) middle ∙ ap (λ (i : ℕ). drop i (front ++ drop via l)) e ∙ drop-append-add front (drop via l) (length y)
      ∙ drop-drop (length y) via l ∙ ap (λ (i : ℕ). drop i l) (sym q.place)

  pub then : Adds l from (x ++ y) k to
  unfolding front
  then =
      record {
        fits = omega (arith, q.fits, same_length);
        place = simp length-append (omega (arith, p.place, q.place));
        stands = q.stands ∙ rw (taken, dropped) (simp append_assoc);
      }

-- no second outcome: the buffer before, the place and the text say the buffer and the place afterwards
pub adds-once : {l m n : List ℕ} {from to end : ℕ} {x : List ℕ} → Adds l from x m to → Adds l from x n end → (to ≡ end) × (m ≡ n)
adds-once {l} {m} {n} {from} {to} {end} {x} p q =
    let e : to ≡ end = omega (arith, p.place, q.place) in
    (e, p.stands ∙ ap (λ (i : ℕ). take from l ++ (x ++ drop i l)) e ∙ sym q.stands)

-- ---- digits

-- the library's printing of a number is ours
pub decimal_is : (n : ℕ) → n < 2 ^ 64 → fmt.decimal n ≡ decimal n
unfolding digits_of
decimal_is n h = sym (decimal_from_appends digits_of (search rules) 20 n h (length-decimal-le 20 n (omega arith) (omega arith) h))

-- ---- numbers

pub one-more-number : (ns : List ℕ) (i : ℕ) → i < length ns → spaced (take i ns) ++ ((32 ∷ []) ++ decimal (get_or ns i 0)) ≡ spaced (take (i + 1) ns)
unfolding spaced
one-more-number [] i h = absurd (not-suc-le-zero h)
one-more-number (n ∷ ns) zero h = sym (append-nil (32 ∷ decimal n))
one-more-number (n ∷ ns) (suc i) h = rw (add-one (suc i), append_assoc, one-more-number ns i (le_of_suc-le-suc h), add-one i)

-- ---- processors

pub one-more-processor : (room : List ℕ) (p : ℕ) → processor_lines room p ++ processor_line room p ≡ processor_lines room (p + 1)
unfolding processor_lines
one-more-processor room p = rw add-one
