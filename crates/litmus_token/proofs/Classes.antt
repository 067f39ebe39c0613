-- Numbers, constants and token ends, as code tests them.
use mathlib.Core.Path.{◌≡◌, refl, ap, sym, ◌∙◌}
use mathlib.Core.Bool.{Bool, true, false, cond, and-true}
use mathlib.Core.List.{List, [], ◌∷◌}
use Prim.Native.Nat.{ℕ, zero, suc, ◌+◌, ◌-◌, ◌≤◌, ◌<◌}
use native.Mathlib.Omega.{arith}
use native.Mathlib.Numerals.{add-one}
use lib.ListN.{length, take, drop, get_or}
use lib.Seq.{take-length, drop-drop}
use Rattle.std.specs.Prelude.{Option, Some, None, unwrap_or, IfSome}
use Rattle.std.specs.List.{starts_with}
use Rattle.litmus_model.proofs.Bools.{false-true}
use Rattle.litmus_model.proofs.Pieces.{word-behind, dollar-behind, minus-behind, tilde-behind, other, six-long}
use lib.Dec.{eqb}
use borrow.Author.Tests.{eq-eqb, ne_eqb, eqb-true, eqb-false}
use Rattle.litmus_model.specs.Bytes.{Token, is_digit, in_word, is_number, is_constant, is_dollar, same}
use Rattle.litmus_model.specs.Forms.{exists}
use Rattle.litmus_model.specs.Splitting.{run, number_length, one_more, signed_length, behind}

-- ---- constants

take_whole : (t : Token) → take (suc (length t) - 1) t ≡ t
take_whole t = ap (λ (n : ℕ). take n t) (less (length t)) ∙ take-length t
  where
    less : (n : ℕ) → suc n - 1 ≡ n
    less n = omega arith

pub constant-minus : (t : Token) → 1 ≤ length t → get_or t 0 0 ≡ 45 → is_number (take (length t - 1) (drop 1 t)) ≡ is_constant t
unfolding is_constant
constant-minus [] n e = absurd (omega arith)
constant-minus (b ∷ t) n e = rw (eq-eqb b 45 e, take_whole t)

pub constant-none : (t : Token) → length t < 1 → is_number t ≡ is_constant t
unfolding is_constant Rattle.litmus_model.specs.Bytes.some
constant-none [] h = refl
constant-none (b ∷ t) h = absurd (omega arith)

pub constant-plain : (t : Token) → ¬ (get_or t 0 0 ≡ 45) → is_number t ≡ is_constant t
unfolding is_constant Rattle.litmus_model.specs.Bytes.some
constant-plain [] n = refl
constant-plain (b ∷ t) n = rw (ne_eqb b 45 n)

pub dollar-none : (t : Token) → length t < 1 → false ≡ is_dollar t
unfolding is_dollar
dollar-none [] h = refl
dollar-none (b ∷ t) h = absurd (omega arith)

pub dollar-other : (t : Token) → ¬ (get_or t 0 0 ≡ 36) → false ≡ is_dollar t
unfolding is_dollar
dollar-other [] n = refl
dollar-other (b ∷ t) n = rw (ne_eqb b 36 n)

pub dollar-sign : (t : Token) → 1 ≤ length t → get_or t 0 0 ≡ 36 → is_constant (take (length t - 1) (drop 1 t)) ≡ is_dollar t
unfolding is_dollar
dollar-sign [] n e = absurd (omega arith)
dollar-sign (b ∷ t) n e = rw (eq-eqb b 36 e, take_whole t)

-- ---- where numbers end

-- the run of letters and digits, as it is taken
pub run-part : (l : List ℕ) (at end : ℕ) → end ≡ at + run in_word (drop at l) → take (run in_word (drop at l)) (drop at l) ≡ take (end - at) (drop at l)
run-part l at end e = ap (λ (n : ℕ). take n (drop at l)) (less e)
  where
    less : {n : ℕ} → end ≡ at + n → n ≡ end - at
    less h = omega arith

pub number-here : (l : List ℕ) (at end : ℕ) → end ≡ at + run in_word (drop at l) → is_number (take (end - at) (drop at l)) ≡ true → end ≡ at + number_length (drop at l)
unfolding number_length
number-here l at end e h =
    e ∙ ap (λ (b : Bool). at + cond b (run in_word (drop at l)) 0) (sym (ap is_number (run-part l at end e) ∙ h))

pub no-number-here : (l : List ℕ) (at end : ℕ) → end ≡ at + run in_word (drop at l) → is_number (take (end - at) (drop at l)) ≡ false → at ≡ at + number_length (drop at l)
unfolding number_length
no-number-here l at end e h =
    plus_none at ∙ ap (λ (b : Bool). at + cond b (run in_word (drop at l)) 0) (sym (ap is_number (run-part l at end e) ∙ h))
  where
    plus_none : (n : ℕ) → n ≡ n + 0
    plus_none n = omega arith

-- a number is no empty piece
pub number-long : (l : List ℕ) (at end : ℕ) → is_number (take (end - at) (drop at l)) ≡ true → at < end
unfolding Rattle.litmus_model.specs.Bytes.some
number-long l at end h = go (end - at) refl h
  where
    go : (n : ℕ) → end - at ≡ n → is_number (take n (drop at l)) ≡ true → at < end
    go zero e k = false-true k
    go (suc n) e k = omega arith

-- ---- with a minus sign

-- the end is told, or there is none
abbrev pub Ends : List ℕ → ℕ → Option ℕ → ℕ → Type 0
Ends l at o n = (unwrap_or o at ≡ at + n) × IfSome o (λ end. (end ≤ length l) × (at < end))

more_of : (n : ℕ) → (n ≡ 0 → ⊥) → one_more n ≡ suc n
unfolding one_more
more_of zero e = absurd (e refl)
more_of (suc n) e = refl

none_of : (n : ℕ) → n ≡ 0 → one_more n ≡ 0
unfolding one_more
none_of n e = rw e

-- the code's test
minus_signed : (l : List ℕ) → starts_with eqb l (45 ∷ []) ≡ true → signed_length l ≡ one_more (number_length (drop 1 l))
unfolding signed_length
minus_signed [] e = false-true e
minus_signed (b ∷ l) e = let h : 45 ≡ b = eqb-true 45 b (sym (and-true (eqb 45 b)) ∙ e) in rw (eq-eqb b 45 (sym h))

pub signed-minus : (l : List ℕ) (at : ℕ) (o : Option ℕ) → starts_with eqb (drop at l) (45 ∷ []) ≡ true → Ends l (at + 1) o (number_length (drop (at + 1) l)) → Ends l at o (signed_length (drop at l))
signed-minus l at o e = go o
  where
    n : ℕ
    n = number_length (drop (at + 1) l)

    long : signed_length (drop at l) ≡ one_more n
    long = minus_signed (drop at l) e ∙ ap (λ (k : List ℕ). one_more (number_length k)) (drop-drop 1 at l)

    go : (p : Option ℕ) → Ends l (at + 1) p n → Ends l at p (signed_length (drop at l))
    go None h = let z = none_of n (omega (arith, h.0)) in (omega (arith, long), tt)
    go (Some x) h =
        let f = h.0 in
        let a = h.1 in
        let b = a.1 in
        let z = more_of n (λ k. omega (arith, k)) in
        (omega (arith, long), (a.0, omega arith))

none_long : number_length [] ≡ 0
unfolding number_length Rattle.litmus_model.specs.Bytes.some
none_long = refl

pub signed-plain : (l : List ℕ) → starts_with eqb l (45 ∷ []) ≡ false → number_length l ≡ signed_length l
unfolding signed_length
signed-plain [] e = none_long
signed-plain (b ∷ l) e = let h = eqb-false 45 b (sym (and-true (eqb 45 b)) ∙ e) in rw (ne_eqb b 45 (λ k. h (sym k)))

-- where nothing ends, the end is the next byte
pub end_within : (l : List ℕ) (at : ℕ) (o : Option ℕ) (n : ℕ) → at ≤ length l → Ends l at o n → (unwrap_or o at ≤ length l) × (at ≤ unwrap_or o at)
end_within l at None n h e = (h, omega arith)
end_within l at (Some x) n h e = let a = e.1 in (a.0, omega arith)

-- ---- where a token ends

at-behind : (l : List ℕ) (at end n : ℕ) → end ≡ at + 1 + n → n ≡ behind (get_or l at 0) (drop (suc at) l) → end ≡ suc at + behind (get_or l at 0) (drop (suc at) l)
at-behind l at end n e h = omega arith

next-drop : (l : List ℕ) (at : ℕ) → drop (at + 1) l ≡ drop (suc at) l
next-drop l at = ap (λ (k : ℕ). drop k l) (add-one at)

pub word-ends : (l : List ℕ) (at end : ℕ) → in_word (get_or l at 0) ≡ true → end ≡ at + 1 + run in_word (drop (at + 1) l) → end ≡ suc at + behind (get_or l at 0) (drop (suc at) l)
word-ends l at end w e = at-behind l at end _ e (ap (run in_word) (next-drop l at) ∙ sym (word-behind (get_or l at 0) (drop (suc at) l) w))

pub dollar-ends : (l : List ℕ) (at end : ℕ) → get_or l at 0 ≡ 36 → end ≡ at + 1 + signed_length (drop (at + 1) l) → end ≡ suc at + behind (get_or l at 0) (drop (suc at) l)
dollar-ends l at end b e = at-behind l at end _ e (ap signed_length (next-drop l at) ∙ sym (ap (λ (c : ℕ). behind c (drop (suc at) l)) b ∙ dollar-behind (drop (suc at) l)))

pub minus-ends : (l : List ℕ) (at end : ℕ) → get_or l at 0 ≡ 45 → end ≡ at + 1 + number_length (drop (at + 1) l) → end ≡ suc at + behind (get_or l at 0) (drop (suc at) l)
minus-ends l at end b e = at-behind l at end _ e (ap number_length (next-drop l at) ∙ sym (ap (λ (c : ℕ). behind c (drop (suc at) l)) b ∙ minus-behind (drop (suc at) l)))

pub mark-ends : (l : List ℕ) (at : ℕ) → in_word (get_or l at 0) ≡ false → (get_or l at 0 ≡ 36 → ⊥) → (get_or l at 0 ≡ 45 → ⊥) → (get_or l at 0 ≡ 126 → ⊥) → at + 1 ≡ suc at + behind (get_or l at 0) (drop (suc at) l)
mark-ends l at w d m t =
    at-behind l at (at + 1) 0 (omega arith) (sym (other (get_or l at 0) (drop (suc at) l) w (ne_eqb _ _ d) (ne_eqb _ _ m) (ne_eqb _ _ t)))

-- the run behind a ~
tilde-run : (l : List ℕ) (at end : ℕ) → end ≡ at + 1 + run in_word (drop (at + 1) l) → take (run in_word (drop (suc at) l)) (drop (suc at) l) ≡ take (end - (at + 1)) (drop (at + 1) l)
tilde-run l at end e = ap (λ (k : List ℕ). take (run in_word k) k) (sym (next-drop l at)) ∙ run-part l (at + 1) end e

pub tilde-ends : (l : List ℕ) (at end : ℕ) → get_or l at 0 ≡ 126 → end ≡ at + 1 + run in_word (drop (at + 1) l) → same exists (take (end - (at + 1)) (drop (at + 1) l)) ≡ true → end ≡ suc at + behind (get_or l at 0) (drop (suc at) l)
tilde-ends l at end b e s =
    let bs = drop (suc at) l in
    let t : same exists (take (run in_word bs) bs) ≡ true = ap (same exists) (tilde-run l at end e) ∙ s in
    at-behind l at end _ e (ap (run in_word) (next-drop l at) ∙ six-long bs t ∙ sym (ap (λ (c : ℕ). behind c bs) b ∙ tilde-behind bs ∙ ap (λ (x : Bool). cond x 6 0) t))

pub tilde-mark : (l : List ℕ) (at end : ℕ) → get_or l at 0 ≡ 126 → end ≡ at + 1 + run in_word (drop (at + 1) l) → same exists (take (end - (at + 1)) (drop (at + 1) l)) ≡ false → at + 1 ≡ suc at + behind (get_or l at 0) (drop (suc at) l)
tilde-mark l at end b e s =
    let bs = drop (suc at) l in
    let t : same exists (take (run in_word bs) bs) ≡ false = ap (same exists) (tilde-run l at end e) ∙ s in
    at-behind l at (at + 1) 0 (omega arith) (sym (ap (λ (c : ℕ). behind c bs) b ∙ tilde-behind bs ∙ ap (λ (x : Bool). cond x 6 0) t))
