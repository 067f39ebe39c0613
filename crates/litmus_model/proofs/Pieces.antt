-- The token that stands first in a list of bytes.
use mathlib.Core.Path.{◌≡◌, refl, ap, sym, ◌∙◌, subst}
use mathlib.Core.Bool.{Bool, true, false, cond, not, ◌&&◌, ◌||◌}
use mathlib.Core.Logic.{◌⊎◌, inl, inr}
use mathlib.Core.List.{List, [], ◌∷◌, ◌++◌}
use Prim.Native.Nat.{ℕ, zero, suc, ◌≤◌}
use native.Mathlib.Omega.{arith}
use lib.ListN.{length, take, drop, take-append-drop}
use lib.Seq.{take-append_seam, length-take-le}
use lib.Dec.{eqb}
use borrow.Author.Tests.{eqb-true, not-true}
use Rattle.litmus_model.specs.Bytes.{Token, is_blank, is_digit, in_word, in_name, all, some, same, is_number, is_constant, is_dollar, is_name}
use Rattle.litmus_model.specs.Forms.{exists}
use Rattle.litmus_model.specs.Tokens.{Stops, Whole, word, dollar, minus, tilde, Piece, whole, mark, NamePiece, name, brace, PieceAt}
use Rattle.litmus_model.specs.Splitting.{run, number_length, one_more, signed_length, behind, behind_in}
use Rattle.litmus_model.proofs.Bools.{false-true, and-true, and_left, and_right, or_cases, same_true, same_refl}

-- ---- runs

pub run-whole : (f : ℕ → Bool) (w rest : List ℕ) → all f w ≡ true → Stops f rest → run f (w ++ rest) ≡ length w
unfolding run all
run-whole f [] [] a s = refl
run-whole f [] (b ∷ bs) a s = rw (s, run)
run-whole f (b ∷ w) rest a s = rw (and_left (f b) (all f w) a, run) (ap suc (run-whole f w rest (and_right (f b) (all f w) a) s))

record Longest (f : ℕ → Bool) (bs : List ℕ) (n : ℕ) : Type 0 where
  so : all f (take n bs) ≡ true
  stops : Stops f (drop n bs)
  fits : n ≤ length bs

run-longest : (f : ℕ → Bool) (bs : List ℕ) → Longest f bs (run f bs)
unfolding run all
run-longest f [] = record { so = refl; stops = tt; fits = omega arith }
run-longest f (b ∷ bs) = go (f b) refl (run-longest f bs)
  where
    go : (x : Bool) → f b ≡ x → Longest f bs (run f bs) → Longest f (b ∷ bs) (cond x (suc (run f bs)) 0)
    go true e r = record { so = and-true e r.so; stops = r.stops; fits = let h = r.fits in omega arith }
    go false e r = record { so = refl; stops = e; fits = omega arith }

-- ---- bytes

digit-word : (b : ℕ) → is_digit b ≡ true → in_word b ≡ true
unfolding in_word
digit-word b e = rw e

digits-words : (w : Token) → all is_digit w ≡ true → all in_word w ≡ true
unfolding all
digits-words [] e = refl
digits-words (b ∷ w) e = and-true (digit-word b (and_left _ (all is_digit w) e)) (digits-words w (and_right (is_digit b) _ e))

some-all : (f : ℕ → Bool) (w : Token) → some f w ≡ true → all f w ≡ true
unfolding some all
some-all f [] e = false-true e
some-all f (b ∷ w) e = e

number-words : (w : Token) → is_number w ≡ true → all in_word w ≡ true
number-words w e = digits-words w (some-all is_digit w e)

-- blanks are no letters or digits
space : in_word 32 ≡ false
unfolding in_word
space = refl

line : in_word 10 ≡ false
unfolding in_word
line = refl

return : in_word 13 ≡ false
unfolding in_word
return = refl

no_word : (b : ℕ) → is_blank b ≡ true → in_word b ≡ false
no_word b e = go (or_cases _ _ e)
  where
    of : (c : ℕ) → in_word c ≡ false → eqb b c ≡ true → in_word b ≡ false
    of c h x = ap in_word (eqb-true b c x) ∙ h

    two : (eqb b 32 ≡ true) ⊎ (eqb b 10 ≡ true) → in_word b ≡ false
    two (inl x) = of 32 space x
    two (inr x) = of 10 line x

    go : (eqb b 32 || eqb b 10 ≡ true) ⊎ (eqb b 13 ≡ true) → in_word b ≡ false
    go (inl x) = two (or_cases _ _ x)
    go (inr x) = of 13 return x

word-not-blank : (b : ℕ) → in_word b ≡ true → is_blank b ≡ false
word-not-blank b e = go (is_blank b) refl
  where
    go : (x : Bool) → is_blank b ≡ x → x ≡ false
    go true h = false-true (sym (no_word b h) ∙ e)
    go false h = refl

-- ---- numbers

number-length : (w rest : List ℕ) → is_number w ≡ true → Stops in_word rest → number_length (w ++ rest) ≡ length w
unfolding number_length
number-length w rest e s =
    ap (λ (n : ℕ). cond (is_number (take n (w ++ rest))) n 0) (run-whole in_word w rest (number-words w e) s)
    ∙ ap (λ (v : Token). cond (is_number v) (length w) 0) (take-append_seam w rest)
    ∙ ap (λ (b : Bool). cond b (length w) 0) e

record Numbered (bs : List ℕ) (n : ℕ) : Type 0 where
  number : is_number (take n bs) ≡ true
  stops : Stops in_word (drop n bs)
  fits : n ≤ length bs

number-found : (bs : List ℕ) → (number_length bs ≡ 0) ⊎ Numbered bs (number_length bs)
unfolding number_length
number-found bs = go (is_number (take (run in_word bs) bs)) refl (run-longest in_word bs)
  where
    go : (x : Bool) → is_number (take (run in_word bs) bs) ≡ x → Longest in_word bs (run in_word bs) → (cond x (run in_word bs) 0 ≡ 0) ⊎ Numbered bs (cond x (run in_word bs) 0)
    go true e r = inr (record { number = e; stops = r.stops; fits = r.fits })
    go false e r = inl refl

number-some : (w : Token) → is_number w ≡ true → (n : ℕ) × (length w ≡ suc n)
unfolding some
number-some [] e = false-true e
number-some (b ∷ w) e = (length w, refl)

-- ---- constants

one_more_suc : (n m : ℕ) → n ≡ suc m → one_more n ≡ suc n
unfolding one_more
one_more_suc n m e = rw e

signed-length : (w rest : List ℕ) → is_constant w ≡ true → Stops in_word rest → signed_length (w ++ rest) ≡ length w
unfolding signed_length is_constant
signed-length [] rest e s = false-true e
signed-length (b ∷ w) rest e s = go (eqb b 45) refl e
  where
    go : (x : Bool) → eqb b 45 ≡ x → cond x (is_number w) (is_number (b ∷ w)) ≡ true → cond x (one_more (number_length (w ++ rest))) (number_length (b ∷ (w ++ rest))) ≡ suc (length w)
    go true h k = let n = number-some w k in ap one_more (number-length w rest k s) ∙ one_more_suc (length w) n.0 n.1
    go false h k = number-length (b ∷ w) rest k s

record Signed (bs : List ℕ) (n : ℕ) : Type 0 where
  constant : is_constant (take n bs) ≡ true
  stops : Stops in_word (drop n bs)
  fits : n ≤ length bs

more-none : one_more 0 ≡ 0
unfolding one_more
more-none = refl

minus_number : (b : ℕ) (w : Token) → eqb b 45 ≡ true → is_number w ≡ true → is_constant (b ∷ w) ≡ true
unfolding is_constant
minus_number b w e h = rw e h

plain-number : (w : Token) → is_number w ≡ true → ((b : ℕ) (v : Token) → w ≡ b ∷ v → eqb b 45 ≡ false) → is_constant w ≡ true
unfolding is_constant some
plain-number [] h n = h
plain-number (b ∷ w) h n = rw (n b w refl) h

signed-more : {b : ℕ} {bs : List ℕ} → eqb b 45 ≡ true → (n : ℕ) → Numbered bs (suc n) → Signed (b ∷ bs) (one_more (suc n))
unfolding one_more
signed-more {b} {bs} e n r = record { constant = minus_number b (take (suc n) bs) e r.number; stops = r.stops; fits = let h = r.fits in omega arith }

signed-plain : {b : ℕ} {bs : List ℕ} → eqb b 45 ≡ false → (n : ℕ) → Numbered (b ∷ bs) n → Signed (b ∷ bs) n
signed-plain {b} {bs} e zero r = record { constant = plain-number [] r.number (λ c v h. let z : ◌≡◌ {A = ℕ} 0 1 = cc in absurd (omega arith)); stops = r.stops; fits = r.fits }
signed-plain {b} {bs} e (suc n) r = record { constant = plain-number (b ∷ take n bs) r.number (λ c v h. let z : b ≡ c = cc in ap (λ (x : ℕ). eqb x 45) (sym z) ∙ e); stops = r.stops; fits = r.fits }

signed-found : (bs : List ℕ) → (signed_length bs ≡ 0) ⊎ Signed bs (signed_length bs)
unfolding signed_length
signed-found [] = inl refl
signed-found (b ∷ bs) = go (eqb b 45) refl
  where
    negative : eqb b 45 ≡ true → (n : ℕ) → Numbered bs n → (one_more n ≡ 0) ⊎ Signed (b ∷ bs) (one_more n)
    negative e zero r = inl more-none
    negative e (suc n) r = inr (signed-more e n r)

    plus : eqb b 45 ≡ false → (number_length (b ∷ bs) ≡ 0) ⊎ Numbered (b ∷ bs) (number_length (b ∷ bs)) → (number_length (b ∷ bs) ≡ 0) ⊎ Signed (b ∷ bs) (number_length (b ∷ bs))
    plus e (inl z) = inl z
    plus e (inr r) = inr (signed-plain e (number_length (b ∷ bs)) r)

    split : eqb b 45 ≡ true → (number_length bs ≡ 0) ⊎ Numbered bs (number_length bs) → (one_more (number_length bs) ≡ 0) ⊎ Signed (b ∷ bs) (one_more (number_length bs))
    split e (inl z) = inl (ap one_more z ∙ more-none)
    split e (inr r) = negative e (number_length bs) r

    go : (x : Bool) → eqb b 45 ≡ x → (cond x (one_more (number_length bs)) (number_length (b ∷ bs)) ≡ 0) ⊎ Signed (b ∷ bs) (cond x (one_more (number_length bs)) (number_length (b ∷ bs)))
    go true e = split e (number-found bs)
    go false e = plus e (number-found (b ∷ bs))

-- ---- whole tokens

pub dollar-behind : (bs : List ℕ) → behind 36 bs ≡ signed_length bs
unfolding behind in_word
dollar-behind bs = refl

pub minus-behind : (bs : List ℕ) → behind 45 bs ≡ number_length bs
unfolding behind in_word
minus-behind bs = refl

pub tilde-behind : (bs : List ℕ) → behind 126 bs ≡ cond (same exists (take (run in_word bs) bs)) 6 0
unfolding behind in_word
tilde-behind bs = refl

pub word-behind : (b : ℕ) (bs : List ℕ) → in_word b ≡ true → behind b bs ≡ run in_word bs
unfolding behind
word-behind b bs e = rw e

exists-words : all in_word exists ≡ true
unfolding all in_word
exists-words = refl

dollar-parts : (b : ℕ) (w : Token) → is_dollar (b ∷ w) ≡ true → (b ≡ 36) × (is_constant w ≡ true)
unfolding is_dollar
dollar-parts b w e = (eqb-true b 36 (and_left _ (is_constant w) e), and_right (eqb b 36) _ e)

word-parts : (b : ℕ) (w : Token) → some in_word (b ∷ w) ≡ true → (in_word b ≡ true) × (all in_word w ≡ true)
unfolding some
word-parts b w e = (and_left _ (all in_word w) e, and_right (in_word b) _ e)

pub whole-behind : {t : Token} (b : ℕ) (w rest : List ℕ) → Whole t → t ≡ b ∷ w → Stops in_word rest → behind b (w ++ rest) ≡ length w
whole-behind b w rest (word h) e s = let p = word-parts b w (ap (some in_word) (sym e) ∙ h) in word-behind b (w ++ rest) p.0 ∙ run-whole in_word w rest p.1 s
whole-behind b w rest (dollar h) e s =
    let p = dollar-parts b w (ap is_dollar (sym e) ∙ h) in
    ap (λ (c : ℕ). behind c (w ++ rest)) p.0 ∙ dollar-behind (w ++ rest) ∙ signed-length w rest p.1 s
whole-behind b w rest (minus {w = v} h) e s =
    let p : b ≡ 45 = cc in
    let q : w ≡ v = cc in
    ap (λ (c : ℕ). behind c (w ++ rest)) p ∙ minus-behind (w ++ rest) ∙ number-length w rest (ap is_number q ∙ h) s
whole-behind b w rest tilde e s =
    let p : b ≡ 126 = cc in
    let q : w ≡ exists = cc in
    ap (λ (c : ℕ). behind c (w ++ rest)) p ∙ ap (λ (v : Token). behind 126 (v ++ rest)) q ∙ tilde-behind (exists ++ rest)
    ∙ ap (λ (n : ℕ). cond (same exists (take n (exists ++ rest))) 6 0) (run-whole in_word exists rest exists-words s)
    ∙ ap (λ (v : Token). cond (same exists v) 6 0) (take-append_seam exists rest)
    ∙ ap (λ (x : Bool). cond x 6 0) (same_refl exists)
    ∙ ap length (sym q)

record Found (b : ℕ) (bs : List ℕ) (n : ℕ) : Type 0 where
  whole : Whole (b ∷ take n bs)
  stops : Stops in_word (drop n bs)
  fits : n ≤ length bs

found-same : {b c : ℕ} {bs : List ℕ} {n m : ℕ} → c ≡ b → m ≡ n → Found c bs m ⊎ (m ≡ 0) → Found b bs n ⊎ (n ≡ 0)
found-same {b} {c} {bs} {n} {m} p q r = subst (λ (x : ℕ). Found x bs n ⊎ (n ≡ 0)) p (subst (λ (x : ℕ). Found c bs x ⊎ (x ≡ 0)) q r)

some_of : (b : ℕ) (w : Token) → in_word b ≡ true → all in_word w ≡ true → some in_word (b ∷ w) ≡ true
unfolding some
some_of b w e h = and-true e h

dollar-of : (w : Token) → is_constant w ≡ true → is_dollar (36 ∷ w) ≡ true
unfolding is_dollar
dollar-of w e = e

pub other : (b : ℕ) (bs : List ℕ) → in_word b ≡ false → eqb b 36 ≡ false → eqb b 45 ≡ false → eqb b 126 ≡ false → behind b bs ≡ 0
unfolding behind
other b bs w d m t = rw (w, d, m, t)

no-constant : {A : Type 0} → is_constant [] ≡ true → A
unfolding is_constant
no-constant e = false-true e

no_number : {A : Type 0} → is_number [] ≡ true → A
unfolding some
no_number e = false-true e

no-word-none : {A : Type 0} → some in_word [] ≡ true → A
unfolding some
no-word-none e = false-true e

no-dollar : {A : Type 0} → is_dollar [] ≡ true → A
unfolding is_dollar
no-dollar e = false-true e

length_none : (w : Token) → length w ≡ 0 → w ≡ []
length_none [] e = refl
length_none (b ∷ w) e = absurd (omega arith)

word-whole : (b : ℕ) (w : Token) → in_word b ≡ true → all in_word w ≡ true → Whole (b ∷ w)
word-whole b w e h = word (some_of b w e h)

word-found : (b : ℕ) (bs : List ℕ) → in_word b ≡ true → Found b bs (run in_word bs)
word-found b bs e = let r = run-longest in_word bs in record { whole = word-whole b (take (run in_word bs) bs) e r.so; stops = r.stops; fits = r.fits }

dollar-found : (bs : List ℕ) → Found 36 bs (signed_length bs) ⊎ (signed_length bs ≡ 0)
dollar-found bs = go (signed-found bs)
  where
    go : (signed_length bs ≡ 0) ⊎ Signed bs (signed_length bs) → Found 36 bs (signed_length bs) ⊎ (signed_length bs ≡ 0)
    go (inl z) = inr z
    go (inr r) = inl (record { whole = dollar (dollar-of (take (signed_length bs) bs) r.constant); stops = r.stops; fits = r.fits })

minus-found : (bs : List ℕ) → Found 45 bs (number_length bs) ⊎ (number_length bs ≡ 0)
minus-found bs = go (number-found bs)
  where
    go : (number_length bs ≡ 0) ⊎ Numbered bs (number_length bs) → Found 45 bs (number_length bs) ⊎ (number_length bs ≡ 0)
    go (inl z) = inr z
    go (inr r) = inl (record { whole = minus r.number; stops = r.stops; fits = r.fits })

pub six-long : (bs : List ℕ) → same exists (take (run in_word bs) bs) ≡ true → run in_word bs ≡ 6
six-long bs e = sym (length-take-le (run in_word bs) bs (run-longest in_word bs).fits) ∙ ap length (sym (same_true exists (take (run in_word bs) bs) e))

tilde-found : (bs : List ℕ) → Found 126 bs (cond (same exists (take (run in_word bs) bs)) 6 0) ⊎ (cond {A = ℕ} (same exists (take (run in_word bs) bs)) 6 0 ≡ 0)
tilde-found bs = go (same exists (take (run in_word bs) bs)) refl
  where
    six : exists ≡ take (run in_word bs) bs → run in_word bs ≡ 6
    six e = sym (length-take-le (run in_word bs) bs (run-longest in_word bs).fits) ∙ ap length (sym e)

    at-six : exists ≡ take (run in_word bs) bs → Found 126 bs 6
    at-six e = let r = run-longest in_word bs in record {
      whole = subst (λ (v : Token). Whole (126 ∷ v)) (e ∙ ap (λ (n : ℕ). take n bs) (six e)) tilde;
      stops = subst (λ (n : ℕ). Stops in_word (drop n bs)) (six e) r.stops;
      fits = subst (λ (n : ℕ). n ≤ length bs) (six e) r.fits;
    }

    go : (x : Bool) → same exists (take (run in_word bs) bs) ≡ x → Found 126 bs (cond x 6 0) ⊎ (cond {A = ℕ} x 6 0 ≡ 0)
    go true e = inl (at-six (same_true exists (take (run in_word bs) bs) e))
    go false e = inr refl

-- either a whole token stands here, or a mark
behind-found : (b : ℕ) (bs : List ℕ) → Found b bs (behind b bs) ⊎ ((behind b bs ≡ 0) × (in_word b ≡ false))
behind-found b bs = start (in_word b) refl
  where
    marked : in_word b ≡ false → Found b bs (behind b bs) ⊎ (behind b bs ≡ 0) → Found b bs (behind b bs) ⊎ ((behind b bs ≡ 0) × (in_word b ≡ false))
    marked e (inl f) = inl f
    marked e (inr z) = inr (z, e)

    at-tilde : in_word b ≡ false → eqb b 36 ≡ false → eqb b 45 ≡ false → (x : Bool) → eqb b 126 ≡ x → Found b bs (behind b bs) ⊎ (behind b bs ≡ 0)
    at-tilde w d m true e = let p : 126 ≡ b = sym (eqb-true b 126 e) in found-same p (sym (tilde-behind bs) ∙ ap (λ (c : ℕ). behind c bs) p) (tilde-found bs)
    at-tilde w d m false e = inr (other b bs w d m e)

    at-minus : in_word b ≡ false → eqb b 36 ≡ false → (x : Bool) → eqb b 45 ≡ x → Found b bs (behind b bs) ⊎ (behind b bs ≡ 0)
    at-minus w d true e = let p : 45 ≡ b = sym (eqb-true b 45 e) in found-same p (sym (minus-behind bs) ∙ ap (λ (c : ℕ). behind c bs) p) (minus-found bs)
    at-minus w d false e = at-tilde w d e (eqb b 126) refl

    at-dollar : in_word b ≡ false → (x : Bool) → eqb b 36 ≡ x → Found b bs (behind b bs) ⊎ (behind b bs ≡ 0)
    at-dollar w true e = let p : 36 ≡ b = sym (eqb-true b 36 e) in found-same p (sym (dollar-behind bs) ∙ ap (λ (c : ℕ). behind c bs) p) (dollar-found bs)
    at-dollar w false e = at-minus w e (eqb b 45) refl

    start : (x : Bool) → in_word b ≡ x → Found b bs (behind b bs) ⊎ ((behind b bs ≡ 0) × (in_word b ≡ false))
    start true e = inl (subst (λ (n : ℕ). Found b bs n) (sym (word-behind b bs e)) (word-found b bs e))
    start false e = marked e (at-dollar e (eqb b 36) refl)

-- ---- a whole token of one byte is a letter or a digit

one_byte : {t : Token} (b : ℕ) → Whole t → t ≡ b ∷ [] → in_word b ≡ true
one_byte b (word h) e = (word-parts b [] (ap (some in_word) (sym e) ∙ h)).0
one_byte b (dollar h) e = no-constant (dollar-parts b [] (ap is_dollar (sym e) ∙ h)).1
one_byte b (minus {w = v} h) e = let q : v ≡ [] = cc in no_number (ap is_number (sym q) ∙ h)
one_byte b tilde e = let z : ◌≡◌ {A = ℕ} 0 1 = cc in absurd (omega arith)

-- its first byte is no blank
whole-first : {t : Token} → Whole t → (b : ℕ) × (w : Token) × (t ≡ b ∷ w) × (is_blank b ≡ false)
whole-first {t} (word h) = go t refl
  where
    go : (v : Token) → t ≡ v → (b : ℕ) × (w : Token) × (v ≡ b ∷ w) × (is_blank b ≡ false)
    go [] e = no-word-none (ap (some in_word) (sym e) ∙ h)
    go (b ∷ w) e = (b, w, refl, word-not-blank b (word-parts b w (ap (some in_word) (sym e) ∙ h)).0)
whole-first {t} (dollar h) = go t refl
  where
    go : (v : Token) → t ≡ v → (b : ℕ) × (w : Token) × (v ≡ b ∷ w) × (is_blank b ≡ false)
    go [] e = no-dollar (ap is_dollar (sym e) ∙ h)
    go (b ∷ w) e = (b, w, refl, ap is_blank (dollar-parts b w (ap is_dollar (sym e) ∙ h)).0)
whole-first (minus {w = v} h) = (45, v, refl, refl)
whole-first tilde = (126, exists, refl, refl)

-- ---- pieces

pub piece_of : (b : ℕ) (bs : List ℕ) → is_blank b ≡ false → Piece (b ∷ take (behind b bs) bs) (drop (behind b bs) bs)
piece_of b bs n = go (behind-found b bs)
  where
    only : behind b bs ≡ 0 → in_word b ≡ false → (w after : List ℕ) → w ++ after ≡ b ∷ bs → Whole w → ¬ Stops in_word after
    only z e w after p x s =
        let f = whole-first x in
        let q : (f.0 ∷ f.1) ++ after ≡ b ∷ bs = ap (λ (v : Token). v ++ after) (sym f.2) ∙ p in
        let same_first : f.0 ≡ b = cc in
        let same_rest : f.1 ++ after ≡ bs = cc in
        let l : length f.1 ≡ 0 = sym (whole-behind b f.1 after x (f.2 ∙ ap (λ (c : ℕ). c ∷ f.1) same_first) s) ∙ ap (behind b) same_rest ∙ z in
        false-true (sym e ∙ one_byte b x (f.2 ∙ (λ i. same_first i ∷ length_none f.1 l i)))

    go : Found b bs (behind b bs) ⊎ ((behind b bs ≡ 0) × (in_word b ≡ false)) → Piece (b ∷ take (behind b bs) bs) (drop (behind b bs) bs)
    go (inl f) = whole f.whole f.stops
    go (inr z) = subst (λ (k : ℕ). Piece (b ∷ take k bs) (drop k bs)) (sym z.0) (mark n (only z.0 z.1))

pub behind-fits : (b : ℕ) (bs : List ℕ) → behind b bs ≤ length bs
behind-fits b bs = go (behind-found b bs)
  where
    go : Found b bs (behind b bs) ⊎ ((behind b bs ≡ 0) × (in_word b ≡ false)) → behind b bs ≤ length bs
    go (inl f) = f.fits
    go (inr z) = let e = z.0 in omega arith

-- what stands here, taken apart
pub record Here (t : Token) (rest : List ℕ) (behind-it : ℕ → List ℕ → ℕ) : Type 0 where
  pub first : ℕ
  pub others : Token
  pub parts : t ≡ first ∷ others
  pub seen : is_blank first ≡ false
  pub length : behind-it first (others ++ rest) ≡ lib.ListN.length others

pub piece-here : {t : Token} {rest : List ℕ} → Piece t rest → Here t rest behind
piece-here {rest = rest} (whole x s) = let f = whole-first x in record { first = f.0; others = f.1; parts = f.2; seen = f.3; length = whole-behind f.0 f.1 rest x f.2 s }
piece-here {rest = rest} (mark {b = b} n o) = record { first = b; others = []; parts = refl; seen = n; length = go (behind-found b rest) }
  where
    go : Found b rest (behind b rest) ⊎ ((behind b rest ≡ 0) × (in_word b ≡ false)) → behind b rest ≡ 0
    go (inl f) = absurd (o (b ∷ take (behind b rest) rest) (drop (behind b rest) rest) (ap (λ (l : List ℕ). b ∷ l) (take-append-drop (behind b rest) rest)) f.whole f.stops)
    go (inr z) = z.0

-- ---- names

in-name : (b : ℕ) → in_name b ≡ true → is_blank b ≡ false
unfolding in_name
in-name b e = not-true (is_blank b) (and_left _ (not (eqb b 123)) e)

only-brace : (b : ℕ) → is_blank b ≡ false → in_name b ≡ false → b ≡ 123
unfolding in_name
only-brace b n e = go (eqb b 123) refl
  where
    go : (x : Bool) → eqb b 123 ≡ x → b ≡ 123
    go true h = eqb-true b 123 h
    go false h = false-true (sym e ∙ (λ i. not (n i) && not (h i)))

name-behind : (b : ℕ) (bs : List ℕ) (x : Bool) → in_name b ≡ x → behind_in 1 b bs ≡ cond x (run in_name bs) 0
unfolding behind_in
name-behind b bs x e = rw e

some-name : (b : ℕ) (w : Token) → in_name b ≡ true → all in_name w ≡ true → is_name (b ∷ w) ≡ true
unfolding some
some-name b w e h = and-true e h

name-parts : (t : Token) → is_name t ≡ true → (b : ℕ) × (w : Token) × (t ≡ b ∷ w) × (in_name b ≡ true) × (all in_name w ≡ true)
unfolding some
name-parts [] e = false-true e
name-parts (b ∷ w) e = (b, w, refl, and_left _ (all in_name w) e, and_right (in_name b) _ e)

pub name_of : (b : ℕ) (bs : List ℕ) → is_blank b ≡ false → NamePiece (b ∷ take (behind_in 1 b bs) bs) (drop (behind_in 1 b bs) bs)
name_of b bs n = go (in_name b) refl
  where
    at : (k : ℕ) → behind_in 1 b bs ≡ k → NamePiece (b ∷ take k bs) (drop k bs) → NamePiece (b ∷ take (behind_in 1 b bs) bs) (drop (behind_in 1 b bs) bs)
    at k e x = subst (λ (j : ℕ). NamePiece (b ∷ take j bs) (drop j bs)) (sym e) x

    go : (x : Bool) → in_name b ≡ x → NamePiece (b ∷ take (behind_in 1 b bs) bs) (drop (behind_in 1 b bs) bs)
    go true e = let r = run-longest in_name bs in at (run in_name bs) (name-behind b bs true e) (name (some-name b (take (run in_name bs) bs) e r.so) r.stops)
    go false e = at 0 (name-behind b bs false e) (subst (λ (c : ℕ). NamePiece (c ∷ []) bs) (sym (only-brace b n e)) brace)

name-fits : (b : ℕ) (bs : List ℕ) → behind_in 1 b bs ≤ length bs
name-fits b bs = go (in_name b) refl
  where
    go : (x : Bool) → in_name b ≡ x → behind_in 1 b bs ≤ length bs
    go true e = let h = name-behind b bs true e in let r = (run-longest in_name bs).fits in omega arith
    go false e = let h = name-behind b bs false e in omega arith

brace-last : in_name 123 ≡ false
unfolding in_name
brace-last = refl

name-here : {t : Token} {rest : List ℕ} → NamePiece t rest → Here t rest (behind_in 1)
name-here {t} {rest} (name h s) =
    let p = name-parts t h in
    record { first = p.0; others = p.1; parts = p.2; seen = in-name p.0 p.3; length = name-behind p.0 (p.1 ++ rest) true p.3 ∙ run-whole in_name p.1 rest p.4 s }
name-here {rest = rest} brace = record { first = 123; others = []; parts = refl; seen = refl; length = name-behind 123 rest false brace-last }

-- ---- behind k tokens

pub piece-at : (k b : ℕ) (bs : List ℕ) → is_blank b ≡ false → PieceAt k (b ∷ take (behind_in k b bs) bs) (drop (behind_in k b bs) bs)
unfolding behind_in
piece-at zero b bs n = piece_of b bs n
piece-at (suc zero) b bs n = name_of b bs n
piece-at (suc (suc k)) b bs n = piece_of b bs n

pub fits-at : (k b : ℕ) (bs : List ℕ) → behind_in k b bs ≤ length bs
unfolding behind_in
fits-at zero b bs = behind-fits b bs
fits-at (suc zero) b bs = name-fits b bs
fits-at (suc (suc k)) b bs = behind-fits b bs

pub here-at : (k : ℕ) {t : Token} {rest : List ℕ} → PieceAt k t rest → Here t rest (behind_in k)
unfolding behind_in
here-at zero x = piece-here x
here-at (suc zero) x = name-here x
here-at (suc (suc k)) x = piece-here x
