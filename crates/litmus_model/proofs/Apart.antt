-- Forms that no text can be mistaken for: where two of them part, no token fits both; until then their tokens say the same.
use mathlib.Core.Path.{◌≡◌, refl, ap, sym, ◌∙◌}
use mathlib.Core.Bool.{Bool, true, false, cond, not, ◌&&◌, ◌||◌}
use mathlib.Core.Logic.{◌⊎◌, inl, inr}
use mathlib.Core.List.{List, [], ◌∷◌}
use Prim.Native.Nat.{ℕ, ◌≤◌}
use native.Mathlib.Omega.{arith}
use lib.ListN.{get_or}
use lib.Dec.{eqb, leb, ltb}
use borrow.Author.Tests.{eqb-true, leb-true, ltb-true, not-true}
use Rattle.litmus_model.specs.Bytes.{Token, same, all, is_location, is_register, is_number, is_constant, is_dollar, is_digit}
use Rattle.litmus_model.specs.Forms.{Pattern, exactly, location, register, processor, constant, dollar, fits, mention, Form}
use Rattle.litmus_model.proofs.Bools.{false-true, and_left, and_right, or_cases, same_true}

-- ---- first bytes

abbrev first : Token → ℕ
first t = get_or t 0 0

abbrev pub lowest : Pattern → ℕ
lowest (exactly w) = first w
lowest location = 97
lowest register = 69
lowest processor = 48
lowest constant = 45
lowest dollar = 36

abbrev pub highest : Pattern → ℕ
highest (exactly w) = first w
highest location = 122
highest register = 69
highest processor = 57
highest constant = 57
highest dollar = 36

number-range : (t : Token) → is_number t ≡ true → (48 ≤ first t) × (first t ≤ 57)
unfolding Rattle.litmus_model.specs.Bytes.some
number-range [] e = false-true e
number-range (b ∷ bs) e =
    let d : is_digit b ≡ true = and_left _ (all is_digit bs) e in
    (leb-true 48 b (and_left _ _ d), leb-true b 57 (and_right (leb 48 b) _ d))

constant-range : (t : Token) → is_constant t ≡ true → (45 ≤ first t) × (first t ≤ 57)
unfolding is_constant
constant-range [] e = false-true e
constant-range (b ∷ bs) e = go (eqb b 45) refl e
  where
    go : (m : Bool) → eqb b 45 ≡ m → cond m (is_number bs) (is_number (b ∷ bs)) ≡ true → (45 ≤ b) × (b ≤ 57)
    go true h k = let s : b ≡ 45 = eqb-true b 45 h in (omega arith, omega arith)
    go false h k = let r = number-range (b ∷ bs) k in (omega arith, r.1)

register-first : (t : Token) → is_register t ≡ true → first t ≡ 69
unfolding is_register
register-first t e = go (or_cases _ _ e)
  where
    of : (w : Token) → first w ≡ 69 → same w t ≡ true → first t ≡ 69
    of w f s = ap first (sym (same_true w t s)) ∙ f

    two : (same (69 ∷ 65 ∷ 88 ∷ []) t ≡ true) ⊎ (same (69 ∷ 66 ∷ 88 ∷ []) t ≡ true) → first t ≡ 69
    two (inl s) = of (69 ∷ 65 ∷ 88 ∷ []) refl s
    two (inr s) = of (69 ∷ 66 ∷ 88 ∷ []) refl s

    three : (same (69 ∷ 65 ∷ 88 ∷ []) t || same (69 ∷ 66 ∷ 88 ∷ []) t ≡ true) ⊎ (same (69 ∷ 67 ∷ 88 ∷ []) t ≡ true) → first t ≡ 69
    three (inl s) = two (or_cases _ _ s)
    three (inr s) = of (69 ∷ 67 ∷ 88 ∷ []) refl s

    go : (same (69 ∷ 65 ∷ 88 ∷ []) t || same (69 ∷ 66 ∷ 88 ∷ []) t || same (69 ∷ 67 ∷ 88 ∷ []) t ≡ true) ⊎ (same (69 ∷ 68 ∷ 88 ∷ []) t ≡ true) → first t ≡ 69
    go (inl s) = three (or_cases _ _ s)
    go (inr s) = of (69 ∷ 68 ∷ 88 ∷ []) refl s

location-range : (t : Token) → is_location t ≡ true → (97 ≤ first t) × (first t ≤ 122)
unfolding is_location
location-range [] e = false-true e
location-range (b ∷ []) e = (leb-true 97 b (and_left _ _ e), leb-true b 122 (and_right (leb 97 b) _ e))
location-range (b ∷ c ∷ bs) e = false-true e

dollar-first : (t : Token) → is_dollar t ≡ true → first t ≡ 36
unfolding is_dollar
dollar-first [] e = false-true e
dollar-first (b ∷ bs) e = eqb-true b 36 (and_left _ _ e)

pub in-range : (p : Pattern) (t : Token) → fits p t ≡ true → (lowest p ≤ first t) × (first t ≤ highest p)
unfolding fits
in-range (exactly w) t e = let f : first w ≡ first t = ap first (same_true w t e) in (omega arith, omega arith)
in-range location t e = location-range t e
in-range register t e = let f = register-first t e in (omega arith, omega arith)
in-range processor t e = number-range t e
in-range constant t e = constant-range t e
in-range dollar t e = let f = dollar-first t e in (omega arith, omega arith)

-- ---- patterns that no token fits both of

abbrev differs : Token → Pattern → Bool
differs w (exactly v) = not (same w v)
differs w location = false
differs w register = false
differs w processor = false
differs w constant = false
differs w dollar = false

abbrev differ : Pattern → Pattern → Bool
differ (exactly w) q = differs w q
differ location q = false
differ register q = false
differ processor q = false
differ constant q = false
differ dollar q = false

unfoldable pub disjoint : Pattern → Pattern → Bool
unfolding same
disjoint p q = ltb (highest p) (lowest q) || ltb (highest q) (lowest p) || differ p q

differs-no : (w : Token) (q : Pattern) (t : Token) → differs w q ≡ true → w ≡ t → fits q t ≡ true → ⊥
unfolding fits
differs-no w (exactly v) t d e h = false-true (sym (not-true (same w v) d) ∙ ap (λ (x : Token). same x v) (e ∙ sym (same_true v t h)) ∙ Rattle.litmus_model.proofs.Bools.same_refl v)
differs-no w location t d e h = false-true d
differs-no w register t d e h = false-true d
differs-no w processor t d e h = false-true d
differs-no w constant t d e h = false-true d
differs-no w dollar t d e h = false-true d

differ-no : (p q : Pattern) (t : Token) → differ p q ≡ true → fits p t ≡ true → fits q t ≡ true → ⊥
unfolding fits
differ-no (exactly w) q t d g h = differs-no w q t d (same_true w t g) h
differ-no location q t d g h = false-true d
differ-no register q t d g h = false-true d
differ-no processor q t d g h = false-true d
differ-no constant q t d g h = false-true d
differ-no dollar q t d g h = false-true d

pub disjoint-no : (p q : Pattern) (t : Token) → disjoint p q ≡ true → fits p t ≡ true → fits q t ≡ true → ⊥
unfolding disjoint
disjoint-no p q t d g h = go (or_cases _ _ d)
  where
    order : (ltb (highest p) (lowest q) ≡ true) ⊎ (ltb (highest q) (lowest p) ≡ true) → ⊥
    order (inl l) = let a = in-range p t g in let b = in-range q t h in let c = ltb-true (highest p) (lowest q) l in omega arith
    order (inr l) = let a = in-range p t g in let b = in-range q t h in let c = ltb-true (highest q) (lowest p) l in omega arith

    go : (ltb (highest p) (lowest q) || ltb (highest q) (lowest p) ≡ true) ⊎ (differ p q ≡ true) → ⊥
    go (inl l) = order (or_cases _ _ l)
    go (inr x) = differ-no p q t x g h

-- ---- patterns whose tokens say the same

abbrev code : Pattern → ℕ
code (exactly w) = 0
code location = 1
code register = 2
code processor = 3
code constant = 4
code dollar = 5

abbrev back : ℕ → Pattern
back n = get_or (exactly [] ∷ location ∷ register ∷ processor ∷ constant ∷ dollar ∷ []) n (exactly [])

unfoldable pub agree : Pattern → Pattern → Bool
agree p q = eqb (code p) (code q)

mention-back : (p : Pattern) (t : Token) → mention p t ≡ mention (back (code p)) t
unfolding mention
mention-back (exactly w) t = refl
mention-back location t = refl
mention-back register t = refl
mention-back processor t = refl
mention-back constant t = refl
mention-back dollar t = refl

pub agree-says : (p q : Pattern) (t : Token) → agree p q ≡ true → mention p t ≡ mention q t
unfolding agree
agree-says p q t e = mention-back p t ∙ ap (λ (n : ℕ). mention (back n) t) (eqb-true (code p) (code q) e) ∙ sym (mention-back q t)

-- ---- forms

unfoldable pub apart : List Pattern → List Pattern → Bool
unfolding disjoint agree
apart [] qs = false
apart (p ∷ ps) [] = false
apart (p ∷ ps) (q ∷ qs) = disjoint p q || agree p q && apart ps qs

-- a token that fits both: it says the same, and the rest is apart
pub apart-on : (p : Pattern) (ps : List Pattern) (q : Pattern) (qs : List Pattern) (t : Token)
    → apart (p ∷ ps) (q ∷ qs) ≡ true → fits p t ≡ true → fits q t ≡ true → (mention p t ≡ mention q t) × (apart ps qs ≡ true)
unfolding apart
apart-on p ps q qs t a g h = go (or_cases _ _ a)
  where
    go : (disjoint p q ≡ true) ⊎ (agree p q && apart ps qs ≡ true) → (mention p t ≡ mention q t) × (apart ps qs ≡ true)
    go (inl d) = absurd (disjoint-no p q t d g h)
    go (inr b) = (agree-says p q t (and_left _ _ b), and_right (agree p q) _ b)

pub apart-nil : (ps : List Pattern) → apart ps [] ≡ false
unfolding apart
apart-nil [] = refl
apart-nil (p ∷ ps) = refl

-- each two of these forms are apart
unfoldable pub all_apart : List Pattern → List Form → Bool
unfolding apart
all_apart ps [] = true
all_apart ps (f ∷ fs) = apart ps f.patterns && all_apart ps fs

unfoldable pub separate : List Form → Bool
unfolding all_apart
separate [] = true
separate (f ∷ fs) = all_apart f.patterns fs && separate fs
