-- Where a letter stands among those seen, and one that joins them.
use mathlib.Core.Path.{◌≡◌, refl, ap, sym, ◌∙◌}
use mathlib.Core.Bool.{Bool, true, false, cond, ◌||◌, not}
use mathlib.Core.Option.{none, some}
use mathlib.Core.List.{List, [], ◌∷◌, ◌++◌}
use Prim.Native.Nat.{ℕ, suc, ◌+◌, ◌≤◌, ◌<◌}
use native.Mathlib.Omega.{arith}
use lib.ListN.{length, take, set}
use lib.Seq.{length-take-le}
use lib.Dec.{eqb, ltb}
use borrow.Author.Tests.{eq-eqb, le-leb, lt-leb, ltb-true, ltb-false}
use Rattle.std.specs.Prelude.{Option, Some, None, position}
use Rattle.std.specs.List.{position_or_len}
use Rattle.std.proofs.lemmas.List.{take_more_set}
use Rattle.litmus_model.specs.Forms.{a_location}
use Rattle.litmus_model.specs.Answers.{among, seen_on, number_in}
use Rattle.litmus_model.specs.Reader.{fault}
use Rattle.litmus_model.proofs.Bools.{false-true}
use Rattle.litmus_said.specs.Saying.{Locates, ninth, found}

-- ---- where it stands

number-place : (l : List ℕ) (x : ℕ) → position_or_len (λ y. eqb y x) l ≡ number_in l x
unfolding number_in
number-place [] x = refl
number-place (y ∷ l) x = go (eqb y x) (number-place l x)
  where
    go : (b : Bool) → position_or_len (λ y. eqb y x) l ≡ number_in l x → cond (not b) (1 + position_or_len (λ y. eqb y x) l) 0 ≡ cond b 0 (suc (number_in l x))
    go true e = refl
    go false e = omega arith

-- the place that the code finds, if it finds one
module _ (l : List ℕ) (x : ℕ) where
  abbrev place : ℕ
  place = position_or_len (λ y. eqb y x) l

  placed : (b : Bool) → ltb place (length l) ≡ b → (i : ℕ) → cond b (Some place) None ≡ Some i → (i < length l) × (i ≡ number_in l x)
  placed true e i h = let k : place ≡ i = cc in let m = ltb-true place (length l) e in let n = number-place l x in (omega arith, omega arith)
  placed false e i h = let z : ◌≡◌ {A = Option ℕ} None (Some i) = h in cc

  pub place-some : (i : ℕ) → position (λ y. eqb y x) l ≡ Some i → (i < length l) × (i ≡ number_in l x)
  place-some i h = placed (ltb place (length l)) refl i h

  unplaced : (b : Bool) → ltb place (length l) ≡ b → cond b (Some place) None ≡ None → length l ≤ number_in l x
  unplaced true e h = let z : ◌≡◌ {A = Option ℕ} (Some place) None = h in cc
  unplaced false e h = let m = ltb-false place (length l) e in let n = number-place l x in omega arith

  pub place-none : position (λ y. eqb y x) l ≡ None → length l ≤ number_in l x
  place-none h = unplaced (ltb place (length l)) refl h

-- ---- a letter that is there, and one that is not

absent : (x : ℕ) (l : List ℕ) → among x l ≡ false → number_in l x ≡ length l
unfolding among number_in
absent x [] e = refl
absent x (y ∷ l) e = go (eqb y x) e (λ h. absent x l h)
  where
    go : (b : Bool) → b || among x l ≡ false → (among x l ≡ false → number_in l x ≡ length l) → cond b 0 (suc (number_in l x)) ≡ suc (length l)
    go true f r = false-true (sym f)
    go false f r = ap suc (r f)

present : (x : ℕ) (l : List ℕ) → among x l ≡ true → number_in l x < length l
unfolding among number_in
present x [] e = false-true e
present x (y ∷ l) e = go (eqb y x) e (λ h. present x l h)
  where
    go : (b : Bool) → b || among x l ≡ true → (among x l ≡ true → number_in l x < length l) → cond b 0 (suc (number_in l x)) < suc (length l)
    go true f r = omega arith
    go false f r = let h = r f in omega arith

-- the number of a letter that joins
joins : (x : ℕ) (l : List ℕ) → among x l ≡ false → number_in (l ++ (x ∷ [])) x ≡ length l
unfolding among number_in
joins x [] e = ap (λ (b : Bool). cond b 0 1) (eq-eqb x x refl)
joins x (y ∷ l) e = go (eqb y x) e (λ h. joins x l h)
  where
    go : (b : Bool) → b || among x l ≡ false → (among x l ≡ false → number_in (l ++ (x ∷ [])) x ≡ length l) → cond b 0 (suc (number_in (l ++ (x ∷ [])) x)) ≡ suc (length l)
    go true f r = false-true (sym f)
    go false f r = ap suc (r f)

is_among : (seen : List ℕ) (x i : ℕ) → i ≡ number_in seen x → i < length seen → among x seen ≡ true
is_among seen x i e h = go (among x seen) refl
  where
    go : (b : Bool) → among x seen ≡ b → b ≡ true
    go true f = refl
    go false f = let a = absent x seen f in absurd (omega arith)

not-among : (seen : List ℕ) (x i : ℕ) → i ≡ number_in seen x → length seen ≤ i → among x seen ≡ false
not-among seen x i e h = go (among x seen) refl
  where
    go : (b : Bool) → among x seen ≡ b → b ≡ false
    go true f = let a = present x seen f in absurd (omega arith)
    go false f = refl

-- ---- what is wrong with it, and the letters after it

fault-old : (seen : List ℕ) (x : ℕ) → among x seen ≡ true → fault seen (a_location x) ≡ none
unfolding fault
fault-old seen x e = rw e

fault-new : (seen : List ℕ) (x : ℕ) → among x seen ≡ false → length seen < 8 → fault seen (a_location x) ≡ none
unfolding fault
fault-new seen x e h = rw (e, lt-leb 8 (length seen) h)

fault-ninth : (seen : List ℕ) (x : ℕ) → among x seen ≡ false → 8 ≤ length seen → fault seen (a_location x) ≡ some 20
unfolding fault
fault-ninth seen x e h = rw (e, le-leb 8 (length seen) h)

seen-old : (seen : List ℕ) (x : ℕ) → among x seen ≡ true → seen_on seen (a_location x) ≡ seen
unfolding seen_on
seen-old seen x e = rw e

seen-new : (seen : List ℕ) (x : ℕ) → among x seen ≡ false → seen_on seen (a_location x) ≡ seen ++ (x ∷ [])
unfolding seen_on
seen-new seen x e = rw e

-- ---- what the code answers

pub locates-old : (seen : List ℕ) (x i : ℕ) → length seen ≤ 8 → position (λ y. eqb y x) seen ≡ Some i → Locates seen x (Some i) seen
locates-old seen x i few h =
    let p = place-some seen x i h in
    let k = p.0 in
    let a = is_among seen x i p.1 p.0 in
    found i refl (omega arith) (fault-old seen x a) (sym (seen-old seen x a)) p.1

pub locates-ninth : (seen : List ℕ) (x : ℕ) (after : List ℕ) → position (λ y. eqb y x) seen ≡ None → 8 ≤ length seen → Locates seen x None after
locates-ninth seen x after h many = ninth refl (fault-ninth seen x (not-among seen x (number_in seen x) refl (place-none seen x h)) many)

-- where the first n of l are seen
pub locates-new : (l : List ℕ) (n x : ℕ) → n < 8 → length l ≡ 8 → position (λ y. eqb y x) (take n l) ≡ None → Locates (take n l) x (Some n) (take (n + 1) (set l n x))
locates-new l n x few eight h =
    let many : length (take n l) ≡ n = length-take-le n l (omega arith) in
    let a = not-among (take n l) x (number_in (take n l) x) refl (place-none (take n l) x h) in
    let s : take (n + 1) (set l n x) ≡ take n l ++ (x ∷ []) = take_more_set l n x (omega arith) in
    found n refl few (fault-new (take n l) x a (omega arith)) (s ∙ sym (seen-new (take n l) x a)) (sym many ∙ sym (ap (λ (q : List ℕ). number_in q x) s ∙ joins x (take n l) a))
