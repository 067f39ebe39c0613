-- Numbers 20 and 21, as a test.
use mathlib.Core.Path.{◌≡◌, refl, sym, ◌∙◌, subst}
use mathlib.Core.Bool.{Bool, true, false, cond, ◌||◌}
use mathlib.Core.Option.{Option, none, some}
use mathlib.Core.Logic.{◌⊎◌, inl, inr}
use mathlib.Core.List.{List, [], ◌∷◌, ◌++◌}
use Prim.Native.Nat.{ℕ}
use native.Mathlib.Omega.{arith}
use lib.ListN.{length}
use lib.Dec.{eqb, leb}
use lib.IntN.{ℤ, pos, negsuc}
use borrow.Author.Tests.{eqb-true, eq-eqb, leb-true, le-leb, ltb-true, lt-ltb}
use Rattle.litmus_model.specs.Forms.{Mention, nothing, a_processor, a_register, a_location, a_constant}
use Rattle.model.specs.Lists.{In}
use Rattle.litmus_model.specs.Grammar.{Said}
use Rattle.litmus_model.specs.Answers.{among, seen_on, seen_all, InRange, Wrong, processor_above, ninth, out_of_range, Faultless}
use Rattle.litmus_model.specs.Reader.{in_range, fault}
use Rattle.litmus_model.proofs.Bools.{false-true, or_cases}

pub among_in : (x : ℕ) (l : List ℕ) → among x l ≡ true → In x l
unfolding among
among_in x [] e = false-true e
among_in x (y ∷ l) e = go (or_cases _ _ e) (λ h. among_in x l h)
  where
    go : (eqb y x ≡ true) ⊎ (among x l ≡ true) → (among x l ≡ true → In x l) → (y ≡ x) ⊎ In x l
    go (inl h) r = inl (eqb-true y x h)
    go (inr h) r = inr (r h)

pub in-among : (x : ℕ) (l : List ℕ) → In x l → among x l ≡ true
unfolding among
in-among x [] i = absurd i
in-among x (y ∷ l) (inl e) = rw (eq-eqb y x e)
in-among x (y ∷ l) (inr i) = rw (in-among x l i) (or-true (eqb y x))
  where
    or-true : (b : Bool) → b || true ≡ true
    or-true true = refl
    or-true false = refl

none-some : {B : Type 0} {n : ℕ} → none ≡ some n → B
none-some {B} {n} e = let z : ◌≡◌ {A = ℕ} 0 1 = cc in absurd (omega arith)

-- a test gives its number
given : (b : Bool) (k n : ℕ) → cond b (some k) none ≡ some n → (b ≡ true) × (k ≡ n)
given true k n e = (refl, cc)
given false k n e = none-some e

pub range-in : (v : ℤ) → in_range v ≡ true → InRange v
unfolding in_range
range-in (pos n) e = leb-true n 4294967295 e
range-in (negsuc n) e = let h = ltb-true n 2147483648 e in omega arith

pub in-range : (v : ℤ) → InRange v → in_range v ≡ true
unfolding in_range
in-range (pos n) h = le-leb n 4294967295 h
in-range (negsuc n) h = lt-ltb n 2147483648 (omega arith)

pub fault-wrong : (seen : List ℕ) (m : Mention) (n : ℕ) → fault seen m ≡ some n → Wrong seen m n
unfolding fault
fault-wrong seen nothing n e = none-some e
fault-wrong seen (a_processor p) n e = let g = given (leb 4 p) 20 n e in subst (λ (k : ℕ). Wrong seen (a_processor p) k) g.1 (processor_above (leb-true 4 p g.0))
fault-wrong seen (a_register r) n e = none-some e
fault-wrong seen (a_location x) n e = go (among x seen) refl e
  where
    go : (b : Bool) → among x seen ≡ b → cond b none (cond (leb 8 (length seen)) (some 20) none) ≡ some n → Wrong seen (a_location x) n
    go true h f = none-some f
    go false h f =
        let g = given (leb 8 (length seen)) 20 n f in
        subst (λ (k : ℕ). Wrong seen (a_location x) k) g.1 (ninth (λ i. false-true (sym h ∙ in-among x seen i)) (leb-true 8 (length seen) g.0))
fault-wrong seen (a_constant v) n e = go (in_range v) refl e
  where
    go : (b : Bool) → in_range v ≡ b → cond b none (some 21) ≡ some n → Wrong seen (a_constant v) n
    go true h f = none-some f
    go false h f = let k : 21 ≡ n = cc in subst (λ (j : ℕ). Wrong seen (a_constant v) j) k (out_of_range (λ r. false-true (sym h ∙ in-range v r)))

pub wrong-fault : {seen : List ℕ} {m : Mention} {n : ℕ} → Wrong seen m n → fault seen m ≡ some n
unfolding fault
wrong-fault (processor_above {p = p} h) = rw (le-leb 4 p h)
wrong-fault {seen} (ninth {x = x} i h) = go (among x seen) refl
  where
    go : (b : Bool) → among x seen ≡ b → cond {A = Option ℕ} b none (cond (leb 8 (length seen)) (some 20) none) ≡ some 20
    go true e = absurd (i (among_in x seen e))
    go false e = rw (le-leb 8 (length seen) h)
wrong-fault (out_of_range {v = v} h) = go (in_range v) refl
  where
    go : (b : Bool) → in_range v ≡ b → cond {A = Option ℕ} b none (some 21) ≡ some 21
    go true e = absurd (h (range-in v e))
    go false e = refl

pub faultless-none : (seen : List ℕ) (m : Mention) → ((n : ℕ) → ¬ Wrong seen m n) → fault seen m ≡ none
faultless-none seen m w = go (fault seen m) refl
  where
    go : (o : Option ℕ) → fault seen m ≡ o → o ≡ none
    go none e = refl
    go (some n) e = absurd (w n (fault-wrong seen m n e))

pub none-faultless : (seen : List ℕ) (m : Mention) → fault seen m ≡ none → (n : ℕ) → ¬ Wrong seen m n
none-faultless seen m e n w = none-some (sym e ∙ wrong-fault w)

-- ---- one token more

pub seen-append : (seen : List ℕ) (ss us : List Said) → seen_all seen (ss ++ us) ≡ seen_all (seen_all seen ss) us
unfolding seen_all
seen-append seen [] us = refl
seen-append seen (s ∷ ss) us = seen-append (seen_on seen s.says) ss us

pub faultless-append : (seen : List ℕ) (ss us : List Said) → Faultless seen ss → Faultless (seen_all seen ss) us → Faultless seen (ss ++ us)
unfolding seen_all
faultless-append seen [] us f g = g
faultless-append seen (s ∷ ss) us f g = (f.0, faultless-append (seen_on seen s.says) ss us f.1 g)
