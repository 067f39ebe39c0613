-- What is left of the forms, token by token.
use mathlib.Core.Path.{◌≡◌, refl, ap, sym, ◌∙◌, subst}
use mathlib.Core.Bool.{Bool, true, false, cond}
use mathlib.Core.Option.{Option, none, some}
use mathlib.Core.Logic.{◌⊎◌, inl, inr}
use mathlib.Core.List.{List, [], ◌∷◌, ◌++◌}
use Prim.Native.Nat.{ℕ}
use native.Mathlib.Omega.{arith}
use Rattle.litmus_model.specs.Bytes.{Token}
use Rattle.litmus_model.specs.Forms.{Pattern, fits, Mention, mention, Form, form}
use Rattle.model.specs.Lists.{In}
use Rattle.litmus_model.specs.Reader.{onward, advance, saying, mention_in, ending, complete}
use Rattle.litmus_model.proofs.Bools.{false-true, and_left, and_right}
use Rattle.litmus_model.proofs.Apart.{apart, apart-on, apart-nil, all_apart, separate}

-- ---- membership

pub in_left : {A : Type 0} (a : A) (l k : List A) → In a l → In a (l ++ k)
in_left a [] k i = absurd i
in_left a (b ∷ l) k (inl e) = inl e
in_left a (b ∷ l) k (inr i) = inr (in_left a l k i)

pub in_right : {A : Type 0} (a : A) (l k : List A) → In a k → In a (l ++ k)
in_right a [] k i = i
in_right a (b ∷ l) k i = inr (in_right a l k i)

pub in-cases : {A : Type 0} (a : A) (l k : List A) → In a (l ++ k) → In a l ⊎ In a k
in-cases a [] k i = inr i
in-cases a (b ∷ l) k (inl e) = inl (inl e)
in-cases a (b ∷ l) k (inr i) = go (in-cases a l k i)
  where
    go : In a l ⊎ In a k → In a (b ∷ l) ⊎ In a k
    go (inl j) = inl (inr j)
    go (inr j) = inr j

-- ---- what is left

onward-out : (k : ℕ) (ps : List Pattern) (t : Token) (g : Form) → In g (onward k ps t) → (p : Pattern) × (ps ≡ p ∷ g.patterns) × (k ≡ g.kind) × (fits p t ≡ true)
unfolding onward
onward-out k [] t g i = absurd i
onward-out k (p ∷ ps) t g i = go (fits p t) refl i
  where
    go : (b : Bool) → fits p t ≡ b → In g (cond b (form k ps ∷ []) []) → (q : Pattern) × (p ∷ ps ≡ q ∷ g.patterns) × (k ≡ g.kind) × (fits q t ≡ true)
    go true e (inl h) = (p, ap (λ (f : Form). p ∷ f.patterns) h, ap (λ (f : Form). f.kind) h, e)
    go true e (inr z) = absurd z
    go false e j = absurd j

pub advance-out : (fs : List Form) (t : Token) (g : Form) → In g (advance fs t) → (p : Pattern) × In (form g.kind (p ∷ g.patterns)) fs × (fits p t ≡ true)
unfolding advance
advance-out [] t g i = absurd i
advance-out (f ∷ fs) t g i = go (in-cases g (onward f.kind f.patterns t) (advance fs t) i) (λ j. advance-out fs t g j)
  where
    go : In g (onward f.kind f.patterns t) ⊎ In g (advance fs t)
        → (In g (advance fs t) → (p : Pattern) × In (form g.kind (p ∷ g.patterns)) fs × (fits p t ≡ true))
        → (p : Pattern) × In (form g.kind (p ∷ g.patterns)) (f ∷ fs) × (fits p t ≡ true)
    go (inl j) r = let o = onward-out f.kind f.patterns t g j in (o.0, inl (λ x. record { kind = o.2 x; patterns = o.1 x }), o.3)
    go (inr j) r = let o = r j in (o.0, inr o.1, o.2)

pub advance-in : (fs : List Form) (t : Token) (k : ℕ) (p : Pattern) (ps : List Pattern) → In (form k (p ∷ ps)) fs → fits p t ≡ true → In (form k ps) (advance fs t)
unfolding advance onward
advance-in [] t k p ps i h = absurd i
advance-in (f ∷ fs) t k p ps (inl e) h =
    in_left (form k ps) (onward f.kind f.patterns t) (advance fs t) (subst (λ (g : Form). In (form k ps) (onward g.kind g.patterns t)) (sym e) (fit h))
  where
    fit : fits p t ≡ true → In (form k ps) (cond (fits p t) (form k ps ∷ []) [])
    fit x = rw x (inl refl)
advance-in (f ∷ fs) t k p ps (inr i) h = in_right (form k ps) (onward f.kind f.patterns t) (advance fs t) (advance-in fs t k p ps i h)

-- ---- each two are apart

abbrev pub Separate : List Form → Type 0
Separate [] = Unit {0}
Separate (f ∷ fs) = ((g : Form) → In g fs → apart f.patterns g.patterns ≡ true) × Separate fs

all_apart_each : (ps : List Pattern) (fs : List Form) → all_apart ps fs ≡ true → (g : Form) → In g fs → apart ps g.patterns ≡ true
unfolding all_apart
all_apart_each ps [] e g i = absurd i
all_apart_each ps (f ∷ fs) e g (inl h) = ap (λ (x : Form). apart ps x.patterns) (sym h) ∙ and_left _ _ e
all_apart_each ps (f ∷ fs) e g (inr i) = all_apart_each ps fs (and_right (apart ps f.patterns) _ e) g i

pub separate-true : (fs : List Form) → separate fs ≡ true → Separate fs
unfolding separate
separate-true [] e = tt
separate-true (f ∷ fs) e = (all_apart_each f.patterns fs (and_left _ _ e), separate-true fs (and_right (all_apart f.patterns fs) _ e))

separate-more : (k : ℕ) (ps : List Pattern) (fs : List Form) (t : Token)
    → ((g : Form) → In g fs → apart ps g.patterns ≡ true) → Separate (advance fs t) → Separate (onward k ps t ++ advance fs t)
unfolding onward
separate-more k [] fs t a r = r
separate-more k (p ∷ ps) fs t a r = go (fits p t) refl
  where
    tails : fits p t ≡ true → (g : Form) → In g (advance fs t) → apart ps g.patterns ≡ true
    tails e g i = let o = advance-out fs t g i in (apart-on p ps o.0 g.patterns t (a (form g.kind (o.0 ∷ g.patterns)) o.1) e o.2).1

    go : (b : Bool) → fits p t ≡ b → Separate (cond b (form k ps ∷ []) [] ++ advance fs t)
    go true e = (tails e, r)
    go false e = r

pub separate-on : (fs : List Form) (t : Token) → Separate fs → Separate (advance fs t)
unfolding advance
separate-on [] t s = tt
separate-on (f ∷ fs) t s = separate-more f.kind f.patterns fs t s.0 (separate-on fs t s.1)

-- ---- what the token says

saying-hit : (p : Pattern) (ps : List Pattern) (t : Token) (m : Mention) → fits p t ≡ true → saying (p ∷ ps) t m ≡ mention p t
unfolding saying
saying-hit p ps t m e = rw e

saying-same : (qs : List Pattern) (p : Pattern) (ps : List Pattern) (t : Token) (m : Mention)
    → apart qs (p ∷ ps) ≡ true → fits p t ≡ true → m ≡ mention p t → saying qs t m ≡ mention p t
unfolding saying
saying-same [] p ps t m a h e = e
saying-same (q ∷ qs) p ps t m a h e = go (fits q t) refl
  where
    go : (b : Bool) → fits q t ≡ b → cond b (mention q t) m ≡ mention p t
    go true g = (apart-on q qs p ps t a g h).0
    go false g = e

pub mention-in : (fs : List Form) (t : Token) (k : ℕ) (p : Pattern) (ps : List Pattern) → Separate fs → In (form k (p ∷ ps)) fs → fits p t ≡ true → mention_in fs t ≡ mention p t
unfolding mention_in
mention-in [] t k p ps s i h = absurd i
mention-in (f ∷ fs) t k p ps s (inl e) h = ap (λ (g : Form). saying g.patterns t (mention_in fs t)) e ∙ saying-hit p ps t (mention_in fs t) h
mention-in (f ∷ fs) t k p ps s (inr i) h = saying-same f.patterns p ps t (mention_in fs t) (s.0 _ i) h (mention-in fs t k p ps s.1 i h)

-- ---- forms at their end

ending-some : (ps : List Pattern) (k : ℕ) (o : Option ℕ) (j : ℕ) → ending ps k o ≡ some j → ((ps ≡ []) × (k ≡ j)) ⊎ (o ≡ some j)
unfolding ending
ending-some [] k o j e = inl (refl, cc)
ending-some (p ∷ ps) k o j e = inr e

pub complete-in : (fs : List Form) (k : ℕ) → complete fs ≡ some k → In (form k []) fs
unfolding complete
complete-in [] k e = let z : ◌≡◌ {A = ℕ} 0 1 = cc in absurd (omega arith)
complete-in (f ∷ fs) k e = go (ending-some f.patterns f.kind (complete fs) k e) (λ h. complete-in fs k h)
  where
    go : ((f.patterns ≡ []) × (f.kind ≡ k)) ⊎ (complete fs ≡ some k) → (complete fs ≡ some k → In (form k []) fs) → In (form k []) (f ∷ fs)
    go (inl h) r = inl (λ x. record { kind = h.1 x; patterns = h.0 x })
    go (inr h) r = inr (r h)

pub complete-some : (fs : List Form) (k : ℕ) → Separate fs → In (form k []) fs → complete fs ≡ some k
unfolding complete ending
complete-some [] k s i = absurd i
complete-some (f ∷ fs) k s (inl e) = ap (λ (g : Form). ending g.patterns g.kind (complete fs)) e
complete-some (f ∷ fs) k s (inr i) = false-true (sym (apart-nil f.patterns) ∙ s.0 _ i)

-- a form that is not at its end, beside others that are apart from it: none is
pub complete-none : (fs : List Form) (k : ℕ) (p : Pattern) (ps : List Pattern) → Separate fs → In (form k (p ∷ ps)) fs → complete fs ≡ none
unfolding apart
complete-none fs k p ps s i = go (complete fs) refl
  where
    clash : (gs : List Form) (j : ℕ) → Separate gs → In (form j []) gs → In (form k (p ∷ ps)) gs → ⊥
    clash [] j s h i = h
    clash (g ∷ gs) j s (inl e) (inl f) = let z : ◌≡◌ {A = List Pattern} [] (p ∷ ps) = ap (λ (x : Form). x.patterns) (sym e ∙ f) in let w : ◌≡◌ {A = ℕ} 0 1 = cc in omega arith
    clash (g ∷ gs) j s (inl e) (inr i) = false-true (rw e at (s.0 _ i))
    clash (g ∷ gs) j s (inr h) i = false-true (sym (apart-nil g.patterns) ∙ s.0 _ h)

    go : (o : Option ℕ) → complete fs ≡ o → complete fs ≡ none
    go none e = e
    go (some j) e = absurd (clash fs j s (complete-in fs j e) i)
