-- Tests in turn, as code makes them: a verdict at each.
use mathlib.Core.Path.{◌≡◌, refl, sym, ap, ◌∙◌}
use mathlib.Core.Bool.{Bool, true, false, cond}
use mathlib.Core.Option.{Option, none, some}
use mathlib.Core.List.{List, [], ◌∷◌, ◌++◌}
use Prim.Native.Nat.{ℕ}
use Rattle.std.specs.Prelude.{Ok, Err}
use Rattle.model.specs.declared.answer.Refusal.{Refusal}
use Rattle.model.specs.declared.answer.Refused.{Refused}
use Rattle.model.specs.Code.{Verdict, tested_of, Gives}
use Rattle.model.specs.Lists.{All}
use Rattle.model.specs.Reply.{number_of, refusal_at}
use Rattle.model.specs.Tests.{Test, test, first, Tested, passed, refused, and_then, unless}
use Rattle.model.proofs.Tests.{passed-refused, none-some, unless-passed}

-- ---- a test t, which a call answered by f

pub met : (why : Refusal) (i : ℕ) (f t : Bool) (ts : List Test) → f ≡ t → f ≡ true → Gives (Err (refusal_at why i)) (test (number_of why) t ∷ ts) i
unfolding first unless
met why i f t ts e h = record { says = rw (sym e ∙ h) }

pub past : (v : Verdict) (n i : ℕ) (f t : Bool) (ts : List Test) → f ≡ t → f ≡ false → Gives v ts i → Gives v (test n t ∷ ts) i
unfolding first
past v n i f t ts e h g = record { says = rw (sym e ∙ h) g.says }

pub none_left : (i : ℕ) → Gives (Ok tt) [] i
unfolding first unless
none_left i = record { says = refl }

-- ---- a verdict that passed: no test was met

none-met : (ts : List Test) → first ts ≡ none → All (λ t. t.condition ≡ false) ts
unfolding first
none-met [] h = tt
none-met (t ∷ ts) h = go t.condition refl h (none-met ts)
  where
    go : (b : Bool) → t.condition ≡ b → cond b (some t.number) (first ts) ≡ none → (first ts ≡ none → All (λ t. t.condition ≡ false) ts)
        → All (λ t. t.condition ≡ false) (t ∷ ts)
    go true e h ih = none-some (sym h)
    go false e h ih = (e, ih h)

pub no_number : (v : Verdict) (ts : List Test) (i : ℕ) → Gives v ts i → v ≡ Ok tt → first ts ≡ none
no_number v ts i g e = (unless-passed (first ts) i (passed tt) tt (sym g.says ∙ ap (λ (w : Verdict). tested_of {A = Unit {0}} w tt) e)).0

pub gives_none : (v : Verdict) (ts : List Test) (i : ℕ) → Gives v ts i → v ≡ Ok tt → All (λ t. t.condition ≡ false) ts
gives_none v ts i g e = none-met ts (no_number v ts i g e)

-- ---- some tests, and then others

first-append : (ts us : List Test) → first ts ≡ none → first (ts ++ us) ≡ first us
unfolding first
first-append [] us h = refl
first-append (t ∷ ts) us h = go t.condition h (first-append ts us)
  where
    go : (b : Bool) → cond b (some t.number) (first ts) ≡ none → (first ts ≡ none → first (ts ++ us) ≡ first us) → cond b (some t.number) (first (ts ++ us)) ≡ first us
    go true h ih = none-some (sym h)
    go false h ih = ih h

first-keeps : (ts us : List Test) (n : ℕ) → first ts ≡ some n → first (ts ++ us) ≡ some n
unfolding first
first-keeps [] us n h = none-some h
first-keeps (t ∷ ts) us n h = go t.condition h (first-keeps ts us n)
  where
    go : (b : Bool) → cond b (some t.number) (first ts) ≡ some n → (first ts ≡ some n → first (ts ++ us) ≡ some n) → cond b (some t.number) (first (ts ++ us)) ≡ some n
    go true h ih = h
    go false h ih = ih h

-- the first ones passed
pub then-others : (v w : Verdict) (ts us : List Test) (i : ℕ) → Gives v ts i → v ≡ Ok tt → Gives w us i → Gives w (ts ++ us) i
then-others v w ts us i g e h = record { says = rw (first-append ts us (no_number v ts i g e)) h.says }

-- or not, and the others do not matter
pub stopped : (v : Verdict) (ts us : List Test) (r : Refused) (i : ℕ) → Gives v ts i → v ≡ Err r → Gives (Err r) (ts ++ us) i
unfolding unless
stopped v ts us r i g e = record { says = go (first ts) refl (sym (ap (λ (w : Verdict). tested_of {A = Unit {0}} w tt) e) ∙ g.says) }
  where
    go : (o : Option ℕ) → first ts ≡ o → refused (number_of r.why) r.place ≡ unless {A = Unit {0}} o i (passed tt) → refused (number_of r.why) r.place ≡ unless {A = Unit {0}} (first (ts ++ us)) i (passed tt)
    go none q h = passed-refused (sym h)
    go (some n) q h = rw (first-keeps ts us n q) h

-- ---- with something to go on with

pub gives_then : {A : Type 0} (v : Verdict) (ts : List Test) (i : ℕ) (t : Tested A) → Gives v ts i → unless (first ts) i t ≡ and_then (tested_of {A = Unit {0}} v tt) (λ u. t)
unfolding and_then unless
gives_then {A} v ts i t g = sym (ap (λ (x : Tested (Unit {0})). and_then x (λ u. t)) g.says ∙ go (first ts))
  where
    go : (o : Option ℕ) → and_then (unless {A = Unit {0}} o i (passed tt)) (λ u. t) ≡ unless o i t
    go none = refl
    go (some n) = refl

pub gives-any : {A : Type 0} (v : Verdict) (ts : List Test) (i : ℕ) (a : A) → Gives v ts i → tested_of v a ≡ unless (first ts) i (passed a)
unfolding and_then
gives-any {A} v ts i a g = go v ∙ sym (gives_then v ts i (passed a) g)
  where
    go : (v : Verdict) → tested_of v a ≡ and_then (tested_of {A = Unit {0}} v tt) (λ u. passed a)
    go (Ok u) = refl
    go (Err r) = refl
