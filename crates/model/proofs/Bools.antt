-- Tests, and the facts that they decide.
use mathlib.Core.Path.{◌≡◌, refl, sym, ap, ◌∙◌}
use mathlib.Core.Logic.{◌↔◌}
use mathlib.Core.Bool.{Bool, true, false, cond, not, ◌&&◌, false≢true}
use mathlib.Core.List.{List, [], ◌∷◌}
use Prim.Native.Nat.{ℕ}
use lib.Dec.{eqb}
use borrow.Author.Tests.{eqb-true, eqb-false, eq-eqb, ne_eqb, not-true}
use Rattle.model.specs.Machine.{Machine, Holder, free, held}
use Rattle.model.specs.Rules.{Event, Blocked}
use Rattle.model.specs.Step.{blocked, holds, is_empty, same}

-- a test as a number, for counting
abbrev pub one : Bool → ℕ
one b = cond b 1 0

pub false-true {ℓ} : {A : Type ℓ} → false ≡ true → A
false-true e = absurd (false≢true e)

-- ---- a test decides a fact, met or not

pub met : {T : Type 0} (b : Bool) → (b ≡ false) ↔ T → ¬ T → b ≡ true
met true d n = refl
met false d n = absurd (n (d.0 refl))

pub not-met : {T : Type 0} (b : Bool) → (b ≡ false) ↔ T → b ≡ true → ¬ T
not-met b d h t = false≢true (sym (d.1 t) ∙ h)

pub failed : {T : Type 0} (b : Bool) → (b ≡ true) ↔ T → b ≡ false → ¬ T
failed b d h t = false≢true (sym h ∙ d.1 t)

pub fails : {T : Type 0} (b : Bool) → (b ≡ true) ↔ T → ¬ T → b ≡ false
fails true d n = absurd (n (d.0 refl))
fails false d n = refl

-- ---- both of two

pub and-true : {a b : Bool} → a ≡ true → b ≡ true → a && b ≡ true
and-true {a} {b} p q = rw (p, q)

pub and_left : (a b : Bool) → a && b ≡ true → a ≡ true
and_left true b e = refl
and_left false b e = e

pub and_right : (a b : Bool) → a && b ≡ true → b ≡ true
and_right true b e = e
and_right false b e = false-true e

pub same_true : (e f : Event) → same e f ≡ true → e ≡ f
unfolding same
same_true e f t =
    let k : Bool = eqb e.kind f.kind in
    let p : Bool = eqb e.processor f.processor in
    let r : Bool = eqb e.register f.register in
    let x : Bool = eqb e.location f.location in
    let v : Bool = eqb e.value f.value in
    let kprx : k && p && r && x ≡ true = and_left (k && p && r && x) v t in
    let kpr : k && p && r ≡ true = and_left (k && p && r) x kprx in
    let kp : k && p ≡ true = and_left (k && p) r kpr in
    λ i. record {
      kind = eqb-true e.kind f.kind (and_left k p kp) i;
      processor = eqb-true e.processor f.processor (and_right k p kp) i;
      register = eqb-true e.register f.register (and_right (k && p) r kpr) i;
      location = eqb-true e.location f.location (and_right (k && p && r) x kprx) i;
      value = eqb-true e.value f.value (and_right (k && p && r && x) v t) i;
    }

pub self : (n : ℕ) → eqb n n ≡ true
self n = eq-eqb n n refl

pub same_refl : (e : Event) → same e e ≡ true
unfolding same
same_refl e = and-true (and-true (and-true (and-true (self e.kind) (self e.processor)) (self e.register)) (self e.location)) (self e.value)

-- ---- the tests of the rules

-- a negated test decides that the fact does not hold
pub unless-so : {T : Type 0} (b : Bool) → (b ≡ true) ↔ T → (not b ≡ true) ↔ ¬ T
unless-so b d = (λ h. failed b d (not-true b h), λ n. ap not (fails b d n))

pub blocked-test : (s : Machine) (p : ℕ) → (blocked s.holder p ≡ true) ↔ Blocked s p
unfolding blocked
blocked-test s p = (go s.holder refl, λ b. rw b.1 (ap not (ne_eqb b.0 p b.2)))
  where
    go : (h : Holder) → s.holder ≡ h → blocked h p ≡ true → Blocked s p
    go free e t = false-true t
    go (held q) e t = (q, e, eqb-false q p (not-true (eqb q p) t))

pub is_empty-true : {A : Type 0} (l : List A) → is_empty l ≡ true → l ≡ []
unfolding is_empty
is_empty-true [] e = refl
is_empty-true (a ∷ l) e = false-true e

pub empty-test : {A : Type 0} (l : List A) → (is_empty l ≡ true) ↔ (l ≡ [])
unfolding is_empty
empty-test l = (is_empty-true l, λ e. rw e)

pub holds-true : (h : Holder) (p : ℕ) → holds h p ≡ true → h ≡ held p
unfolding holds
holds-true free p e = false-true e
holds-true (held q) p e = ap held (eqb-true q p e)

pub holds-self : (p : ℕ) → holds (held p) p ≡ true
unfolding holds
holds-self p = self p
