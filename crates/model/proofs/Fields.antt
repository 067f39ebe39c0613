-- The tests of a record's fields decide what they should.
use mathlib.Core.Path.{◌≡◌, refl, sym}
use mathlib.Core.Logic.{◌↔◌}
use mathlib.Core.Bool.{Bool, true, false, not, ◌&&◌, ◌||◌}
use mathlib.Core.List.{List}
use Prim.Native.Nat.{ℕ, zero, suc, ◌<◌}
use native.Mathlib.Omega.{arith}
use lib.ListN.{length}
use lib.Dec.{eqb, leb}
use borrow.Author.Tests.{eqb-true, eqb-false, leb-false, eq-eqb, ne_eqb, lt-leb, not-false}
use Rattle.model.specs.declared.record.Record.{Record}
use Rattle.model.specs.Sizes.{processors, registers_each, locations}
use Rattle.model.specs.Fields.{Field, used, Known, InRange, UnusedZero, Proper}
use Rattle.model.specs.Tests.{unknown, too_large, not_zero}
use Rattle.model.proofs.Bools.{false-true}

-- ---- tests that are false

pub or_left : (a b : Bool) → (a || b) ≡ false → a ≡ false
or_left true b h = h
or_left false b h = refl

pub or_right : (a b : Bool) → (a || b) ≡ false → b ≡ false
or_right true b h = false-true (sym h)
or_right false b h = h

pub or-false : {a b : Bool} → a ≡ false → b ≡ false → (a || b) ≡ false
or-false {a} {b} p q = rw (p, q)

-- ---- kind known

above : (k : ℕ) → ¬ (k ≡ 0) → 0 < k
above zero n = absurd (n refl)
above (suc k) n = omega arith

pub known-test : (uses : List (List Field)) (r : Record) → (unknown uses r ≡ false) ↔ Known uses r
unfolding unknown
known-test uses r = (
  λ h. (
    above r.kind (eqb-false r.kind 0 (or_left (eqb r.kind 0) (leb (length uses) r.kind) h)),
    leb-false (length uses) r.kind (or_right (eqb r.kind 0) (leb (length uses) r.kind) h),
  ),
  λ k. or-false (ne_eqb r.kind 0 (λ e. omega (arith, k.0))) (lt-leb (length uses) r.kind k.1),
)

-- ---- used fields in range

abbrev large : Bool → ℕ → ℕ → Bool
large u limit n = u && leb limit n

below : (u : Bool) (limit n : ℕ) → large u limit n ≡ false → u ≡ true → n < limit
below true limit n h e = leb-false limit n h
below false limit n h e = false-true e

not-large : (u : Bool) (limit n : ℕ) → (u ≡ true → n < limit) → large u limit n ≡ false
not-large true limit n h = lt-leb limit n (h refl)
not-large false limit n h = refl

pub range-test : (uses : List (List Field)) (r : Record) → (too_large uses r ≡ false) ↔ InRange uses r
unfolding too_large
range-test uses r = (to, λ f. or-false (or-false (not-large _ _ _ f.processor) (not-large _ _ _ f.register)) (not-large _ _ _ f.location))
  where
    p : Bool
    p = large (used uses r Field.processor) processors r.processor

    q : Bool
    q = large (used uses r Field.register) registers_each r.register

    l : Bool
    l = large (used uses r Field.location) locations r.location

    to : (p || q || l) ≡ false → InRange uses r
    to h = record {
      processor = below _ processors r.processor (or_left p q (or_left (p || q) l h));
      register = below _ registers_each r.register (or_right p q (or_left (p || q) l h));
      location = below _ locations r.location (or_right (p || q) l h);
    }

-- ---- unused fields zero

abbrev loose : Bool → ℕ → Bool
loose u n = not u && not (eqb n 0)

zeroed : (u : Bool) (n : ℕ) → loose u n ≡ false → u ≡ false → n ≡ 0
zeroed true n h e = false-true (sym e)
zeroed false n h e = eqb-true n 0 (not-false (eqb n 0) h)

not-loose : (u : Bool) (n : ℕ) → (u ≡ false → n ≡ 0) → loose u n ≡ false
not-loose true n h = refl
not-loose false n h = rw (eq-eqb n 0 (h refl))

pub zero_test : (uses : List (List Field)) (r : Record) → (not_zero uses r ≡ false) ↔ UnusedZero uses r
unfolding not_zero
zero_test uses r = (
  to,
  λ f. or-false (or-false (or-false (not-loose _ _ f.processor) (not-loose _ _ f.register)) (not-loose _ _ f.location)) (not-loose _ _ f.value),
)
  where
    p : Bool
    p = loose (used uses r Field.processor) r.processor

    q : Bool
    q = loose (used uses r Field.register) r.register

    l : Bool
    l = loose (used uses r Field.location) r.location

    v : Bool
    v = loose (used uses r Field.value) r.value

    to : (p || q || l || v) ≡ false → UnusedZero uses r
    to h = record {
      processor = zeroed _ r.processor (or_left p q (or_left (p || q) l (or_left (p || q || l) v h)));
      register = zeroed _ r.register (or_right p q (or_left (p || q) l (or_left (p || q || l) v h)));
      location = zeroed _ r.location (or_right (p || q) l (or_left (p || q || l) v h));
      value = zeroed _ r.value (or_right (p || q || l) v h);
    }

-- ---- so every field of a proper record is in range, used or not

fits : (u : Bool) (n limit : ℕ) → 0 < limit → (u ≡ true → n < limit) → (u ≡ false → n ≡ 0) → n < limit
fits true n limit l f g = f refl
fits false n limit l f g = let e : n ≡ 0 = g refl in omega arith

pub proper-fields : (uses : List (List Field)) (r : Record) → Proper uses r → (r.processor < processors) × (r.register < registers_each) × (r.location < locations)
proper-fields uses r p = (
  fits _ r.processor processors (omega arith) p.in_range.processor p.unused_zero.processor,
  fits _ r.register registers_each (omega arith) p.in_range.register p.unused_zero.register,
  fits _ r.location locations (omega arith) p.in_range.location p.unused_zero.location,
)
