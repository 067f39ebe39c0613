-- Laws of things tested one after another.
use mathlib.Core.Path.{◌≡◌, refl, sym, ap}
use mathlib.Core.Logic.{◌⊎◌, inl, inr}
use mathlib.Core.Option.{Option, none, some}
use Prim.Native.Nat.{ℕ}
use native.Mathlib.Omega.{arith}
use Rattle.model.specs.Tests.{Tested, passed, refused, and_then, unless}

-- ---- constructors

pub passed-refused {ℓ} : {A : Type 0} {B : Type ℓ} {a : A} {n i : ℕ} → passed a ≡ refused n i → B
passed-refused {A} {B} {a} {n} {i} h = let z : ◌≡◌ {A = ℕ} 0 1 = cc in absurd (omega arith)

pub passed-inj : {A : Type 0} {a b : A} → passed a ≡ passed b → a ≡ b
passed-inj {A} {a} {b} h = cc

same-refusal : {A B : Type 0} {n m i j : ℕ} → ◌≡◌ {A = Tested A} (refused n i) (refused m j) → ◌≡◌ {A = Tested B} (refused n i) (refused m j)
same-refusal {A} {B} {n} {m} {i} {j} h = let e : n ≡ m = cc in let f : i ≡ j = cc in λ k. refused (e k) (f k)

pub some_inj : {A : Type 0} {a b : A} → some a ≡ some b → a ≡ b
some_inj {A} {a} {b} h = cc

pub none-some {ℓ} : {B : Type ℓ} {A : Type 0} {a : A} → none ≡ some a → B
none-some {B} {A} {a} h = let z : ◌≡◌ {A = ℕ} 0 1 = cc in absurd (omega arith)

-- ---- one thing after another

pub and-then-passed : {A B : Type 0} (x : Tested A) (f : A → Tested B) (b : B) → and_then x f ≡ passed b → (a : A) × (x ≡ passed a) × (f a ≡ passed b)
unfolding and_then
and-then-passed (passed a) f b h = (a, refl, h)
and-then-passed (refused n i) f b h = passed-refused (sym h)

pub and-then-refused : {A B : Type 0} (x : Tested A) (f : A → Tested B) (n i : ℕ) → and_then x f ≡ refused n i
    → (x ≡ refused n i) ⊎ ((a : A) × (x ≡ passed a) × (f a ≡ refused n i))
unfolding and_then
and-then-refused (passed a) f n i h = inr (a, refl, h)
and-then-refused {A} (refused m j) f n i h = inl (same-refusal h)

pub then-passed : {A B : Type 0} (x : Tested A) (f : A → Tested B) (a : A) → x ≡ passed a → and_then x f ≡ f a
unfolding and_then
then-passed x f a h = rw h

pub then-refused : {A B : Type 0} (x : Tested A) (f : A → Tested B) (n i : ℕ) → x ≡ refused n i → and_then x f ≡ refused n i
unfolding and_then
then-refused x f n i h = rw h

-- ---- tests before a thing

pub unless-passed : {A : Type 0} (o : Option ℕ) (i : ℕ) (t : Tested A) (a : A) → unless o i t ≡ passed a → (o ≡ none) × (t ≡ passed a)
unfolding unless
unless-passed none i t a h = (refl, h)
unless-passed (some n) i t a h = passed-refused (sym h)

pub unless-refused : {A : Type 0} (o : Option ℕ) (i : ℕ) (t : Tested A) (n j : ℕ) → unless o i t ≡ refused n j → ((o ≡ some n) × (i ≡ j)) ⊎ ((o ≡ none) × (t ≡ refused n j))
unfolding unless
unless-refused none i t n j h = inr (refl, h)
unless-refused (some m) i t n j h = let same : m ≡ n = cc in inl (ap some same, cc)

pub unless-none : {A : Type 0} (o : Option ℕ) (i : ℕ) (t : Tested A) → o ≡ none → unless o i t ≡ t
unfolding unless
unless-none o i t h = rw h

pub unless-some : {A : Type 0} (o : Option ℕ) (i : ℕ) (t : Tested A) (n : ℕ) → o ≡ some n → unless o i t ≡ refused n i
unfolding unless
unless-some o i t n h = rw h
