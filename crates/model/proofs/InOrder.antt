-- Records in file order: a file is refused by its length, or by the earliest record that is refused, behind records that pass.
use mathlib.Core.Path.{◌≡◌, refl, sym, ap, ◌∙◌}
use mathlib.Core.Logic.{◌⊎◌, inl, inr}
use mathlib.Core.Bool.{Bool, true, false}
use mathlib.Core.List.{List, [], ◌∷◌, ◌++◌}
use Prim.Native.Nat.{ℕ, suc, ◌+◌, ◌/◌, ◌%◌}
use native.Mathlib.Omega.{arith}
use lib.ListN.{length}
use lib.Dec.{eqb}
use borrow.Author.Tests.{eqb-true, eqb-false, eq-eqb, ne_eqb}
use Rattle.model.specs.declared.record.Record.{Record}
use Rattle.model.specs.Record.{records}
use Rattle.model.specs.Tests.{Tested, passed, refused, in_order, in_file}
use Rattle.model.specs.Table.{Whole}
use Rattle.model.proofs.Tests.{passed-inj, passed-refused}

-- the earliest record that is refused, behind records that pass
pub record Earliest {A : Type 0} (f : ℕ → A → Record → Tested A) (i : ℕ) (a : A) (rs : List Record) (n j : ℕ) : Type 0 where
  pub before : List Record
  pub r : Record
  pub after : List Record
  pub found : rs ≡ before ++ r ∷ after
  pub given : A
  pub passes : in_order f i a before ≡ passed given
  pub refuses : f (i + length before) given r ≡ refused n j

in-order-none : {A : Type 0} (f : ℕ → A → Record → Tested A) (i : ℕ) (a : A) → in_order f i a [] ≡ passed a
unfolding in_order
in-order-none f i a = refl

pub in-order-more : {A : Type 0} (f : ℕ → A → Record → Tested A) (i : ℕ) (a b : A) (r : Record) (rs : List Record) → f i a r ≡ passed b
    → in_order f i a (r ∷ rs) ≡ in_order f (suc i) b rs
unfolding in_order
in-order-more f i a b r rs h = rw h

pub in-order-stop : {A : Type 0} (f : ℕ → A → Record → Tested A) (i : ℕ) (a : A) (r : Record) (rs : List Record) (n j : ℕ) → f i a r ≡ refused n j
    → in_order f i a (r ∷ rs) ≡ refused n j
unfolding in_order
in-order-stop f i a r rs n j h = rw h

-- a record more in front
earlier : {A : Type 0} (f : ℕ → A → Record → Tested A) (i : ℕ) (a b : A) (r : Record) (rs : List Record) (n j : ℕ) → f i a r ≡ passed b
    → Earliest f (suc i) b rs n j → Earliest f i a (r ∷ rs) n j
earlier f i a b r rs n j h e = record {
  before = r ∷ e.before;
  r = e.r;
  after = e.after;
  found = ap (λ (l : List Record). r ∷ l) e.found;
  given = e.given;
  passes = in-order-more f i a b r e.before h ∙ e.passes;
  refuses = ap (λ (k : ℕ). f k e.given e.r) (omega arith) ∙ e.refuses;
}

here : {A : Type 0} (f : ℕ → A → Record → Tested A) (i : ℕ) (a : A) (r : Record) (rs : List Record) (n j : ℕ) → f i a r ≡ refused n j → Earliest f i a (r ∷ rs) n j
here f i a r rs n j h = record {
  before = [];
  r = r;
  after = rs;
  found = refl;
  given = a;
  passes = in-order-none f i a;
  refuses = ap (λ (k : ℕ). f k a r) (omega arith) ∙ h;
}

pub in-order-refused : {A : Type 0} (f : ℕ → A → Record → Tested A) (i : ℕ) (a : A) (rs : List Record) (n j : ℕ) → in_order f i a rs ≡ refused n j → Earliest f i a rs n j
in-order-refused f i a [] n j h = passed-refused (sym (in-order-none f i a) ∙ h)
in-order-refused {A} f i a (r ∷ rs) n j h = go (f i a r) refl (λ b. in-order-refused f (suc i) b rs n j)
  where
    go : (t : Tested A) → f i a r ≡ t → ((b : A) → in_order f (suc i) b rs ≡ refused n j → Earliest f (suc i) b rs n j) → Earliest f i a (r ∷ rs) n j
    go (passed b) e ih = earlier f i a b r rs n j e (ih b (sym (in-order-more f i a b r rs e) ∙ h))
    go (refused m k) e ih = here f i a r rs n j (e ∙ (sym (in-order-stop f i a r rs m k e) ∙ h))

pub in-order-at : {A : Type 0} (f : ℕ → A → Record → Tested A) (i : ℕ) (a b : A) (before : List Record) (r : Record) (after : List Record) (n j : ℕ)
    → in_order f i a before ≡ passed b → f (i + length before) b r ≡ refused n j → in_order f i a (before ++ r ∷ after) ≡ refused n j
in-order-at f i a b [] r after n j p h =
    let same : a ≡ b = passed-inj (sym (in-order-none f i a) ∙ p) in
    in-order-stop f i a r after n j ((λ k. f (at k) (same k) r) ∙ h)
  where
    at : i ≡ i + length {A = Record} []
    at = omega arith
in-order-at {A} f i a b (q ∷ before) r after n j p h = go (f i a q) refl (λ c. in-order-at f (suc i) c b before r after n j)
  where
    go : (t : Tested A) → f i a q ≡ t → ((c : A) → in_order f (suc i) c before ≡ passed b → f (suc i + length before) b r ≡ refused n j → in_order f (suc i) c (before ++ r ∷ after) ≡ refused n j)
        → in_order f i a (q ∷ before ++ r ∷ after) ≡ refused n j
    go (passed c) e ih =
        in-order-more f i a c q (before ++ r ∷ after) e
        ∙ ih c (sym (in-order-more f i a c q before e) ∙ p) (ap (λ (k : ℕ). f k b r) (omega arith) ∙ h)
    go (refused m k) e ih = passed-refused (sym p ∙ in-order-stop f i a q before m k e)

-- ---- a whole file

whole-or-not : (bytes : List ℕ) → Whole bytes ⊎ ¬ Whole bytes
whole-or-not bytes = go (eqb (length bytes % 8) 0) refl
  where
    go : (b : Bool) → eqb (length bytes % 8) 0 ≡ b → Whole bytes ⊎ ¬ Whole bytes
    go true e = inl (eqb-true _ _ e)
    go false e = inr (eqb-false _ _ e)

pub file-whole : {A : Type 0} (n : ℕ) (f : ℕ → A → Record → Tested A) (a : A) (bytes : List ℕ) → Whole bytes → in_file n f a bytes ≡ in_order f 0 a (records bytes)
unfolding in_file
file-whole n f a bytes w = rw (eq-eqb (length bytes % 8) 0 w)

pub file-not-whole : {A : Type 0} (n : ℕ) (f : ℕ → A → Record → Tested A) (a : A) (bytes : List ℕ) → ¬ Whole bytes → in_file n f a bytes ≡ refused n (length bytes / 8)
unfolding in_file
file-not-whole n f a bytes w = rw (ne_eqb (length bytes % 8) 0 w)

pub file-passed : {A : Type 0} (n : ℕ) (f : ℕ → A → Record → Tested A) (a b : A) (bytes : List ℕ) → in_file n f a bytes ≡ passed b
    → Whole bytes × (in_order f 0 a (records bytes) ≡ passed b)
file-passed n f a b bytes h = go (whole-or-not bytes)
  where
    go : Whole bytes ⊎ ¬ Whole bytes → Whole bytes × (in_order f 0 a (records bytes) ≡ passed b)
    go (inl w) = (w, sym (file-whole n f a bytes w) ∙ h)
    go (inr w) = passed-refused (sym h ∙ file-not-whole n f a bytes w)

pub file-refused : {A : Type 0} (n : ℕ) (f : ℕ → A → Record → Tested A) (a : A) (bytes : List ℕ) (m j : ℕ) → in_file n f a bytes ≡ refused m j
    → (¬ Whole bytes × (n ≡ m) × (length bytes / 8 ≡ j)) ⊎ (Whole bytes × Earliest f 0 a (records bytes) m j)
file-refused {A} n f a bytes m j h = go (whole-or-not bytes)
  where
    go : Whole bytes ⊎ ¬ Whole bytes → (¬ Whole bytes × (n ≡ m) × (length bytes / 8 ≡ j)) ⊎ (Whole bytes × Earliest f 0 a (records bytes) m j)
    go (inl w) = inr (w, in-order-refused f 0 a (records bytes) m j (sym (file-whole n f a bytes w) ∙ h))
    go (inr w) = let e : ◌≡◌ {A = Tested A} (refused n (length bytes / 8)) (refused m j) = sym (file-not-whole n f a bytes w) ∙ h in inl (w, cc, cc)
