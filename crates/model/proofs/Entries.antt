-- Tests 5, 6 and 7 of a table's entry decide what they should.
use mathlib.Core.Path.{◌≡◌, refl, ap, ◌∙◌, subst}
use mathlib.Core.Logic.{◌↔◌, inl, inr}
use mathlib.Core.Bool.{Bool, true, false, ◌||◌, false≢true}
use mathlib.Core.List.{List, [], ◌∷◌}
use Prim.Native.Nat.{ℕ}
use lib.Dec.{eqb}
use borrow.Author.Tests.{eqb-true, leb-true, le-leb}
use Rattle.model.specs.Sizes.{instructions_each}
use Rattle.model.specs.Lists.{In}
use Rattle.model.specs.Program.{Instruction}
use Rattle.model.specs.Kinds.{Entry, initial_memory, initial_register, instruction}
use Rattle.model.specs.Table.{Late, Twice, instructions_of, Crowded}
use Rattle.model.specs.Reading.{any, is_instruction, gives_memory, gives_register, late, again, crowded}
use Rattle.model.proofs.Bools.{self, false-true, and_left, and_right}

-- ---- some entry is met

any_here : (f : Entry → Bool) (e : Entry) (es : List Entry) → f e ≡ true → any f (e ∷ es) ≡ true
unfolding any
any_here f e es h = rw h

any-later : (f : Entry → Bool) (e : Entry) (es : List Entry) → any f es ≡ true → any f (e ∷ es) ≡ true
unfolding any
any-later f e es h = go (f e)
  where
    go : (b : Bool) → (b || any f es) ≡ true
    go true = refl
    go false = h

pub in-any : (f : Entry → Bool) (e : Entry) (es : List Entry) → f e ≡ true → In e es → any f es ≡ true
in-any f e [] h i = absurd i
in-any f e (d ∷ es) h (inl i) = any_here f d es (ap f i ∙ h)
in-any f e (d ∷ es) h (inr i) = any-later f d es (in-any f e es h i)

pub any-in : (f : Entry → Bool) (es : List Entry) → any f es ≡ true → (e : Entry) × (f e ≡ true) × In e es
unfolding any
any-in f [] h = false-true h
any-in f (d ∷ es) h = go (f d) refl h (any-in f es)
  where
    go : (b : Bool) → f d ≡ b → (b || any f es) ≡ true → (any f es ≡ true → (e : Entry) × (f e ≡ true) × In e es) → (e : Entry) × (f e ≡ true) × In e (d ∷ es)
    go true e k ih = (d, e, inl refl)
    go false e k ih = let r = ih k in (r.0, r.1, inr r.2)

-- ---- which entries are met

is-instruction : (e : Entry) → is_instruction e ≡ true → (p : ℕ) × (i : Instruction) × (e ≡ instruction p i)
is-instruction (initial_memory x v) h = false-true h
is-instruction (initial_register p r v) h = false-true h
is-instruction (instruction p i) h = (p, i, refl)

gives-memory : (x : ℕ) (e : Entry) → gives_memory x e ≡ true → (w : ℕ) × (e ≡ initial_memory x w)
gives-memory x (initial_memory y v) h = (v, ap (λ (z : ℕ). initial_memory z v) (eqb-true y x h))
gives-memory x (initial_register p r v) h = false-true h
gives-memory x (instruction p i) h = false-true h

gives-register : (p r : ℕ) (e : Entry) → gives_register p r e ≡ true → (w : ℕ) × (e ≡ initial_register p r w)
gives-register p r (initial_memory x v) h = false-true h
gives-register p r (initial_register q s v) h = (v, λ i. initial_register (eqb-true q p (and_left (eqb q p) (eqb s r) h) i) (eqb-true s r (and_right (eqb q p) (eqb s r) h) i) v)
gives-register p r (instruction q i) h = false-true h

-- ---- initial record after an instruction

instruction-before : (before : List Entry) → (any is_instruction before ≡ true) ↔ ((p : ℕ) × (i : Instruction) × In (instruction p i) before)
instruction-before before = (
  λ h. let a = any-in is_instruction before h in
      let k = is-instruction a.0 a.1 in
      (k.0, k.1, subst (λ (e : Entry). In e before) k.2 a.2),
  λ i. in-any is_instruction (instruction i.0 i.1) before refl i.2,
)

pub late-test : (before : List Entry) (e : Entry) → (late before e ≡ true) ↔ Late before e
unfolding late
late-test before (initial_memory x v) = instruction-before before
late-test before (initial_register p r v) = instruction-before before
late-test before (instruction p i) = (λ h. false≢true h, λ l. absurd l)

-- ---- same cell given twice

pub again-test : (before : List Entry) (e : Entry) → (again before e ≡ true) ↔ Twice before e
unfolding again
again-test before (initial_memory x v) = (
  λ h. let a = any-in (gives_memory x) before h in
      let g = gives-memory x a.0 a.1 in
      (g.0, subst (λ (e : Entry). In e before) g.1 a.2),
  λ t. in-any (gives_memory x) (initial_memory x t.0) before (self x) t.1,
)
again-test before (initial_register p r v) = (
  λ h. let a = any-in (gives_register p r) before h in
      let g = gives-register p r a.0 a.1 in
      (g.0, subst (λ (e : Entry). In e before) g.1 a.2),
  λ t. in-any (gives_register p r) (initial_register p r t.0) before (rw (self p, self r)) t.1,
)
again-test before (instruction p i) = (λ h. false≢true h, λ t. absurd t)

-- ---- seventeenth instruction of a processor

pub crowded-test : (before : List Entry) (e : Entry) → (crowded before e ≡ true) ↔ Crowded before e
unfolding crowded
crowded-test before (initial_memory x v) = (λ h. false≢true h, λ c. absurd c)
crowded-test before (initial_register p r v) = (λ h. false≢true h, λ c. absurd c)
crowded-test before (instruction p i) = (leb-true instructions_each (instructions_of p before), le-leb instructions_each (instructions_of p before))
