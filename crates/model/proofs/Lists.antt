-- Lists: one element replaced, and what holds of each.
use mathlib.Core.Path.{◌≡◌}
use mathlib.Core.List.{List, [], ◌∷◌, ◌++◌}
use Prim.Native.Nat.{ℕ, zero, suc, ◌<◌}
use native.Mathlib.Nat.{suc_inj}
use native.Mathlib.Omega.{arith}
use lib.ListN.{length, get_or, set}
use Rattle.model.specs.Lists.{All}
use Rattle.model.specs.Machine.{Processor, idle}

-- what held of each, and holds of the new one, holds of each; d stands for what the list does not have
pub each : {A : Type 0} (d : A) (K : ℕ → A → Type 0) (l : List A) (p : ℕ) (a : A) → ((q : ℕ) → K q (get_or l q d)) → K p a → (q : ℕ) → K q (get_or (set l p a) q d)
each d K [] p a all k q = all q
each d K (b ∷ l) zero a all k zero = k
each d K (b ∷ l) zero a all k (suc q) = all (suc q)
each d K (b ∷ l) (suc p) a all k zero = all zero
each d K (b ∷ l) (suc p) a all k (suc q) = each d (λ (n : ℕ). K (suc n)) l p a (λ n. all (suc n)) k q

-- what holds of each element, and of d, holds at each place
pub all-at : {A : Type 0} (K : A → Type 0) (l : List A) (d : A) (n : ℕ) → All K l → K d → K (get_or l n d)
all-at K [] d n a h = h
all-at K (b ∷ l) d zero a h = a.0
all-at K (b ∷ l) d (suc n) a h = all-at K l d n a.1 h

pub all_append : {A : Type 0} (K : A → Type 0) (l m : List A) → All K l → All K m → All K (l ++ m)
all_append K [] m a b = b
all_append K (x ∷ l) m a b = (a.0, all_append K l m a.1 b)

pub all_middle : {A : Type 0} (K : A → Type 0) (l m : List A) (x : A) → All K (l ++ x ∷ m) → K x
all_middle K [] m x a = a.0
all_middle K (y ∷ l) m x a = all_middle K l m x a.1

-- a processor that has a program step left or a write waiting is one of the list's
pub there : (Ps : List Processor) (p : ℕ) → ¬ (get_or Ps p idle ≡ idle) → p < length Ps
there [] p n = absurd (n (λ i. idle))
there (P ∷ Ps) zero n = omega arith
there (P ∷ Ps) (suc p) n = omega (arith, there Ps p n)

-- what holds of the new one, and of each other, holds of each, if there is one to replace
pub others : (K : ℕ → Processor → Type 0) (Ps : List Processor) (p : ℕ) (P : Processor)
    → ¬ (get_or Ps p idle ≡ idle) → K p P → ((q : ℕ) → ¬ (q ≡ p) → K q (get_or Ps q idle)) → (q : ℕ) → K q (get_or (set Ps p P) q idle)
others K [] p P b k o q = absurd (b (λ i. idle))
others K (Q ∷ Qs) zero P b k o zero = k
others K (Q ∷ Qs) zero P b k o (suc q) = o (suc q) (λ e. omega arith)
others K (Q ∷ Qs) (suc p) P b k o zero = o zero (λ e. omega arith)
others K (Q ∷ Qs) (suc p) P b k o (suc q) = others (λ (n : ℕ). K (suc n)) Qs p P b k (λ n ne. o (suc n) (λ e. ne (suc_inj e))) q
