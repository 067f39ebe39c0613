-- The constant tables of src/program.rt: they are these lists, computed.
use Rattle.std.proofs.Common.{◌≡◌, ℕ, zero, suc, ◌<◌, Bool, true, ◌&&◌, ltb, List, [], ◌∷◌, get_or, refl, ap, ◌∙◌, arith, lit<, ltb-true}
use Rattle.model.proofs.Bools.{and_left, and_right}
use Rattle.model.specs.Sizes.{phases}
use Rattle.model.specs.Kinds.{table_uses, table_rows}
use Rattle.std.specs.Prelude.{Option, None}
use Rattle.machine_rules.specs.declared.program.Step.{Step}
use Rattle.machine_rules.specs.Steps.{step_count, next_step}

-- the rows of the code's tables, Role::KINDS: one for each kind
abbrev pub rows : ℕ
rows = 12

pub in_rows : {k : ℕ} → k < table_rows → k < rows
unfolding table_uses
in_rows h = h

-- f 0, .., f (n - 1)
abbrev up_to : {A : Type 0} → ℕ → (ℕ → A) → List A
up_to zero f = []
up_to (suc n) f = f 0 ∷ up_to n (λ k. f (suc k))

at : {A : Type 0} (n : ℕ) (f : ℕ → A) (d : A) (k : ℕ) → k < n → get_or (up_to n f) k d ≡ f k
at zero f d k h = absurd (omega arith)
at (suc n) f d zero h = refl
at (suc n) f d (suc k) h = at n (λ k. f (suc k)) d k (omega arith)

pub steps-are : (k f : ℕ) → k < table_rows → f < phases
    → get_or (get_or (up_to table_rows (λ k. up_to phases (next_step k))) k []) f None ≡ next_step k f
steps-are k f h l = ap (λ (row : List (Option Step)). get_or row f None) (at table_rows (λ k. up_to phases (next_step k)) [] k h) ∙ at phases (next_step k) None f l

pub counts-are : (k : ℕ) → k < table_rows → get_or (up_to table_rows step_count) k 0 ≡ step_count k
counts-are k h = at table_rows step_count 0 k h

-- ---- and the counts are small

abbrev all_under : ℕ → List ℕ → Bool
all_under m [] = true
all_under m (x ∷ xs) = ltb x m && all_under m xs

under : (m : ℕ) → 0 < m → (xs : List ℕ) → all_under m xs ≡ true → (k : ℕ) → get_or xs k 0 < m
under m z [] e k = z
under m z (x ∷ xs) e zero = ltb-true x m (and_left (ltb x m) (all_under m xs) e)
under m z (x ∷ xs) e (suc k) = under m z xs (and_right (ltb x m) (all_under m xs) e) k

pub counts-few : (k : ℕ) → get_or (up_to table_rows step_count) k 0 < suc phases
unfolding step_count table_uses
counts-few = under (suc phases) (lit< tt) (up_to table_rows step_count) refl
