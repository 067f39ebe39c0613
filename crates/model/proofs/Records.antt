-- A readable table has at most 88 records: each is counted once, by its cell or by its processor.
use mathlib.Core.Path.{◌≡◌, refl, sym, ◌∙◌, subst}
use mathlib.Core.Bool.{Bool, true, false, ◌&&◌}
use mathlib.Core.List.{List, [], ◌∷◌, map}
use Prim.Native.Nat.{ℕ, zero, suc, ◌+◌, ◌*◌, ◌≤◌, ◌<◌}
use native.Mathlib.Nat.{suc-mul}
use native.Mathlib.Omega.{arith}
use lib.ListN.{length}
use lib.Dec.{eqb}
use borrow.Author.Tests.{eqb-true, eqb-false, ne_eqb}
use Rattle.model.specs.declared.record.Record.{Record}
use Rattle.model.specs.Sizes.{processors, registers_each, locations, instructions_each}
use Rattle.model.specs.Record.{records}
use Rattle.model.specs.Fields.{Proper}
use Rattle.model.specs.Kinds.{Entry, initial_memory, initial_register, instruction, Kind, table_kinds, table_uses, entry_of}
use Rattle.model.specs.Reading.{gives_memory, gives_register}
use Rattle.model.specs.Table.{Readable}
use Rattle.model.proofs.Bools.{one}
use Rattle.model.specs.Lists.{All}
use Rattle.model.proofs.Lists.{all-at}
use Rattle.model.proofs.Fields.{proper-fields}
use Rattle.model.proofs.Readable.{count, is_of, readable-sound}

-- ---- a sum over the numbers below n

unfoldable sum : ℕ → (ℕ → ℕ) → ℕ
sum zero f = 0
sum (suc n) f = sum n f + f n

sum-add : (n : ℕ) (f g : ℕ → ℕ) → sum n (λ k. f k + g k) ≡ sum n f + sum n g
unfolding sum
sum-add zero f g = refl
sum-add (suc n) f g = omega (arith, sum-add n f g)

sum-zero : (n : ℕ) → sum n (λ k. 0) ≡ 0
unfolding sum
sum-zero zero = refl
sum-zero (suc n) = omega (arith, sum-zero n)

sum_same : (n : ℕ) (f g : ℕ → ℕ) → ((k : ℕ) → f k ≡ g k) → sum n f ≡ sum n g
sum_same n f g h = λ i. sum n (λ k. h k i)

-- of the numbers below n, none is x where x is not below n, and one is where it is
sum_past : (n x : ℕ) → n ≤ x → sum n (λ k. one (eqb x k)) ≡ 0
unfolding sum
sum_past zero x l = refl
sum_past (suc n) x l = rw (ne_eqb x n (λ e. omega arith)) (omega (arith, sum_past n x (omega arith)))

sum_one : (n x : ℕ) → x < n → sum n (λ k. one (eqb x k)) ≡ 1
unfolding sum
sum_one zero x l = absurd (omega arith)
sum_one (suc n) x l = go (eqb x n) refl (sum_one n x)
  where
    go : (b : Bool) → eqb x n ≡ b → (x < n → sum n (λ k. one (eqb x k)) ≡ 1) → sum n (λ k. one (eqb x k)) + one b ≡ 1
    go true t ih = omega (arith, sum_past n x (omega (arith, eqb-true x n t)))
    go false t ih = let ne : ¬ (x ≡ n) = eqb-false x n t in omega (arith, ih (omega arith))

sum-most : (n b : ℕ) (f : ℕ → ℕ) → ((k : ℕ) → f k ≤ b) → sum n f ≤ n * b
unfolding sum
sum-most zero b f h = omega arith
sum-most (suc n) b f h = rw (suc-mul n b) (omega (arith, sum-most n b f h, h n))

-- ---- each entry counts once

abbrev cells : List Entry → ℕ
cells es = sum locations (λ x. count (gives_memory x) es)

abbrev registers : List Entry → ℕ
registers es = sum processors (λ p. sum registers_each (λ r. count (gives_register p r) es))

abbrev instructions : List Entry → ℕ
instructions es = sum processors (λ p. count (is_of p) es)

more : (n : ℕ) (f : ℕ → Entry → Bool) (e : Entry) (es : List Entry) → sum n (λ k. count (f k) (e ∷ es)) ≡ sum n (λ k. one (f k e)) + sum n (λ k. count (f k) es)
unfolding count
more n f e es = sum-add n (λ k. one (f k e)) (λ k. count (f k) es)

more-registers : (e : Entry) (es : List Entry) → registers (e ∷ es) ≡ sum processors (λ p. sum registers_each (λ r. one (gives_register p r e))) + registers es
more-registers e es =
    sum_same processors _ _ (λ p. more registers_each (gives_register p) e es)
    ∙ sum-add processors (λ p. sum registers_each (λ r. one (gives_register p r e))) (λ p. sum registers_each (λ r. count (gives_register p r) es))

-- the cells and processors that there are
abbrev Exists : Entry → Type 0
Exists (initial_memory x v) = x < locations
Exists (initial_register p r v) = (p < processors) × (r < registers_each)
Exists (instruction p i) = p < processors

row : (b : Bool) (n x : ℕ) → x < n → sum n (λ k. one (b && eqb x k)) ≡ one b
row true n x l = sum_one n x l
row false n x l = sum-zero n

kinds : (e : Entry) → Exists e
    → sum locations (λ x. one (gives_memory x e)) + sum processors (λ p. sum registers_each (λ r. one (gives_register p r e))) + sum processors (λ p. one (is_of p e)) ≡ 1
unfolding sum
kinds (initial_memory x v) l = omega (arith, sum_one locations x l)
kinds (initial_register q s v) l =
    omega (arith, sum_same processors (λ p. sum registers_each (λ r. one (eqb q p && eqb s r))) (λ p. one (eqb q p)) (λ p. row (eqb q p) registers_each s l.1) ∙ sum_one processors q l.0)
kinds (instruction q i) l = omega (arith, sum_one processors q l)

counted-more : (e : Entry) (es : List Entry) → Exists e → length es ≡ cells es + registers es + instructions es
    → length (e ∷ es) ≡ cells (e ∷ es) + registers (e ∷ es) + instructions (e ∷ es)
counted-more e es x h =
    rw (more locations gives_memory e es, more-registers e es, more processors is_of e es) (omega (arith, kinds e x))

counted : (es : List Entry) → All Exists es → length es ≡ cells es + registers es + instructions es
unfolding sum count
counted [] a = refl
counted (e ∷ es) a = counted-more e es a.0 (counted es a.1)

-- ---- the entries of a readable table are such

-- what a record of each kind means exists, if its fields are in range
abbrev Ranged : Kind → Type 0
Ranged k = (p r x v : ℕ) → p < processors → r < registers_each → x < locations → Exists (k.means p r x v)

all-ranged : All Ranged table_kinds
unfolding table_kinds
all-ranged = (
  λ p r x v a b c. c,
  (
    λ p r x v a b c. c,
    (λ p r x v a b c. (a, b), (owns, (owns, (owns, (owns, (owns, (owns, (owns, (owns, (owns, tt)))))))))),
  ),
)
  where
    owns : (p r x v : ℕ) → p < processors → r < registers_each → x < locations → p < processors
    owns p r x v a b c = a

exists : (r : Record) → Proper table_uses r → Exists (entry_of r)
unfolding entry_of
exists r p = let f = proper-fields table_uses r p in all-at Ranged table_kinds _ r.kind all-ranged (λ p r x v a b c. c) r.processor r.register r.location r.value f.0 f.1 f.2

all-exist : (rs : List Record) → All (Proper table_uses) rs → All Exists (map entry_of rs)
all-exist [] p = tt
all-exist (r ∷ rs) p = (exists r p.0, all-exist rs p.1)

pub most-records : (table : List ℕ) (entries : List Entry) → Readable table entries → length entries ≤ 88
most-records table entries readable =
    let t = readable-sound table entries readable in
    let o = t.once in
    omega (
      arith,
      counted entries (subst (All Exists) (sym t.given) (all-exist (records table) t.proper)),
      sum-most locations 1 (λ x. count (gives_memory x) entries) o.memory,
      sum-most processors 4 (λ p. sum registers_each (λ r. count (gives_register p r) entries)) (λ p. sum-most registers_each 1 _ (o.register p)),
      sum-most processors instructions_each (λ p. count (is_of p) entries) o.few,
    )
