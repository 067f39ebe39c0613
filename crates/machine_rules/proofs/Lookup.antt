-- The lookup from the newest write; what waits, as two columns of the log.
use Rattle.std.proofs.Common.{◌≡◌, ℕ, zero, suc, ◌+◌, ◌-◌, ◌<◌, ◌≤◌, Bool, true, false, cond, eqb, List, [], ◌∷◌, ◌++◌, length, get_or, take, drop, set, sym, refl, ap, ◌∙◌, sub-one, arith, length-take-le, take-suc, take-suc-set, take-add, drop_at, eq-eqb, ne_eqb}
use lib.Seq.{slice, slice_empty, slice-cons, length-slice, drop-append-le, take-length}
use Rattle.model.specs.Machine.{WaitingWrite, write_of}
use Rattle.model.specs.declared.origin.Origin.TheVariants.{Memory, Waiting}
use Rattle.model.specs.Step.{behind, origin_in}
use Rattle.machine_rules.specs.Offers.{writes_in}
use Rattle.machine_rules.specs.Lookups.{Finds}

-- ---- two columns

pub writes-snoc : (xs vs : List ℕ) (x v : ℕ) → length xs ≡ length vs → writes_in (xs ++ (x ∷ [])) (vs ++ (v ∷ [])) ≡ writes_in xs vs ++ (write_of x v ∷ [])
unfolding writes_in
writes-snoc [] [] x v h = refl
writes-snoc [] (w ∷ vs) x v h = absurd (omega arith)
writes-snoc (y ∷ xs) [] x v h = absurd (omega arith)
writes-snoc (y ∷ xs) (w ∷ vs) x v h = ap {B = List WaitingWrite} (λ l. write_of y w ∷ l) (writes-snoc xs vs x v (omega arith))

pub writes-length : (xs vs : List ℕ) → length xs ≡ length vs → length (writes_in xs vs) ≡ length xs
unfolding writes_in
writes-length [] vs h = refl
writes-length (x ∷ xs) [] h = absurd (omega arith)
writes-length (x ∷ xs) (v ∷ vs) h = ap suc (writes-length xs vs (omega arith))

pub write-value : (xs vs : List ℕ) (i : ℕ) → length xs ≡ length vs → i < length xs → (get_or (writes_in xs vs) i (write_of 0 0)).value ≡ get_or vs i 0
unfolding writes_in
write-value [] vs i h l = absurd (omega arith)
write-value (x ∷ xs) [] i h l = absurd (omega arith)
write-value (x ∷ xs) (v ∷ vs) zero h l = refl
write-value (x ∷ xs) (v ∷ vs) (suc i) h l = write-value xs vs i (omega arith) (omega arith)

-- ---- the newest write decides first

origin-snoc : (ws : List WaitingWrite) (w : WaitingWrite) (x : ℕ) → origin_in (ws ++ (w ∷ [])) x ≡ cond (eqb w.location x) (Waiting (length ws)) (origin_in ws x)
unfolding origin_in behind
origin-snoc [] w x = refl
origin-snoc (u ∷ ws) w x = ap (behind (eqb u.location x)) (origin-snoc ws w x) ∙ go (eqb w.location x)
  where
    go : (b : Bool) → behind (eqb u.location x) (cond b (Waiting (length ws)) (origin_in ws x)) ≡ cond b (Waiting (suc (length ws))) (behind (eqb u.location x) (origin_in ws x))
    go true = refl
    go false = refl

origin-more : (xs vs : List ℕ) (j x : ℕ) → j < length xs → length xs ≡ length vs
    → origin_in (writes_in (take (suc j) xs) (take (suc j) vs)) x ≡ cond (eqb (get_or xs j 0) x) (Waiting j) (origin_in (writes_in (take j xs) (take j vs)) x)
origin-more xs vs j x h k =
    let a : length (take j xs) ≡ j = length-take-le j xs (omega arith) in
    let b : length (take j vs) ≡ j = length-take-le j vs (omega arith) in
    let c : length (writes_in (take j xs) (take j vs)) ≡ j = writes-length (take j xs) (take j vs) (a ∙ sym b) ∙ a in
    rw (take-suc xs j 0 h, take-suc vs j 0 (omega arith), writes-snoc (take j xs) (take j vs) (get_or xs j 0) (get_or vs j 0) (a ∙ sym b))
    (origin-snoc (writes_in (take j xs) (take j vs)) (write_of (get_or xs j 0) (get_or vs j 0)) x
    ∙ ap (λ (n : ℕ). cond (eqb (get_or xs j 0) x) (Waiting n) (origin_in (writes_in (take j xs) (take j vs)) x)) c)

-- i writes are still to be looked at: none of the others is to x
pub record Passed (xs : List ℕ) (x i : ℕ) : Type 0 where
  pub same : (vs : List ℕ) → length xs ≡ length vs → origin_in (writes_in xs vs) x ≡ origin_in (writes_in (take i xs) (take i vs)) x

module _ (xs : List ℕ) (x : ℕ) where
  origin-step : (i : ℕ) → 0 < i → i ≤ length xs → (vs : List ℕ) → length xs ≡ length vs
      → origin_in (writes_in (take i xs) (take i vs)) x ≡ cond (eqb (get_or xs (i - 1) 0) x) (Waiting (i - 1)) (origin_in (writes_in (take (i - 1) xs) (take (i - 1) vs)) x)
  origin-step zero n k vs h = absurd (omega arith)
  origin-step (suc j) n k vs h = rw sub-one (origin-more xs vs j x (omega arith) h)

  pub all_left : Passed xs x (length xs)
  all_left = record { same = λ vs h. sym (rw (take-length xs, h, take-length vs)) }

  pub found_here : (i : ℕ) → Passed xs x i → 0 < i → i ≤ length xs → get_or xs (i - 1) 0 ≡ x → Finds xs x (Waiting (i - 1))
  found_here i inv n k e = record { says = λ vs h. sym (inv.same vs h ∙ origin-step i n k vs h ∙ rw (eq-eqb (get_or xs (i - 1) 0) x e)) }

  pub not-here : (i : ℕ) → Passed xs x i → 0 < i → i ≤ length xs → ¬ (get_or xs (i - 1) 0 ≡ x) → Passed xs x (i - 1)
  not-here i inv n k e = record { same = λ vs h. inv.same vs h ∙ origin-step i n k vs h ∙ rw (ne_eqb (get_or xs (i - 1) 0) x e) }

  pub none_here : Passed xs x 0 → Finds xs x Memory
  unfolding origin_in writes_in
  none_here inv = record { says = λ vs h. sym (inv.same vs h) }

-- ---- parts of the log

-- a..b and one more
pub slice-more : (a b x : ℕ) (xs : List ℕ) → a ≤ b → b < length xs → slice a (suc b) (set xs b x) ≡ slice a b xs ++ (x ∷ [])
slice-more a b x xs h k =
    let e : length (take b xs) ≡ b = length-take-le b xs (omega arith) in
    let g : a ≤ length (take b xs) = omega arith in
    rw (take-suc-set, drop-append-le)

-- what `&xs[a..b]` is
pub part-is : (a b : ℕ) (xs : List ℕ) → a ≤ b → b ≤ length xs → take (b - a) (drop a xs) ≡ slice a b xs
part-is a b xs h k =
    let e : a + (b - a) ≡ b = omega arith in
    sym (ap (λ (n : ℕ). drop a (take n xs)) (sym e) ∙ ap (drop a) (take-add a (b - a) xs) ∙ drop_at (take a xs) (take (b - a) (drop a xs)) a (length-take-le a xs (omega arith)))

-- the writes a..b of two columns: none, the oldest and the others, one more
pub part_none : (a : ℕ) (xs vs : List ℕ) → writes_in (slice a a xs) (slice a a vs) ≡ []
unfolding writes_in
part_none a xs vs = rw (slice_empty a xs)

module _ (a b : ℕ) (xs vs : List ℕ) (same : length xs ≡ length vs) where
  pub part-some : a < b → b ≤ length xs
      → writes_in (slice a b xs) (slice a b vs) ≡ write_of (get_or xs a 0) (get_or vs a 0) ∷ writes_in (slice (suc a) b xs) (slice (suc a) b vs)
  unfolding writes_in
  part-some h k = rw (slice-cons a b xs 0 h k, slice-cons a b vs 0 h (omega arith))

  pub part-more : (x v : ℕ) → a ≤ b → b < length xs
      → writes_in (slice a (suc b) (set xs b x)) (slice a (suc b) (set vs b v)) ≡ writes_in (slice a b xs) (slice a b vs) ++ (write_of x v ∷ [])
  part-more x v h k =
      let long : length (slice a b xs) ≡ length (slice a b vs) = length-slice a b xs (omega arith) ∙ sym (length-slice a b vs (omega arith)) in
      rw (slice-more a b x xs h k, slice-more a b v vs h (omega arith)) (writes-snoc (slice a b xs) (slice a b vs) x v long)
