-- Programs in columns: what is left of one, step by step, and one instruction more.
use mathlib.Core.Path.{◌≡◌, refl, sym, ap, ◌∙◌}
use mathlib.Core.List.{List, ◌∷◌, ◌++◌, append_assoc, append-nil}
use Prim.Native.Nat.{ℕ, zero, suc, ◌+◌, ◌*◌, ◌≤◌, ◌<◌}
use native.Mathlib.Omega.{arith}
use native.Mathlib.Nat.{add-zero}
use lib.ListN.{length, get_or, drop, length-append}
use lib.Dec.{lit≤}
use lib.Seq.{drop-cons, drop-append-le, drop-append_seam}
use Rattle.model.specs.Sizes.{phases}
use Rattle.model.specs.Program.{ProgramStep, fence}
use Rattle.model.specs.Kinds.{Entry, initial_memory, initial_register, instruction, entry_of}
use Rattle.model.specs.Left.{writes}
use Rattle.model.specs.Code.{Columns, steps_in, instruction_at, steps_from}
use Rattle.model.proofs.Sizes.{writes-append, weight}

-- the program steps of instruction a of processor p
abbrev pub steps_at : Columns → ℕ → ℕ → List ProgramStep
steps_at g p a = steps_in (entry_of (instruction_at g p a))

-- at most four steps, and at most one write
pub entry-weight : (e : Entry) → (length (steps_in e) ≤ 4) × (writes (steps_in e) ≤ 1)
unfolding steps_in writes
entry-weight (initial_memory x v) = (lit≤ tt, lit≤ tt)
entry-weight (initial_register p r v) = (lit≤ tt, lit≤ tt)
entry-weight (instruction p i) = weight i

pub few-writes : (g : Columns) (p a n : ℕ) → writes (steps_from g p a n) ≤ n
unfolding steps_from writes
few-writes g p a zero = lit≤ tt
few-writes g p a (suc n) =
    let r = few-writes g p (suc a) n in
    let w = (entry-weight (entry_of (instruction_at g p a))).1 in
    rw (writes-append (steps_at g p a) (steps_from g p (suc a) n)) (omega arith)

pub few-steps : (g : Columns) (p a n : ℕ) → length (steps_from g p a n) ≤ phases * n
unfolding steps_from
few-steps g p a zero = omega arith
few-steps g p a (suc n) =
    let r = few-steps g p (suc a) n in
    let w = (entry-weight (entry_of (instruction_at g p a))).0 in
    rw (length-append (steps_at g p a) (steps_from g p (suc a) n)) (omega arith)

-- ---- what is left at instruction a, of which f steps are taken, where n instructions come after it

pub next-phase : (g : Columns) (p a n f : ℕ) → f < length (steps_at g p a)
    → drop f (steps_from g p a (suc n)) ≡ get_or (steps_at g p a) f fence ∷ drop (suc f) (steps_from g p a (suc n))
unfolding steps_from
next-phase g p a n f h =
    let l : f ≤ length (steps_at g p a) = omega arith in
    rw (
      drop-append-le f (steps_at g p a) (steps_from g p (suc a) n) l,
      drop-append-le (suc f) (steps_at g p a) (steps_from g p (suc a) n) h,
      drop-cons (steps_at g p a) f fence h,
    )

pub next-instruction : (g : Columns) (p a n : ℕ) → drop (length (steps_at g p a)) (steps_from g p a (suc n)) ≡ steps_from g p (suc a) n
unfolding steps_from
next-instruction g p a n = drop-append_seam (steps_at g p a) (steps_from g p (suc a) n)

-- ---- the last instruction, and the same instructions in other columns

pub steps-more : (g : Columns) (p a n : ℕ) → steps_from g p a (suc n) ≡ steps_from g p a n ++ steps_at g p (a + n)
unfolding steps_from
steps-more g p a zero = append-nil (steps_at g p a) ∙ ap (steps_at g p) (sym (add-zero a))
steps-more g p a (suc n) =
    let e : suc a + n ≡ a + suc n = omega arith in
    ap (λ (l : List ProgramStep). steps_at g p a ++ l) (steps-more g p (suc a) n ∙ ap (λ (b : ℕ). steps_from g p (suc a) n ++ steps_at g p b) e)
    ∙ sym (append_assoc (steps_at g p a) (steps_from g p (suc a) n) (steps_at g p (a + suc n)))

pub steps-same : (g h : Columns) (p a n : ℕ) → ((i : ℕ) → i < a + n → instruction_at h p i ≡ instruction_at g p i) → steps_from h p a n ≡ steps_from g p a n
unfolding steps_from
steps-same g h p a zero e = refl
steps-same g h p a (suc n) e = λ i. steps_in (entry_of (e a (omega arith) i)) ++ steps-same g h p (suc a) n (λ j l. e j (omega arith)) i
