-- The waiting writes, when one is issued or drained.
use mathlib.Core.Path.{◌≡◌, refl, sym, ◌∙◌}
use mathlib.Core.Bool.{Bool, true, false}
use mathlib.Core.List.{List, [], ◌∷◌, ◌++◌}
use Prim.Native.Nat.{ℕ, suc, ◌+◌, ◌≤◌, ◌<◌}
use native.Mathlib.Omega.{arith}
use lib.ListN.{get_or, set}
use lib.Seq.{slice, get_or-set_same, get_or-set_other}
use lib.Dec.{eqb}
use borrow.Author.Tests.{eqb-true, eqb-false}
use Rattle.model.specs.Code.{place_at}
use Rattle.model.specs.Sizes.{processors, instructions_each}
use Rattle.model.specs.Machine.{WaitingWrite, write_of}
use Rattle.model.specs.Step.{is_empty}
use Rattle.model.proofs.Rows.{part-set-other}
use Rattle.machine_rules.specs.Offers.{writes_in}
use Rattle.machine.specs.View.{waiting_in}
use Rattle.machine.specs.Ready.{Long}
use Rattle.machine_rules.proofs.Lookup.{part_none, part-some, part-more}
use Rattle.machine_state.specs.State.{State, parts}
use Rattle.machine_store.specs.Stores.{next_place}

abbrev pub pushed_in : State → ℕ → ℕ → ℕ → State
pushed_in m p x v =
    parts m.registers m.memory m.kept m.at m.phase (set m.locations (next_place m.issued p) x) (set m.values (next_place m.issued p) v)
    (set m.issued p (get_or m.issued p 0 + 1)) m.drained m.holder m.own

-- the waiting writes alone; those of q wait between its two numbers
abbrev pub Bounds : State → ℕ → Type 0
Bounds m q = (get_or m.drained q 0 ≤ get_or m.issued q 0) × (get_or m.issued q 0 ≤ instructions_each)

pub pushed-own : (m : State) (p x v : ℕ) → p < processors → Long m → get_or m.drained p 0 ≤ get_or m.issued p 0 → get_or m.issued p 0 < instructions_each
    → waiting_in (pushed_in m p x v) p ≡ waiting_in m p ++ (write_of x v ∷ [])
unfolding waiting_in
pushed-own m p x v h l o r =
    let d = get_or m.drained p 0 in
    let n = get_or m.issued p 0 in
    let e : get_or (set m.issued p (n + 1)) p 0 ≡ n + 1 = get_or-set_same m.issued p (n + 1) 0 (rw l.issued h) in
    let s : place_at p (n + 1) ≡ suc (place_at p n) = omega arith in
    rw (e, s) (part-more (place_at p d) (place_at p n) m.locations m.values (l.log_locations ∙ sym l.log_values) x v (omega arith) (rw l.log_locations (omega arith)))

pub pushed-other : (m : State) (p q x v : ℕ) → get_or m.issued p 0 < instructions_each → ¬ (q ≡ p) → Bounds m q → waiting_in (pushed_in m p x v) q ≡ waiting_in m q
unfolding waiting_in
pushed-other m p q x v r n b =
    let o = b.0 in
    let few = b.1 in
    rw (
      get_or-set_other m.issued p q (get_or m.issued p 0 + 1) 0 n,
      part-set-other instructions_each p q (place_at q (get_or m.drained q 0)) (place_at q (get_or m.issued q 0)) (get_or m.issued p 0) x m.locations n r (omega arith) (omega arith),
      part-set-other instructions_each p q (place_at q (get_or m.drained q 0)) (place_at q (get_or m.issued q 0)) (get_or m.issued p 0) v m.values n r (omega arith) (omega arith),
    )

-- what waits behind the oldest
abbrev pub newer_in : State → ℕ → List WaitingWrite
newer_in m p = let d = get_or m.drained p 0 in let n = get_or m.issued p 0 in writes_in (slice (place_at p (d + 1)) (place_at p n) m.locations) (slice (place_at p (d + 1)) (place_at p n) m.values)

pub none-waits : (m : State) (p : ℕ) → get_or m.drained p 0 ≡ get_or m.issued p 0 → waiting_in m p ≡ []
unfolding waiting_in
none-waits m p e = rw e (part_none (place_at p (get_or m.issued p 0)) m.locations m.values)

pub some-wait : (m : State) (p : ℕ) → p < processors → Long m → get_or m.drained p 0 < get_or m.issued p 0 → get_or m.issued p 0 ≤ instructions_each
    → waiting_in m p ≡ write_of (get_or m.locations (place_at p (get_or m.drained p 0)) 0) (get_or m.values (place_at p (get_or m.drained p 0)) 0) ∷ newer_in m p
unfolding waiting_in
some-wait m p h l o r =
    let d = get_or m.drained p 0 in
    let n = get_or m.issued p 0 in
    let s : place_at p (d + 1) ≡ suc (place_at p d) = omega arith in
    rw s (part-some (place_at p d) (place_at p n) m.locations m.values (l.log_locations ∙ sym l.log_values) (omega arith) (rw l.log_locations (omega arith)))

-- whether any waits
pub waits-none : (m : State) (p : ℕ) → p < processors → Long m → get_or m.drained p 0 ≤ get_or m.issued p 0 → get_or m.issued p 0 ≤ instructions_each
    → is_empty (waiting_in m p) ≡ eqb (get_or m.drained p 0) (get_or m.issued p 0)
unfolding is_empty
waits-none m p h l o few = go (eqb (get_or m.drained p 0) (get_or m.issued p 0)) refl
  where
    go : (b : Bool) → eqb (get_or m.drained p 0) (get_or m.issued p 0) ≡ b → is_empty (waiting_in m p) ≡ b
    go true e = rw (none-waits m p (eqb-true _ _ e))
    go false e = let n = eqb-false (get_or m.drained p 0) (get_or m.issued p 0) e in rw (some-wait m p h l (omega arith) few)
