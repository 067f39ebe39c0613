-- Who moves when a run is finished: the processor that the function moves is the mover, and there is one.
use mathlib.Core.Path.{◌≡◌, refl, sym, ap, ◌∙◌}
use mathlib.Core.Bool.{Bool, true, false, cond, false≢true}
use mathlib.Core.List.{List, [], ◌∷◌}
use Prim.Native.Nat.{ℕ, zero, suc, ◌<◌}
use native.Mathlib.Omega.{arith}
use lib.ListN.{get_or}
use Rattle.model.specs.Machine.{Machine, Processor, Holder, free, held, processor, idle}
use Rattle.model.specs.Rules.{Blocked}
use Rattle.model.specs.Left.{left_in, left, Done, Mover}
use Rattle.model.specs.Finish.{is_done, first_busy, mover}
use Rattle.model.specs.Orderly.{Paired, Orderly}
use Rattle.model.proofs.Bools.{holds-self}
use Rattle.model.proofs.Left.{done-left, done-test}

-- the first processor that is not done: it is not done, and each below it is
first-busy : (Ps : List Processor) → 0 < left_in Ps → ¬ Done (get_or Ps (first_busy Ps) idle)
unfolding left_in first_busy
first-busy [] h = absurd (omega arith)
first-busy (P ∷ Ps) h = go (is_done P) refl (λ k. first-busy Ps k)
  where
    go : (b : Bool) → is_done P ≡ b → (0 < left_in Ps → ¬ Done (get_or Ps (first_busy Ps) idle)) → ¬ Done (get_or (P ∷ Ps) (cond b (suc (first_busy Ps)) 0) idle)
    go true e ih = ih (omega (arith, done-left P ((done-test P).0 e)))
    go false e ih = λ d. false≢true (sym e ∙ (done-test P).1 d)

below-busy : (Ps : List Processor) (q : ℕ) → q < first_busy Ps → Done (get_or Ps q idle)
unfolding first_busy idle
below-busy [] q h = (refl, refl)
below-busy (P ∷ Ps) q h = go (is_done P) refl q h (below-busy Ps)
  where
    go : (b : Bool) → is_done P ≡ b → (q : ℕ) → q < cond b (suc (first_busy Ps)) 0 → ((k : ℕ) → k < first_busy Ps → Done (get_or Ps k idle)) → Done (get_or (P ∷ Ps) q idle)
    go true e zero l ih = (done-test P).0 e
    go true e (suc k) l ih = ih k (omega arith)
    go false e q l ih = absurd (omega arith)

-- and there is only one such
busy-is-first : (Ps : List Processor) (p : ℕ) → ¬ Done (get_or Ps p idle) → ((q : ℕ) → q < p → Done (get_or Ps q idle)) → first_busy Ps ≡ p
unfolding first_busy idle
busy-is-first [] p n d = absurd (n (refl, refl))
busy-is-first (P ∷ Ps) zero n d = go (is_done P) refl
  where
    go : (b : Bool) → is_done P ≡ b → cond b (suc (first_busy Ps)) 0 ≡ 0
    go true e = absurd (n ((done-test P).0 e))
    go false e = refl
busy-is-first (P ∷ Ps) (suc p) n d =
    ap (λ (b : Bool). cond b (suc (first_busy Ps)) 0) ((done-test P).1 (d 0 (omega arith))) ∙ ap suc (busy-is-first Ps p n (λ q l. d (suc q) (omega arith)))

-- the processor that the function moves is the mover, and the mover is that one
pub mover-moves : (s : Machine) → 0 < left s → Mover s (mover s.holder s.processors)
unfolding mover left processor
mover-moves s b = go s.holder refl
  where
    go : (h : Holder) → s.holder ≡ h → Mover s (mover h s.processors)
    go free e = Mover.lowest e (first-busy s.processors b) (below-busy s.processors)
    go (held p) e = Mover.holder e

pub one-mover : (s : Machine) (p : ℕ) → Mover s p → mover s.holder s.processors ≡ p
unfolding mover processor
one-mover s p (Mover.holder e) = rw e
one-mover s p (Mover.lowest e n d) = rw e (busy-is-first s.processors p n d)

-- ---- the mover is not blocked, and not done

-- one that holds the lock is not done
holder-busy : (P : Processor) → Paired true P.todo → ¬ Done P
holder-busy P k d = rw d.0 at k

pub mover-free : (s : Machine) (p : ℕ) → Mover s p → ¬ Blocked s p
mover-free s p (Mover.holder e) b = let q = b.0 in let both : held q ≡ held p = sym b.1 ∙ e in b.2 cc
mover-free s p (Mover.lowest e n d) b = let q = b.0 in let both : held q ≡ free = sym b.1 ∙ e in let z : ◌≡◌ {A = ℕ} 0 1 = cc in omega arith

pub mover-busy : (s : Machine) (p : ℕ) → Orderly s → Mover s p → ¬ Done (processor s p)
unfolding processor
mover-busy s p o (Mover.holder e) = holder-busy (processor s p) (rw (e, holds-self p) at (o p))
mover-busy s p o (Mover.lowest e n d) = n
