-- A run has one completion: the finishing run is the function's.
use mathlib.Core.Path.{◌≡◌, refl, sym, ap, ◌∙◌}
use mathlib.Core.List.{List, [], ◌∷◌, nil≢cons}
use Prim.Native.Nat.{ℕ, suc}
use native.Mathlib.Omega.{arith}
use lib.ListN.{length}
use borrow.Author.Tests.{ne_eqb}
use Rattle.model.specs.Machine.{Machine, WaitingWrite, processor}
use Rattle.model.specs.Rules.{Event, Allowed, Read, Write, Drain, Fence, Lock, Unlock, Local}
use Rattle.model.specs.Step.{drain_move, move_for}
use Rattle.model.specs.Left.{left, FinishingStep, drains, goes_on, FinishingRun}
use Rattle.model.specs.Finish.{drain_or_next, finishing_move, finishing, completion}
use Rattle.model.proofs.Steps.{offered}
use Rattle.model.proofs.Left.{one_less}
use Rattle.model.proofs.Runs.{finished-length}
use Rattle.model.proofs.Movers.{one-mover}
use Rattle.model.proofs.Finish.{finishing-allowed, finishing-is-run, finishing-next}

-- an allowed step with something waiting is a drain exactly when its kind says so
drain-waits : (s : Machine) (e : Event) (t : Machine) → Allowed s e t → e.kind ≡ 3 → ¬ ((processor s e.processor).waiting ≡ [])
drain-waits s e t (Read c h u) k w = omega arith
drain-waits s e t (Write c h) k w = omega arith
drain-waits s e t (Drain c h) k w = nil≢cons (sym w ∙ h)
drain-waits s e t (Fence c h) k w = omega arith
drain-waits s e t (Lock c h f) k w = omega arith
drain-waits s e t (Unlock c h f) k w = omega arith
drain-waits s e t (Local c h) k w = omega arith

drain_or_next-waits : (s : Machine) (p : ℕ) (ws : List WaitingWrite) → ¬ (ws ≡ []) → drain_or_next s p ws ≡ drain_move s p ws
unfolding drain_or_next
drain_or_next-waits s p [] n = absurd (n refl)
drain_or_next-waits s p (w ∷ ws) n = refl

next-when-empty : (s : Machine) (e : Event) → (processor s e.processor).waiting ≡ [] → ¬ (e.kind ≡ 3) → drain_or_next s e.processor (processor s e.processor).waiting ≡ move_for s e
unfolding drain_or_next move_for
next-when-empty s e w n = rw (w, ne_eqb e.kind 3 n)

-- the function's move is the one that the finishing step's event asks for
finishing-asks : (s : Machine) (e : Event) (t : Machine) → FinishingStep s e t → finishing_move s ≡ move_for s e
unfolding finishing_move move_for
finishing-asks s e t (drains {p} m a) =
    ap (λ (q : ℕ). drain_or_next s q (processor s q).waiting) (one-mover s p m) ∙ drain_or_next-waits s p (processor s p).waiting (drain-waits s _ _ a refl)
finishing-asks s e t (goes_on {e = f} m w a) =
    ap (λ (q : ℕ). drain_or_next s q (processor s q).waiting) (one-mover s f.processor m) ∙ next-when-empty s f w (λ k. drain-waits s f _ a k w)

-- so a finishing run is the function's
one-step : (s : Machine) (e : Event) (t : Machine) (es : List Event) (k : ℕ) → FinishingStep s e t → finishing k t ≡ es → finishing (suc k) s ≡ e ∷ es
one-step s e t es k f h =
    let o = offered s e t (finishing-allowed s e t f) in
    finishing-next k s o.move (finishing-asks s e t f ∙ o.asked) ∙ (λ i. o.event i ∷ (ap (finishing k) o.after ∙ h) i)

-- a completion begins with the finishing step, and goes on with the completion after it
pub completion-next : (s : Machine) (e : Event) (t : Machine) → FinishingStep s e t → completion s ≡ e ∷ completion t
unfolding completion
completion-next s e t f = ap (λ (k : ℕ). finishing k s) (one_less s e t (finishing-allowed s e t f)) ∙ one-step s e t (finishing (left t) t) (left t) f refl

pub completion-none : (s : Machine) → left s ≡ 0 → completion s ≡ []
unfolding completion finishing
completion-none s e = ap (λ (k : ℕ). finishing k s) e

only : (es : List Event) (s u : Machine) → FinishingRun s es u → finishing (length es) s ≡ es
unfolding finishing
only [] s u r = refl
only (e ∷ es) s u r = one-step s e r.0 es (length es) r.1 (only es r.0 u r.2)

pub one-completion : (es : List Event) (s u : Machine) → FinishingRun s es u → completion s ≡ es
unfolding completion
one-completion es s u r =
    let f = finishing-is-run es s u r in
    ap (λ (k : ℕ). finishing k s) (sym (finished-length es s u f.0 f.1)) ∙ only es s u r
