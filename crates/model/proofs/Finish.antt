-- Finishing: from any machine that a run reaches, with k steps left, the function gives k steps, each the finishing step, and the run is then finished.
use mathlib.Core.Path.{◌≡◌, refl, sym, ap, ◌∙◌, subst}
use mathlib.Core.Option.{Option, some}
use mathlib.Core.List.{List, [], ◌∷◌, nil≢cons}
use Prim.Native.Nat.{ℕ, zero, suc, ◌<◌}
use native.Mathlib.Nat.{suc_inj}
use native.Mathlib.Omega.{arith}
use Rattle.model.specs.declared.answer.Condition.TheVariants.{AnotherKind}
use Rattle.model.specs.Program.{ProgramStep, read, write, fence, lock, unlock, local}
use Rattle.model.specs.Kinds.{Entry}
use Rattle.model.specs.Table.{start}
use Rattle.model.specs.Machine.{Machine, WaitingWrite, processor}
use Rattle.model.specs.Rules.{Event, event, kind_of, Blocked, of_read, of_write, of_drain, Met, conditions, Allowed, Read, Write, Drain, Fence, Lock, Unlock, Local, Run}
use Rattle.model.specs.Step.{Move, next_move}
use Rattle.model.specs.Left.{left, Done, Finished, Mover, FinishingStep, drains, goes_on, FinishingRun}
use Rattle.model.specs.Finish.{mover, drain_or_next, finishing_move, finishing, completion}
use Rattle.model.specs.Orderly.{Orderly}
use Rattle.model.specs.Promises.{Completes}
use Rattle.model.proofs.Sees.{seen-sees}
use Rattle.model.proofs.Clears.{unlock-held, lock-free}
use Rattle.model.proofs.Left.{one_less, zero-finished}
use Rattle.model.proofs.Orderly.{orderly-kept}
use Rattle.model.proofs.Runs.{reached-orderly, finished-length}
use Rattle.model.proofs.Movers.{mover-moves, mover-free, mover-busy}

-- ---- the move that the function chooses is allowed

-- o is an allowed move of processor p
record Chosen (s : Machine) (p : ℕ) (o : Option Move) : Type 0 where
  move : Move
  given : o ≡ some move
  whose : move.event.processor ≡ p
  allowed : Allowed s move.event move.after

module _ (s : Machine) (p : ℕ) (orderly : Orderly s) (busy : ¬ Done (processor s p)) (n : ¬ Blocked s p) (w : (processor s p).waiting ≡ []) where
  -- its kind is that of the next step, and nothing waits
  is-next : (next : ProgramStep) (rest : List ProgramStep) → (processor s p).todo ≡ next ∷ rest → ¬ Met AnotherKind s (event (kind_of next) p 0 0)
  is-next next rest h m = m next rest h refl

  is-empty : ¬ ¬ ((processor s p).waiting ≡ [])
  is-empty m = m w

  choose-next : (todo : List ProgramStep) → (processor s p).todo ≡ todo → Chosen s p (next_move s p todo)
  unfolding next_move conditions
  choose-next [] h = absurd (busy (h, w))
  choose-next (read x to ∷ rest) h =
      record { move = _; given = refl; whose = refl; allowed = Read (is-next _ rest h, (n, (λ m. m (of_read h (seen-sees s p x)), tt))) h (seen-sees s p x) }
  choose-next (write x from ∷ rest) h = record { move = _; given = refl; whose = refl; allowed = Write (is-next _ rest h, (λ m. m (of_write h refl), tt)) h }
  choose-next (fence ∷ rest) h = record { move = _; given = refl; whose = refl; allowed = Fence (is-next _ rest h, (is-empty, tt)) h }
  choose-next (lock ∷ rest) h = record { move = _; given = refl; whose = refl; allowed = Lock (is-next _ rest h, (n, (is-empty, tt))) h (lock-free s orderly p rest h n) }
  choose-next (unlock ∷ rest) h = record { move = _; given = refl; whose = refl; allowed = Unlock (is-next _ rest h, (is-empty, tt)) h (unlock-held s orderly p rest h) }
  choose-next (local r v ∷ rest) h = record { move = _; given = refl; whose = refl; allowed = Local (is-next _ rest h, tt) h }

-- ---- so it is the finishing step

-- the move, and its finishing step
pub record Finisher (s : Machine) : Type 0 where
  pub move : Move
  pub given : finishing_move s ≡ some move
  pub finishes : FinishingStep s move.event move.after

pub finisher : (s : Machine) → Orderly s → 0 < left s → Finisher s
unfolding finishing_move drain_or_next conditions
finisher s o b = go (processor s p).waiting refl
  where
    p : ℕ
    p = mover s.holder s.processors

    m : Mover s p
    m = mover-moves s b

    go : (ws : List WaitingWrite) → (processor s p).waiting ≡ ws → Finisher s
    go [] h =
        let c = choose-next s p o (mover-busy s p o m) (mover-free s p m) h (processor s p).todo refl in
        record {
          move = c.move;
          given = ap (drain_or_next s p) h ∙ c.given;
          finishes = goes_on (subst (Mover s) (sym c.whose) m) (ap (λ (q : ℕ). (processor s q).waiting) c.whose ∙ h) c.allowed;
        }
    go (w ∷ newer) h = record {
      move = _;
      given = ap (drain_or_next s p) h;
      finishes = drains m (Drain (λ e. nil≢cons (sym e ∙ h), (mover-free s p m, (λ e. e (of_drain h), tt))) h);
    }

-- nothing is ever stuck: with k above zero a step is allowed, and the finishing step is one
pub never_stuck : (entries : List Entry) (es : List Event) (s : Machine) → Run (start entries) es s → 0 < left s → (e : Event) × (t : Machine) × FinishingStep s e t
never_stuck entries es s r b = let f = finisher s (reached-orderly entries es s r) b in (f.move.event, f.move.after, f.finishes)

pub finishing-allowed : (s : Machine) (e : Event) (t : Machine) → FinishingStep s e t → Allowed s e t
finishing-allowed s e t (drains m a) = a
finishing-allowed s e t (goes_on m w a) = a

pub finishing-is-run : (es : List Event) (s u : Machine) → FinishingRun s es u → Run s es u × Finished u
finishing-is-run [] s u r = r
finishing-is-run (e ∷ es) s u r = let f = finishing-is-run es r.0 u r.2 in ((r.0, finishing-allowed s e r.0 r.1, f.0), f.1)

-- ---- the function's steps are a finishing run

pub finishing-next : (k : ℕ) (s : Machine) (m : Move) → finishing_move s ≡ some m → finishing (suc k) s ≡ m.event ∷ finishing k m.after
unfolding finishing
finishing-next k s m h = rw (h, finishing)

abbrev Runs : ℕ → Machine → Type 0
Runs k s = (u : Machine) × FinishingRun s (finishing k s) u

runs_none : (s : Machine) → left s ≡ 0 → Runs 0 s
unfolding finishing
runs_none s h = (s, (refl, (zero-finished s).0 h))

runs-more : (k : ℕ) (s : Machine) → Orderly s → left s ≡ suc k → ((t : Machine) → Orderly t → left t ≡ k → Runs k t) → Runs (suc k) s
runs-more k s o h ih =
    let f : Finisher s = finisher s o (omega arith) in
    let a : Allowed s f.move.event f.move.after = finishing-allowed s _ _ f.finishes in
    let r : Runs k f.move.after = ih f.move.after (orderly-kept s _ _ a o) (suc_inj (sym (one_less s _ _ a) ∙ h)) in
    (r.0, rw (finishing-next k s f.move f.given) (f.move.after, f.finishes, r.1))

runs : (k : ℕ) (s : Machine) → Orderly s → left s ≡ k → Runs k s
runs zero s o h = runs_none s h
runs (suc k) s o h = runs-more k s o h (runs k)

pub completion-runs : (entries : List Entry) (es : List Event) (s : Machine) → Run (start entries) es s → (u : Machine) × FinishingRun s (completion s) u
unfolding completion
completion-runs entries es s r = runs (left s) s (reached-orderly entries es s r) refl

-- exactly k steps, each allowed in turn, after which the run is finished
pub completion-completes : (entries : List Entry) (es : List Event) (s : Machine) → Run (start entries) es s → Completes s (left s) (completion s)
completion-completes entries es s r =
    let c = completion-runs entries es s r in
    let f = finishing-is-run (completion s) s c.0 c.1 in
    record { steps = finished-length (completion s) s c.0 f.0 f.1; end = c.0; run = f.0; finished = f.1 }
