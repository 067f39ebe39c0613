-- In an orderly machine a step is allowed when none of its rule's conditions is met: what lock and unlock ask of the holder besides is always so.
use mathlib.Core.Path.{◌≡◌, refl, sym, ap, ◌∙◌, subst}
use mathlib.Core.Logic.{◌↔◌}
use mathlib.Core.Bool.{Bool, true, false}
use mathlib.Core.Option.{Option, none, some}
use mathlib.Core.List.{List, [], ◌∷◌, nil≢cons}
use Prim.Native.Nat.{ℕ, ◌<◌}
use native.Mathlib.Omega.{arith}
use lib.Dec.{eqb}
use borrow.Author.Tests.{eqb-true, eqb-false}
use Rattle.model.specs.declared.answer.Condition.{Condition}
use Rattle.model.specs.declared.answer.Condition.TheVariants.{AnotherKind, NotRight}
use Rattle.model.specs.Lists.{All}
use Rattle.model.specs.Fields.{Proper}
use Rattle.model.specs.Kinds.{step_uses}
use Rattle.model.specs.Program.{ProgramStep, read, write, fence, lock, unlock, local}
use Rattle.model.specs.Machine.{Machine, Holder, free, held, processor}
use Rattle.model.specs.Rules.{Event, event, kind_of, Blocked, Right, of_read, of_write, of_drain, Met, conditions, Clear, Allowed, Read, Write, Drain, Fence, Lock, Unlock, Local}
use Rattle.model.specs.Step.{holds, move_for, met, first_met, took, stepped, after_move, step}
use Rattle.model.specs.Orderly.{Paired, Orderly}
use Rattle.model.proofs.Bools.{holds-true}
use Rattle.model.proofs.Conditions.{none-clear, is_right}
use Rattle.model.proofs.Rows.{below}
use Rattle.model.proofs.Events.{as-bare}
use Rattle.model.proofs.Steps.{took-inj, turned-took, allowed-step}

-- ---- the holder of the lock

module _ (s : Machine) (orderly : Orderly s) (p : ℕ) (rest : List ProgramStep) where
  -- a processor that comes to an unlock holds it
  pub unlock-held : (processor s p).todo ≡ unlock ∷ rest → s.holder ≡ held p
  unlock-held h = holds-true s.holder p (go (holds s.holder p) (rw h at (orderly p)))
    where
      go : (b : Bool) → Paired b (unlock ∷ rest) → b ≡ true
      go true k = refl
      go false k = absurd k

  -- one that comes to a lock does not, so if no other does nobody does
  pub lock-free : (processor s p).todo ≡ lock ∷ rest → ¬ Blocked s p → s.holder ≡ free
  unfolding holds
  lock-free h n = go s.holder refl
    where
      not_own : (b : Bool) → Paired b (lock ∷ rest) → b ≡ false
      not_own true k = absurd k
      not_own false k = refl

      go : (o : Holder) → s.holder ≡ o → o ≡ free
      go free e = refl
      go (held q) e = absurd (n (q, e, eqb-false q p (rw e at (not_own (holds s.holder p) (rw h at (orderly p))))))

-- ---- the program step that is next

next_here : (s : Machine) (e : Event) → ¬ Met AnotherKind s e
    → (next : ProgramStep) × (rest : List ProgramStep) × ((processor s e.processor).todo ≡ next ∷ rest) × (kind_of next ≡ e.kind)
next_here s e n = go (processor s e.processor).todo refl
  where
    go : (todo : List ProgramStep) → (processor s e.processor).todo ≡ todo → (next : ProgramStep) × (rest : List ProgramStep) × ((processor s e.processor).todo ≡ next ∷ rest) × (kind_of next ≡ e.kind)
    go [] h = absurd (n (λ next rest g k. nil≢cons (sym h ∙ g)))
    go (next ∷ rest) h = (next, rest, h, eqb-true (kind_of next) e.kind (kind-is (eqb (kind_of next) e.kind) refl))
      where
        kind-is : (b : Bool) → eqb (kind_of next) e.kind ≡ b → b ≡ true
        kind-is true z = refl
        kind-is false z = absurd (n (λ next' rest' h' k. let same : next ≡ next' = let both = sym h ∙ h' in cc in eqb-false (kind_of next) e.kind z (ap kind_of same ∙ k)))

-- ---- the step

module _ (s : Machine) (orderly : Orderly s) where
  abbrev Some : Event → Type 0
  Some e = (t : Machine) × Allowed s e t

  in_memory : (e : Event) → Clear s e → Right s e → Some e
  in_memory e c (of_read h u) = (_, Read c h u)
  in_memory e c (of_write h i) = (_, Write c h)
  in_memory e c (of_drain h) = (_, Drain c h)

  of-program : (e : Event) → Proper step_uses e → Clear s e → 3 < e.kind → (next : ProgramStep) (rest : List ProgramStep) → (processor s e.processor).todo ≡ next ∷ rest → kind_of next ≡ e.kind → Some e
  unfolding conditions
  of-program e proper c l next rest h k = subst Some (sym is) (go next h (subst (Clear s) is c) (rw k l))
    where
      p : ℕ
      p = e.processor

      is : e ≡ event (kind_of next) p 0 0
      is = as-bare e proper l ∙ (λ j. event (sym k j) p 0 0)

      go : (next : ProgramStep) → (processor s p).todo ≡ next ∷ rest → Clear s (event (kind_of next) p 0 0) → 3 < kind_of next → Some (event (kind_of next) p 0 0)
      go (read x to) h c l = absurd (omega arith)
      go (write x from) h c l = absurd (omega arith)
      go fence h c l = (_, Fence c h)
      go lock h c l = (_, Lock c h (lock-free s orderly p rest h c.1.0))
      go unlock h c l = (_, Unlock c h (unlock-held s orderly p rest h))
      go (local r v) h c l = (_, Local c h)

  pub clear-allowed : (e : Event) → Proper step_uses e → Clear s e → Some e
  unfolding conditions step_uses
  clear-allowed e proper c =
      below 8 (λ k. e.kind ≡ k → All (λ d. ¬ Met d s e) (conditions k) → Some e) (
        λ z n. absurd (omega (arith, proper.known.0)),
        (
          λ z n. memory n.1.1.0 (omega arith),
          (
            λ z n. memory n.1.0 (omega arith),
            (
              λ z n. memory n.1.1.0 (omega arith),
              (
                λ z n. program n.0 (omega arith),
                (
                  λ z n. program n.0 (omega arith),
                  (
                    λ z n. program n.0 (omega arith),
                    (
                      λ z n. program n.0 (omega arith),
                      tt,
                    ),
                  ),
                ),
              ),
            ),
          ),
        ),
      ) e.kind proper.known.1 refl c
    where
      memory : ¬ Met NotRight s e → e.kind < 4 → Some e
      memory n l = in_memory e c (is_right s e l n)

      program : ¬ Met AnotherKind s e → 3 < e.kind → Some e
      program n l = let h = next_here s e n in of-program e proper c l h.0 h.1 h.2 h.3

  -- ---- the two forms agree

  pub step-allowed : (e : Event) → Proper step_uses e → (t : Machine) → step s e ≡ took t → Allowed s e t
  unfolding step
  step-allowed e proper t h =
      let a = clear-allowed e proper ((none-clear s e proper.known).0 (go (first_met (met s e) (conditions e.kind)) h)) in
      subst (Allowed s e) (took-inj (sym (allowed-step s e a.0 a.1) ∙ h)) a.1
    where
      go : (o : Option Condition) → stepped o (after_move s (move_for s e)) ≡ took t → o ≡ none
      go none h = refl
      go (some c) h = turned-took h

  pub steps-exactly : (e : Event) → Proper step_uses e → (t : Machine) → (step s e ≡ took t) ↔ Allowed s e t
  steps-exactly e proper t = (step-allowed e proper t, allowed-step s e t)
