-- The five numbers in a machine that a run of a readable table reaches: there a step is allowed exactly when it gets none.
use mathlib.Core.Path.{◌≡◌, refl, sym, ◌∙◌}
use mathlib.Core.Logic.{◌↔◌, ◌⊎◌, inl, inr}
use mathlib.Core.List.{List, ◌∷◌}
use Prim.Native.Nat.{ℕ}
use Rattle.model.specs.Fields.{Proper}
use Rattle.model.specs.Kinds.{Entry, step_uses}
use Rattle.model.specs.Table.{Readable, start}
use Rattle.model.specs.Program.{ProgramStep, lock, unlock}
use Rattle.model.specs.Machine.{Machine, free, held, processor}
use Rattle.model.specs.Rules.{Event, Blocked, Clear, Allowed, Run}
use Rattle.model.specs.Tests.{Tested, passed, refused}
use Rattle.model.specs.Calls.{Reached, reached, take_record}
use Rattle.model.specs.Numbers.{Turns}
use Rattle.model.specs.Orderly.{Orderly}
use Rattle.model.proofs.Tests.{passed-refused}
use Rattle.model.proofs.Runs.{reached-orderly}
use Rattle.model.proofs.Steps.{allowed-clear}
use Rattle.model.proofs.Clears as clears
use Rattle.model.proofs.Proper.{next-proper}
use Rattle.model.proofs.Following.{take-passed, take-allowed, take-refused, take-turns}

module _ (table : List ℕ) (entries : List Entry) (readable : Readable table entries) (es : List Event) (s : Machine) (run : Run (start entries) es s) where
  orderly : Orderly s
  orderly = reached-orderly entries es s run

  -- ---- what the rules of lock and unlock ask of the holder, beside their conditions, never decides

  pub unlock-holds : (p : ℕ) (rest : List ProgramStep) → (processor s p).todo ≡ unlock ∷ rest → s.holder ≡ held p
  unlock-holds p rest h = clears.unlock-held s orderly p rest h

  pub lock-nobody : (p : ℕ) (rest : List ProgramStep) → (processor s p).todo ≡ lock ∷ rest → ¬ Blocked s p → s.holder ≡ free
  lock-nobody p rest h n = clears.lock-free s orderly p rest h n

  -- ---- so a step is allowed exactly when none of its conditions is met

  module _ (e : Event) where
    pub clear-exactly : Proper step_uses e → Clear s e ↔ ((t : Machine) × Allowed s e t)
    clear-exactly proper = (clears.clear-allowed s orderly e proper, λ a. allowed-clear s e a.0 a.1)

    -- it is allowed, or it gets a number, and not both
    either : ((t : Machine) × Allowed s e t) ⊎ ((n : ℕ) × Turns s e n)
    either = go (take_record 0 (reached s 0) e) refl
      where
        go : (o : Tested Reached) → take_record 0 (reached s 0) e ≡ o → ((t : Machine) × Allowed s e t) ⊎ ((n : ℕ) × Turns s e n)
        go (passed d) h = inl (d.machine, (take-passed 0 (reached s 0) d e orderly h).allowed)
        go (refused n i) h = inr (n, (take-refused 0 (reached s 0) e n i h).0)

    not-both : (t : Machine) → Allowed s e t → (n : ℕ) → ¬ Turns s e n
    not-both t a n u = passed-refused (sym (take-allowed 0 s t 0 e (next-proper table entries readable es s run e t a) a) ∙ take-turns 0 (reached s 0) e n u)

    -- so it gets no number exactly when a rule allows it
    pub no_number : ((n : ℕ) → ¬ Turns s e n) ↔ ((t : Machine) × Allowed s e t)
    no_number = (go either, λ a. not-both a.0 a.1)
      where
        go : ((t : Machine) × Allowed s e t) ⊎ ((n : ℕ) × Turns s e n) → ((n : ℕ) → ¬ Turns s e n) → (t : Machine) × Allowed s e t
        go (inl a) never = a
        go (inr u) never = absurd (never u.0 u.1)

    -- and a number exactly when none does
    pub some_number : ((t : Machine) → ¬ Allowed s e t) ↔ ((n : ℕ) × Turns s e n)
    some_number = (go either, λ u t a. not-both t a u.0 u.1)
      where
        go : ((t : Machine) × Allowed s e t) ⊎ ((n : ℕ) × Turns s e n) → ((t : Machine) → ¬ Allowed s e t) → (n : ℕ) × Turns s e n
        go (inl a) never = absurd (never a.0 a.1)
        go (inr u) never = u
