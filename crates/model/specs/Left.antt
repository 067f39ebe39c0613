-- k, the number of steps left; finished runs; and how a run is finished (document 01, "When a step is allowed").
use Rattle.std.specs.Prelude.{◌≡◌, List, [], ◌∷◌, ℕ, suc, ◌+◌, ◌<◌, length}
use Rattle.model.specs.Program.{ProgramStep, read, write, fence, lock, unlock, local}
use Rattle.model.specs.Machine.{Machine, Processor, free, held, processor}
use Rattle.model.specs.Rules.{Event, D, Allowed}

-- ---- k: program steps left, plus writes not yet issued, plus writes waiting

unfoldable pub writes : List ProgramStep → ℕ
writes [] = 0
writes (read x to ∷ rest) = writes rest
writes (write x from ∷ rest) = suc (writes rest)
writes (fence ∷ rest) = writes rest
writes (lock ∷ rest) = writes rest
writes (unlock ∷ rest) = writes rest
writes (local r v ∷ rest) = writes rest

unfoldable pub left_of : Processor → ℕ
unfolding writes
left_of P = length P.todo + writes P.todo + length P.waiting

unfoldable pub left_in : List Processor → ℕ
unfolding left_of
left_in [] = 0
left_in (P ∷ Ps) = left_of P + left_in Ps

unfoldable pub left : Machine → ℕ
unfolding left_in
left s = left_in s.processors

-- ---- finished: all programs at their end, all buffers empty

abbrev pub Done : Processor → Type 0
Done P = (P.todo ≡ []) × (P.waiting ≡ [])

abbrev pub Finished : Machine → Type 0
Finished s = (p : ℕ) → Done (processor s p)

-- ---- finishing a run

-- the holder of the lock moves or, if it is free, the lowest-numbered processor with a program step left or a write waiting
pub data Mover (s : Machine) : ℕ → Type 0 where
  holder : {p : ℕ} → s.holder ≡ held p → Mover s p
  lowest : {p : ℕ} → s.holder ≡ free → ¬ Done (processor s p) → ((q : ℕ) → q < p → Done (processor s q)) → Mover s p

-- if it has a write waiting it drains, otherwise it takes its next program step
pub data FinishingStep (s : Machine) : Event → Machine → Type 0 where
  drains : {p x v : ℕ} {t : Machine} → Mover s p → Allowed s (D p x v) t → FinishingStep s (D p x v) t
  goes_on : {e : Event} {t : Machine} → Mover s e.processor → (processor s e.processor).waiting ≡ [] → Allowed s e t → FinishingStep s e t

-- the steps `events`, so taken until the run is finished, lead from s to u
abbrev pub FinishingRun : Machine → List Event → Machine → Type 0
FinishingRun s [] u = (s ≡ u) × Finished u
FinishingRun s (e ∷ es) u = (t : Machine) × FinishingStep s e t × FinishingRun t es u
