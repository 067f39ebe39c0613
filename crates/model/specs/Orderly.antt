-- What holds of every machine that a run can reach: the holder of the lock is inside a locked instruction, and no other processor is.
use Rattle.std.specs.Prelude.{Bool, true, false, List, [], ◌∷◌, ℕ}
use Rattle.model.specs.Program.{ProgramStep, read, write, fence, lock, unlock, local}
use Rattle.model.specs.Machine.{Machine, processor}
use Rattle.model.specs.Step.{holds}

-- lock and unlock alternate in what is left of a program, and end with an unlock; the Bool says whether the lock is held now
abbrev pub Paired : Bool → List ProgramStep → Type 0
Paired true [] = ⊥
Paired false [] = Unit {0}
Paired b (read x to ∷ rest) = Paired b rest
Paired b (write x from ∷ rest) = Paired b rest
Paired b (fence ∷ rest) = Paired b rest
Paired true (lock ∷ rest) = ⊥
Paired false (lock ∷ rest) = Paired true rest
Paired true (unlock ∷ rest) = Paired false rest
Paired false (unlock ∷ rest) = ⊥
Paired b (local r v ∷ rest) = Paired b rest

abbrev pub Orderly : Machine → Type 0
Orderly s = (p : ℕ) → Paired (holds s.holder p) (processor s p).todo
