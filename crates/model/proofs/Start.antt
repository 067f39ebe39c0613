-- Every table starts an orderly machine: nobody holds the lock, nothing waits, and each instruction gives back the lock that it takes.
use mathlib.Core.Path.{◌≡◌, refl}
use mathlib.Core.Bool.{Bool, true, false}
use mathlib.Core.List.{List, [], ◌∷◌, ◌++◌}
use Prim.Native.Nat.{ℕ, zero, suc}
use Rattle.model.specs.Program.{Instruction, store_constant, store_register, load, set_register, mfence, exchange, locked_exchange, exchange_add, locked_exchange_add, ProgramStep, read, write, fence, lock, unlock, local, steps_of}
use Rattle.model.specs.Machine.{idle, Machine, Processor, free, processor, with_processor}
use Rattle.model.specs.Step.{holds}
use Rattle.model.specs.Orderly.{Paired, Orderly}
use Rattle.model.specs.Kinds.{Entry, initial_memory, initial_register, instruction}
use Rattle.model.specs.Table.{enter, enter_all, empty, start}
use Rattle.model.proofs.Lists.{each}

paired-append : (b : Bool) (l m : List ProgramStep) → Paired b l → Paired false m → Paired b (l ++ m)
paired-append true [] m h k = absurd h
paired-append false [] m h k = k
paired-append b (read x to ∷ l) m h k = paired-append b l m h k
paired-append b (write x from ∷ l) m h k = paired-append b l m h k
paired-append b (fence ∷ l) m h k = paired-append b l m h k
paired-append true (lock ∷ l) m h k = absurd h
paired-append false (lock ∷ l) m h k = paired-append true l m h k
paired-append true (unlock ∷ l) m h k = paired-append false l m h k
paired-append false (unlock ∷ l) m h k = absurd h
paired-append b (local r v ∷ l) m h k = paired-append b l m h k

-- each instruction gives back the lock that it takes
paired : (i : Instruction) → Paired false (steps_of i)
unfolding steps_of
paired (store_constant x v) = tt
paired (store_register r x) = tt
paired (load r x) = tt
paired (set_register r v) = tt
paired mfence = tt
paired (exchange r x) = tt
paired (locked_exchange r x) = tt
paired (exchange_add r x) = tt
paired (locked_exchange_add r x) = tt

-- nobody holds the lock, nothing waits, and no program is inside a locked instruction
pub record Fresh (s : Machine) : Type 0 where
  pub unlocked : s.holder ≡ free
  pub clear : (p : ℕ) → (processor s p).waiting ≡ []
  pub pairs : (p : ℕ) → Paired false (processor s p).todo

with-fresh : (s : Machine) (p : ℕ) (P : Processor) → Fresh s → P.waiting ≡ [] → Paired false P.todo → Fresh (with_processor s p P)
unfolding with_processor processor
with-fresh s p P f w k = record {
  unlocked = f.unlocked;
  clear = each idle (λ q Q. Q.waiting ≡ []) s.processors p P f.clear w;
  pairs = each idle (λ q Q. Paired false Q.todo) s.processors p P f.pairs k;
}

enter-fresh : (s : Machine) (a : Entry) → Fresh s → Fresh (enter s a)
unfolding enter
enter-fresh s (initial_memory x v) f = record { unlocked = f.unlocked; clear = f.clear; pairs = f.pairs }
enter-fresh s (initial_register p r v) f = with-fresh s p _ f (f.clear p) (f.pairs p)
enter-fresh s (instruction p i) f = with-fresh s p _ f (f.clear p) (paired-append false (processor s p).todo (steps_of i) (f.pairs p) (paired i))

enter-all-fresh : (es : List Entry) (s : Machine) → Fresh s → Fresh (enter_all s es)
unfolding enter_all
enter-all-fresh [] s f = f
enter-all-fresh (e ∷ es) s f = enter-all-fresh es (enter s e) (enter-fresh s e f)

-- the processors of the empty machine are alike, and idle ones stand behind them
pub empty-at : (K : Processor → Type 0) → K (processor empty 0) → K idle → (p : ℕ) → K (processor empty p)
unfolding empty processor
empty-at K h i zero = h
empty-at K h i (suc zero) = h
empty-at K h i (suc (suc zero)) = h
empty-at K h i (suc (suc (suc zero))) = h
empty-at K h i (suc (suc (suc (suc p)))) = i

empty-fresh : Fresh empty
unfolding empty processor idle
empty-fresh = record {
  unlocked = refl;
  clear = empty-at (λ P. P.waiting ≡ []) refl refl;
  pairs = empty-at (λ P. Paired false P.todo) tt tt;
}

pub start-fresh : (entries : List Entry) → Fresh (start entries)
unfolding start
start-fresh entries = enter-all-fresh entries empty empty-fresh

pub start-orderly : (entries : List Entry) → Orderly (start entries)
unfolding holds processor
start-orderly entries p = let f = start-fresh entries in rw f.unlocked (f.pairs p)
