-- Every allowed step leaves an orderly machine orderly.
use mathlib.Core.Path.{◌≡◌, refl, sym}
use mathlib.Core.Bool.{true, false}
use mathlib.Core.List.{List, ◌∷◌}
use Prim.Native.Nat.{ℕ}
use native.Mathlib.Omega.{arith}
use borrow.Author.Tests.{ne_eqb}
use Rattle.model.specs.Program.{ProgramStep, Target, into, aside}
use Rattle.model.specs.Machine.{Machine, Processor, free, held, processor, idle, with_processor, with_holder, with_cell, advanced, received, wrote, assigned, drained}
use Rattle.model.specs.Rules.{Event, Allowed, Read, Write, Drain, Fence, Lock, Unlock, Local}
use Rattle.model.specs.Step.{holds}
use Rattle.model.specs.Orderly.{Paired, Orderly}
use Rattle.model.proofs.Bools.{holds-self}
use Rattle.model.proofs.Lists.{each, others}

-- where the holder stays, only the processor that moves has to be looked at
keep : (s : Machine) (p : ℕ) (P : Processor) → Orderly s → Paired (holds s.holder p) P.todo → Orderly (with_processor s p P)
unfolding processor with_processor
keep s p P o k = each idle (λ q Q. Paired (holds s.holder q) Q.todo) s.processors p P o k

-- where processor p takes the lock, or gives it back, no other holds it before or after
other : (p q : ℕ) → ¬ (q ≡ p) → holds (held p) q ≡ false
unfolding holds
other p q n = ne_eqb p q (λ e. n (sym e))

not-idle : (P : Processor) (st : ProgramStep) (rest : List ProgramStep) → P.todo ≡ st ∷ rest → ¬ (P ≡ idle)
unfolding idle
not-idle P st rest h e = let z : ◌≡◌ {A = ℕ} 0 1 = cc in omega arith

take : (s : Machine) (p : ℕ) (P : Processor) → ¬ (processor s p ≡ idle) → Orderly s → s.holder ≡ free → Paired true P.todo → Orderly (with_holder (with_processor s p P) (held p))
unfolding processor with_processor with_holder holds
take s p P b o f k =
    others (λ q Q. Paired (holds (held p) q) Q.todo) s.processors p P b (rw (holds-self p) k) (λ q ne. rw (other p q ne) (rw f at (o q)))

give : (s : Machine) (p : ℕ) (P : Processor) → ¬ (processor s p ≡ idle) → Orderly s → s.holder ≡ held p → Paired false P.todo → Orderly (with_holder (with_processor s p P) free)
unfolding processor with_processor with_holder holds
give s p P b o f k =
    others (λ q Q. Paired (holds free q) Q.todo) s.processors p P b k (λ q ne. rw (other p q ne) at (rw f at (o q)))

received-todo : (P : Processor) (rest : List ProgramStep) (to : Target) (v : ℕ) → (received P rest to v).todo ≡ rest
unfolding received
received-todo P rest (into r) v = refl
received-todo P rest aside v = refl

pub orderly-kept : (s : Machine) (e : Event) (t : Machine) → Allowed s e t → Orderly s → Orderly t
unfolding advanced assigned wrote drained with_cell holds with_processor processor
orderly-kept s e t (Read {p} {v = v} {to = to} {rest = rest} c h u) o = keep s p _ o (rw (received-todo (processor s p) rest to v) (rw h at (o p)))
orderly-kept s e t (Write {p} c h) o = keep s p _ o (rw h at (o p))
orderly-kept s e t (Drain {p} c h) o = keep s p _ o (o p)
orderly-kept s e t (Fence {p} c h) o = keep s p _ o (rw h at (o p))
orderly-kept s e t (Lock {p} c h f) o = take s p _ (not-idle _ _ _ h) o f (rw (h, f) at (o p))
orderly-kept s e t (Unlock {p} c h f) o = give s p _ (not-idle _ _ _ h) o f (rw (h, f, holds-self p) at (o p))
orderly-kept s e t (Local {p} c h) o = keep s p _ o (rw h at (o p))
