-- Each move leaves its processor one step less to take, and the others as they were.
use mathlib.Core.Path.{◌≡◌, refl, subst}
use mathlib.Core.Bool.{Bool, true, false, cond}
use mathlib.Core.Option.{some}
use mathlib.Core.List.{List, [], ◌∷◌}
use Prim.Native.Nat.{ℕ, suc, ◌+◌, ◌≤◌}
use native.Mathlib.Omega.{arith}
use lib.ListN.{length, set, length-append}
use lib.Dec.{eqb}
use Rattle.model.specs.Program.{ProgramStep, read, write, fence, lock, unlock, local, Target, Source, into, aside}
use Rattle.model.specs.Machine.{Machine, Processor, WaitingWrite, processor, with_processor, with_holder, with_cell, advanced, received, wrote, assigned, drained}
use Rattle.model.specs.Rules.{Event, Allowed}
use Rattle.model.specs.Step.{seen, Move, drain_move, next_move, move_for}
use Rattle.model.specs.Left.{writes, left_of}
use Rattle.model.proofs.Tests.{some_inj, none-some}
use Rattle.model.proofs.Steps.{offered}

-- ---- one processor

-- its writes, issued or not
unfoldable pub writes_of : Processor → ℕ
unfolding writes
writes_of P = writes P.todo + length P.waiting

-- Q has one step less to take than P, and no more writes
pub record Less (P Q : Processor) : Type 0 where
  pub steps : left_of P ≡ suc (left_of Q)
  pub writes : writes_of Q ≤ writes_of P

-- past a step that is no write
goes_on : (P : Processor) (st : ProgramStep) (rest : List ProgramStep) → P.todo ≡ st ∷ rest → writes (st ∷ rest) ≡ writes rest → Less P (advanced P rest)
unfolding left_of writes_of advanced
goes_on P st rest h w = record { steps = rw h (omega arith); writes = rw h (omega arith) }

-- where a read's value goes does not matter
received-less : (P : Processor) (rest : List ProgramStep) (to : Target) (v : ℕ) → Less P (advanced P rest) → Less P (received P rest to v)
unfolding received assigned advanced left_of writes_of
received-less P rest (into r) v l = record { steps = l.steps; writes = l.writes }
received-less P rest aside v l = record { steps = l.steps; writes = l.writes }

issues-one : (P : Processor) (x : ℕ) (from : Source) (rest : List ProgramStep) → P.todo ≡ write x from ∷ rest → Less P (wrote P rest x from)
unfolding left_of writes_of wrote
issues-one P x from rest h = record { steps = simp (length-append, h) (omega arith); writes = simp (length-append, h) (omega arith) }

drains-one : (P : Processor) (w : WaitingWrite) (newer : List WaitingWrite) → P.waiting ≡ w ∷ newer → Less P (drained P newer)
unfolding left_of writes_of drained
drains-one P w newer h = record { steps = rw h (omega arith); writes = rw h (omega arith) }

-- ---- a move: the processor that moves has one step less to take, and the others stay

pub record Moves (s t : Machine) (p : ℕ) : Type 0 where
  pub after : Processor
  pub placed : t.processors ≡ set s.processors p after
  pub less : Less (processor s p) after

module _ (s : Machine) (p : ℕ) where
  abbrev Goes : Move → Type 0
  Goes m = Moves s m.after p

  drain-goes : (ws : List WaitingWrite) → (processor s p).waiting ≡ ws → (m : Move) → drain_move s p ws ≡ some m → Goes m
  unfolding drain_move with_processor with_cell
  drain-goes [] h m g = none-some g
  drain-goes (w ∷ newer) h m g = subst Goes (some_inj g) (record { after = _; placed = refl; less = drains-one (processor s p) w newer h })

  next-goes : (todo : List ProgramStep) → (processor s p).todo ≡ todo → (m : Move) → next_move s p todo ≡ some m → Goes m
  unfolding next_move with_processor with_holder advanced assigned received left_of writes_of
  next-goes [] h m g = none-some g
  next-goes (read x to ∷ rest) h m g =
      subst Goes (some_inj g) (record { after = _; placed = refl; less = received-less (processor s p) rest to (seen s p x) (goes_on (processor s p) _ rest h refl) })
  next-goes (write x from ∷ rest) h m g = subst Goes (some_inj g) (record { after = _; placed = refl; less = issues-one (processor s p) x from rest h })
  next-goes (fence ∷ rest) h m g = subst Goes (some_inj g) (record { after = _; placed = refl; less = goes_on (processor s p) _ rest h refl })
  next-goes (lock ∷ rest) h m g = subst Goes (some_inj g) (record { after = _; placed = refl; less = goes_on (processor s p) _ rest h refl })
  next-goes (unlock ∷ rest) h m g = subst Goes (some_inj g) (record { after = _; placed = refl; less = goes_on (processor s p) _ rest h refl })
  next-goes (local r v ∷ rest) h m g =
      subst Goes (some_inj g) (record { after = _; placed = refl; less = received-less (processor s p) rest (into r) v (goes_on (processor s p) _ rest h refl) })

pub move-goes : (s : Machine) (e : Event) (m : Move) → move_for s e ≡ some m → Moves s m.after e.processor
unfolding move_for
move-goes s e m = go (eqb e.kind 3)
  where
    p : ℕ
    p = e.processor

    go : (b : Bool) → cond b (drain_move s p (processor s p).waiting) (next_move s p (processor s p).todo) ≡ some m → Moves s m.after p
    go true g = drain-goes s p (processor s p).waiting refl m g
    go false g = next-goes s p (processor s p).todo refl m g

pub moves : (s : Machine) (e : Event) (t : Machine) → Allowed s e t → Moves s t e.processor
moves s e t a = let o = offered s e t a in subst (λ (u : Machine). Moves s u e.processor) o.after (move-goes s e o.move o.asked)
