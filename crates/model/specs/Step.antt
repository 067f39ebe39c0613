-- The same rules as functions. A move is a step that a processor can come to: its event, and the machine after it.
use Rattle.std.specs.Prelude.{Bool, true, false, cond, not, ◌&&◌, List, [], ◌∷◌, ℕ, suc, get_or, eqb}
use Rattle.std.proofs.Math.Option.{Option, none, some}
use Rattle.model.specs.declared.origin.Origin.{Origin}
use Rattle.model.specs.declared.origin.Origin.TheVariants.{Memory, Waiting}
use Rattle.model.specs.declared.answer.Condition.{Condition}
use Rattle.model.specs.declared.answer.Condition.TheVariants.{AnotherKind, NothingWaits, LockHeld, BufferNotEmpty, NotRight}
use Rattle.model.specs.Program.{ProgramStep, read, write, fence, lock, unlock, local}
use Rattle.model.specs.Machine.{Machine, WaitingWrite, write_of, Holder, free, held, processor, cell, issued, advanced, assigned, received, wrote, drained, with_processor, with_cell, with_holder}
use Rattle.model.specs.Rules.{Event, R, W, D, F, L, U, N, condition_number, conditions, served}

-- ---- tests

unfoldable pub blocked : Holder → ℕ → Bool
blocked free p = false
blocked (held q) p = not (eqb q p)

unfoldable pub holds : Holder → ℕ → Bool
holds free p = false
holds (held q) p = eqb q p

unfoldable pub is_empty : {A : Type 0} → List A → Bool
is_empty [] = true
is_empty (a ∷ l) = false

unfoldable pub same : Event → Event → Bool
same e f =
    eqb e.kind f.kind && eqb e.processor f.processor && eqb e.register f.register
    && eqb e.location f.location && eqb e.value f.value

-- ---- the lookup

-- with one older write, to x or not, before the writes that gave an origin: their positions are one more, and it is read where none of them is
unfoldable pub behind : Bool → Origin → Origin
behind mine Memory = cond mine (Waiting 0) Memory
behind mine (Waiting i) = Waiting (suc i)

-- where a read of x gets its value, if these writes wait: the newest of them to x or, with none, memory
unfoldable pub origin_in : List WaitingWrite → ℕ → Origin
unfolding behind
origin_in [] x = Memory
origin_in (w ∷ newer) x = behind (eqb w.location x) (origin_in newer x)

-- the value there, where m is in memory
unfoldable pub value_from : Origin → List WaitingWrite → ℕ → ℕ
value_from Memory waiting m = m
value_from (Waiting i) waiting m = (get_or waiting i (write_of 0 0)).value

-- what is read, so
unfoldable pub seen_in : List WaitingWrite → ℕ → ℕ → ℕ
unfolding origin_in value_from
seen_in waiting x m = value_from (origin_in waiting x) waiting m

-- where processor p's read of x gets its value, and what it sees
unfoldable pub origin_of : Machine → ℕ → ℕ → Origin
unfolding origin_in processor
origin_of s p x = origin_in (processor s p).waiting x

unfoldable pub seen : Machine → ℕ → ℕ → ℕ
unfolding seen_in processor cell
seen s p x = seen_in (processor s p).waiting x (cell s x)

-- 1 if e is a read that the own buffer serves, and otherwise 0
unfoldable pub served_own : Machine → Event → ℕ
unfolding origin_of
served_own s e = cond (eqb e.kind 1) (served (origin_of s e.processor e.location)) 0

-- ---- the moves of a processor

pub record Move : Type 0 where
  pub event : Event
  pub after : Machine

abbrev pub move : Event → Machine → Option Move
move e t = some (record { event = e; after = t })

-- processor p drains the oldest of its waiting writes
unfoldable pub drain_move : Machine → ℕ → List WaitingWrite → Option Move
unfolding processor drained with_processor with_cell
drain_move s p [] = none
drain_move s p (w ∷ newer) =
    move (D p w.location w.value) (with_cell (with_processor s p (drained (processor s p) newer)) w.location w.value)

-- processor p takes the first of its program steps
unfoldable pub next_move : Machine → ℕ → List ProgramStep → Option Move
unfolding processor seen issued advanced assigned received wrote with_processor with_holder
next_move s p [] = none
next_move s p (read x to ∷ rest) =
    move (R p x (seen s p x)) (with_processor s p (received (processor s p) rest to (seen s p x)))
next_move s p (write x from ∷ rest) =
    move (W p x (issued (processor s p) from)) (with_processor s p (wrote (processor s p) rest x from))
next_move s p (fence ∷ rest) =
    move (F p) (with_processor s p (advanced (processor s p) rest))
next_move s p (lock ∷ rest) =
    move (L p) (with_holder (with_processor s p (advanced (processor s p) rest)) (held p))
next_move s p (unlock ∷ rest) =
    move (U p) (with_holder (with_processor s p (advanced (processor s p) rest)) free)
next_move s p (local r v ∷ rest) =
    move (N p) (with_processor s p (assigned (processor s p) rest r v))

-- the move that an event asks for: a drain, if its kind says so, or else the next program step
unfoldable pub move_for : Machine → Event → Option Move
unfolding drain_move next_move
move_for s e = cond (eqb e.kind 3) (drain_move s e.processor (processor s e.processor).waiting) (next_move s e.processor (processor s e.processor).todo)

-- ---- the conditions

-- there is a move, and its event is so
unfoldable pub is_so : (Event → Bool) → Option Move → Bool
is_so f none = false
is_so f (some m) = f m.event

unfoldable pub met : Machine → Event → Condition → Bool
unfolding move_for is_so same blocked is_empty processor
met s e AnotherKind = not (is_so (λ o. eqb e.kind o.kind) (move_for s e))
met s e NothingWaits = is_empty (processor s e.processor).waiting
met s e LockHeld = blocked s.holder e.processor
met s e BufferNotEmpty = not (is_empty (processor s e.processor).waiting)
met s e NotRight = not (is_so (same e) (move_for s e))

-- the first of these that is met
unfoldable pub first_met : (Condition → Bool) → List Condition → Option Condition
first_met f [] = none
first_met f (c ∷ cs) = cond (f c) (some c) (first_met f cs)

-- ---- a step

-- a step is taken, or turned down with a number
pub data Stepped : Type 0 where
  took : Machine → Stepped
  turned : (number : ℕ) → Stepped

-- it is turned down for a condition or, with none, leads to t
abbrev pub stepped : Option Condition → Machine → Stepped
stepped none t = took t
stepped (some c) t = turned (condition_number c)

unfoldable pub after_move : Machine → Option Move → Machine
after_move s none = s
after_move s (some m) = m.after

unfoldable pub step : Machine → Event → Stepped
unfolding move_for met first_met after_move conditions
step s e = stepped (first_met (met s e) (conditions e.kind)) (after_move s (move_for s e))
