-- The same finishing as a function, and the test whether a run is finished.
use Rattle.std.specs.Prelude.{Bool, true, cond, ◌&&◌, List, [], ◌∷◌, ℕ, zero, suc}
use Rattle.std.proofs.Math.Option.{Option, none, some}
use Rattle.model.specs.Machine.{Machine, Processor, WaitingWrite, Holder, free, held, processor}
use Rattle.model.specs.Rules.{Event}
use Rattle.model.specs.Step.{Move, drain_move, next_move, is_empty}
use Rattle.model.specs.Left.{left}

unfoldable pub is_done : Processor → Bool
unfolding is_empty
is_done P = is_empty P.todo && is_empty P.waiting

unfoldable pub are_done : List Processor → Bool
unfolding is_done
are_done [] = true
are_done (P ∷ Ps) = is_done P && are_done Ps

unfoldable pub is_finished : Machine → Bool
unfolding are_done
is_finished s = are_done s.processors

-- the first processor that is not done
unfoldable pub first_busy : List Processor → ℕ
unfolding is_done
first_busy [] = 0
first_busy (P ∷ Ps) = cond (is_done P) (suc (first_busy Ps)) 0

unfoldable pub mover : Holder → List Processor → ℕ
unfolding first_busy
mover free Ps = first_busy Ps
mover (held p) Ps = p

unfoldable pub drain_or_next : Machine → ℕ → List WaitingWrite → Option Move
unfolding drain_move next_move processor
drain_or_next s p [] = next_move s p (processor s p).todo
drain_or_next s p (w ∷ newer) = drain_move s p (w ∷ newer)

unfoldable pub finishing_move : Machine → Option Move
unfolding mover drain_or_next
finishing_move s = let p = mover s.holder s.processors in drain_or_next s p (processor s p).waiting

-- so k times
unfoldable pub finishing : ℕ → Machine → List Event
unfolding finishing_move
finishing zero s = []
finishing (suc k) s = elim (finishing_move s) [ none ↦ [] | some m ↦ m.event ∷ finishing k m.after ]

unfoldable pub completion : Machine → List Event
unfolding finishing left
completion s = finishing (left s) s
