-- All that a caller gets: number, place, and the lent room afterwards (document 01, "Numbers the caller gets").
use Rattle.std.specs.Prelude.{List, [], ◌∷◌, ◌++◌, ℕ, Result, Ok, Err}
use Rattle.model.specs.declared.answer.Refusal.{Refusal}
use Rattle.model.specs.declared.answer.Refusal.TheVariants.{TableLength, TableKind, TableRange, TableUnused, InitialLate, CellTwice, Seventeenth, TraceLength, StepKind, StepField, StepRule, Unfinished, RoomTooSmall, TextGrammar, TextLimit, TextConstant}
use Rattle.model.specs.declared.answer.Refused.{Refused}
use Rattle.model.specs.Machine.{Machine, Processor}
use Rattle.model.specs.Rules.{condition_number}

pub record Reply : Type 0 where
  pub number : ℕ
  pub place : ℕ
  pub room : List ℕ

abbrev pub done : ℕ → List ℕ → Reply
done place room = record { number = 0; place = place; room = room }

abbrev pub refuse : ℕ → ℕ → List ℕ → Reply
refuse number place room = record { number = number; place = place; room = room }

-- an outcome: registers, processor by processor, then memory
unfoldable pub registers_in : List Processor → List ℕ
registers_in [] = []
registers_in (P ∷ Ps) = P.registers ++ registers_in Ps

unfoldable pub outcome : Machine → List ℕ
unfolding registers_in
outcome s = registers_in s.processors ++ s.memory

-- the words of a result: the outcome, and how many reads own buffers served
unfoldable pub words : Machine → ℕ → List ℕ
unfolding outcome
words s own = outcome s ++ (own ∷ [])

-- ---- the code's answers in these numbers

abbrev pub number_of : Refusal → ℕ
number_of TableLength = 1
number_of TableKind = 2
number_of TableRange = 3
number_of TableUnused = 4
number_of InitialLate = 5
number_of CellTwice = 6
number_of Seventeenth = 7
number_of TraceLength = 8
number_of StepKind = 9
number_of StepField = 10
number_of (StepRule c) = condition_number c
number_of Unfinished = 12
number_of RoomTooSmall = 13
number_of TextGrammar = 19
number_of TextLimit = 20
number_of TextConstant = 21

abbrev pub refusal_at : Refusal → ℕ → Refused
refusal_at why place = record { why = why; place = place }

-- a call's answer: the place where it is done, or a refusal
abbrev pub Answer : Type 0
Answer = Result ℕ Refused

abbrev pub reply_of : Answer → List ℕ → Reply
reply_of (Ok place) room = done place room
reply_of (Err r) room = refuse (number_of r.why) r.place room
