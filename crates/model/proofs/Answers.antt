-- The numbers tell the cases of an answer apart. So a contract that says which reply an answer and a room make leaves one outcome.
use mathlib.Core.Path.{◌≡◌, refl, sym, ap, ◌∙◌}
use mathlib.Core.List.{List, [], ◌∷◌}
use Prim.Native.Nat.{ℕ}
use native.Mathlib.Omega.{arith}
use lib.ListN.{get_or}
use Rattle.model.specs.declared.answer.Refusal.{Refusal}
use Rattle.model.specs.declared.answer.Refusal.TheVariants.{TableLength, TableKind, TableRange, TableUnused, InitialLate, CellTwice, Seventeenth, TraceLength, StepKind, StepField, StepRule, Unfinished, RoomTooSmall, TextGrammar, TextLimit, TextConstant}
use Rattle.model.specs.declared.answer.Condition.{Condition}
use Rattle.model.specs.declared.answer.Condition.TheVariants.{AnotherKind, NothingWaits, LockHeld, BufferNotEmpty, NotRight}
use Rattle.model.specs.Rules.{condition_number}
use Rattle.std.specs.Prelude.{Ok, Err}
use Rattle.model.specs.Reply.{Reply, Answer, number_of, refusal_at, reply_of}

-- the refusal of a number; there is none of number 0, nor of 11
refusal_of : ℕ → Refusal
refusal_of n =
    get_or (TableLength ∷ TableLength ∷ TableKind ∷ TableRange ∷ TableUnused ∷ InitialLate ∷ CellTwice ∷ Seventeenth
    ∷ TraceLength ∷ StepKind ∷ StepField ∷ TableLength ∷ Unfinished ∷ RoomTooSmall
    ∷ StepRule AnotherKind ∷ StepRule NotRight ∷ StepRule LockHeld ∷ StepRule BufferNotEmpty ∷ StepRule NothingWaits
    ∷ TextGrammar ∷ TextLimit ∷ TextConstant ∷ []) n TableLength

refusal-back : (r : Refusal) → refusal_of (number_of r) ≡ r
unfolding refusal_of
refusal-back TableLength = refl
refusal-back TableKind = refl
refusal-back TableRange = refl
refusal-back TableUnused = refl
refusal-back InitialLate = refl
refusal-back CellTwice = refl
refusal-back Seventeenth = refl
refusal-back TraceLength = refl
refusal-back StepKind = refl
refusal-back StepField = refl
refusal-back (StepRule AnotherKind) = refl
refusal-back (StepRule NothingWaits) = refl
refusal-back (StepRule LockHeld) = refl
refusal-back (StepRule BufferNotEmpty) = refl
refusal-back (StepRule NotRight) = refl
refusal-back Unfinished = refl
refusal-back RoomTooSmall = refl
refusal-back TextGrammar = refl
refusal-back TextLimit = refl
refusal-back TextConstant = refl

-- a condition has its own number
pub one-condition : (c d : Condition) → condition_number c ≡ condition_number d → c ≡ d
one-condition c d h = let same : StepRule c ≡ StepRule d = sym (refusal-back (StepRule c)) ∙ ap refusal_of h ∙ refusal-back (StepRule d) in cc

pub not-zero : (r : Refusal) → ¬ (number_of r ≡ 0)
unfolding refusal_of
not-zero r h =
    let first : r ≡ TableLength = sym (refusal-back r) ∙ ap refusal_of h in
    let z : ◌≡◌ {A = ℕ} 1 0 = ap number_of (sym first) ∙ h in
    omega arith

pub one_answer : (a b : Answer) (room rest : List ℕ) → reply_of a room ≡ reply_of b rest → a ≡ b
one_answer (Ok i) (Ok j) room rest h = ap Ok (ap (λ (r : Reply). r.place) h)
one_answer (Ok i) (Err q) room rest h = absurd (not-zero q.why (sym (ap (λ (r : Reply). r.number) h)))
one_answer (Err p) (Ok j) room rest h = absurd (not-zero p.why (ap (λ (r : Reply). r.number) h))
one_answer (Err p) (Err q) room rest h =
    let same : p.why ≡ q.why = sym (refusal-back p.why) ∙ ap (λ (r : Reply). refusal_of r.number) h ∙ refusal-back q.why in
    λ k. Err (refusal_at (same k) (h k).place)

pub one-outcome : (q : Reply) (a b : Answer) (room rest : List ℕ) → reply_of a room ≡ q → reply_of b rest ≡ q → (a ≡ b) × (room ≡ rest)
one-outcome q a b room rest g h = let same = g ∙ sym h in (one_answer a b room rest same, sym (room_of a room) ∙ ap (λ (r : Reply). r.room) same ∙ room_of b rest)
  where
    room_of : (a : Answer) (room : List ℕ) → (reply_of a room).room ≡ room
    room_of (Ok i) room = refl
    room_of (Err r) room = refl
