-- What the contracts of the calls from C promise: an answer and a room that make the definition's reply meet the demands, a text gets one of
-- the replies of litmus_model's `Imports`, and there is no second outcome.
use mathlib.Core.Path.{◌≡◌, sym, ap, ◌∙◌}
use mathlib.Core.List.{List}
use Prim.Native.Nat.{ℕ}
use Rattle.model.specs.Reply.{Reply}
use Rattle.model.specs.Calls.{checked, completed}
use Rattle.model.specs.Promises.{CheckMeets, FinishMeets}
use Rattle.model.proofs.Demands.{check-meets}
use Rattle.model.proofs.Completed.{finish-meets}
use Rattle.litmus_model.specs.Imports.{Imports}
use Rattle.litmus_model.specs.Call.{imported}
use Rattle.litmus_model.proofs.Imports.{imports-exactly}
use Rattle.ambercell.specs.declared.CAnswer.{CAnswer}
use Rattle.ambercell.specs.Replies.{reply_in}

module _ (table trace room : List ℕ) (answer : CAnswer) (after : List ℕ) where
  pub check-demands-in-c : reply_in answer after ≡ checked table trace room → CheckMeets table trace room (reply_in answer after)
  check-demands-in-c ensures = check-meets table trace room (reply_in answer after) ensures

  pub finish-demands-in-c : reply_in answer after ≡ completed table trace room → FinishMeets table trace room (reply_in answer after)
  finish-demands-in-c ensures = finish-meets table trace room (reply_in answer after) ensures

pub litmus-imports-in-c : (text room : List ℕ) (answer : CAnswer) (after : List ℕ) → reply_in answer after ≡ imported text room → Imports text room (reply_in answer after)
litmus-imports-in-c text room answer after ensures = (imports-exactly text room (reply_in answer after)).0 (sym ensures)

-- ---- no second outcome

abbrev answer_in : Reply → CAnswer
answer_in q = record { number = q.number; place = q.place }

-- number, place and every word or byte of the room
pub one-outcome-in-c : (q : Reply) (a b : CAnswer) (room rest : List ℕ) → reply_in a room ≡ q → reply_in b rest ≡ q → (a ≡ b) × (room ≡ rest)
one-outcome-in-c q a b room rest g h = let same = g ∙ sym h in (ap answer_in same, ap (λ (r : Reply). r.room) same)
