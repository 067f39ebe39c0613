-- What the contracts of `check` and `finish` promise: an answer and a room that make the definition's reply meet the demands.
-- That no second answer and room make it is `one-outcome` in crates/model/proofs/Answers.antt.
use mathlib.Core.Path.{◌≡◌}
use mathlib.Core.List.{List}
use Prim.Native.Nat.{ℕ}
use Rattle.model.specs.Reply.{Answer, reply_of}
use Rattle.model.specs.Calls.{checked, completed}
use Rattle.model.specs.Promises.{CheckMeets, FinishMeets}
use Rattle.model.proofs.Demands.{check-meets}
use Rattle.model.proofs.Completed.{finish-meets}

module _ (table trace room : List ℕ) (answer : Answer) (after : List ℕ) where
  pub check-demands : reply_of answer after ≡ checked table trace room → CheckMeets table trace room (reply_of answer after)
  check-demands ensures = check-meets table trace room (reply_of answer after) ensures

  pub finish-demands : reply_of answer after ≡ completed table trace room → FinishMeets table trace room (reply_of answer after)
  finish-demands ensures = finish-meets table trace room (reply_of answer after) ensures
