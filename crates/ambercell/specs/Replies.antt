-- The reply that a C answer and the lent room make.
use Rattle.std.specs.Prelude.{◌≡◌, List, ℕ}
use Rattle.model.specs.Reply.{Reply, Answer, reply_of}
use Rattle.ambercell.specs.declared.CAnswer.{CAnswer}

abbrev pub reply_in : CAnswer → List ℕ → Reply
reply_in r room = record { number = r.number; place = r.place; room = room }

-- the same number and place, whatever the room
abbrev pub Tells : CAnswer → Answer → Type 0
Tells r answer = (room : List ℕ) → reply_in r room ≡ reply_of answer room
