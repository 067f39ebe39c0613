-- What can stand at a place of a litmus text, by the reply to a text that goes on so.
use Rattle.std.specs.Prelude.{Bool, not, ◌||◌, List, [], ◌∷◌, ◌++◌, ℕ, eqb, length}
use Rattle.model.specs.Reply.{Reply}
use Rattle.litmus_model.specs.Call.{imported}

-- the text is outside the grammar at no place before its end
abbrev pub goes_on : Reply → ℕ → Bool
goes_on q size = not (eqb q.number 19) || eqb q.place size

-- behind `before` and a blank
unfoldable pub can_stand : List ℕ → List ℕ → Bool
can_stand before sample = goes_on (imported (before ++ (32 ∷ sample)) []) (length (before ++ (32 ∷ sample)))
