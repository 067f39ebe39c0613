-- What answering a case does to its room, and to the words in which a check has it.
use Rattle.std.specs.Prelude.{◌≡◌, List, ◌++◌, ℕ, ◌*◌, length, drop}
use Rattle.model.specs.Calls.{checked, completed}
use Rattle.model.specs.Sizes.{word_size}
use Rattle.litmus_model.specs.Call.{imported}
use Rattle.ambercell.specs.declared.CAnswer.{CAnswer}
use Rattle.ambercell.specs.Replies.{reply_in}
use Rattle.case.specs.Words.{words_in, bytes_in}

module _ (table trace room words : List ℕ) (answer : CAnswer) (room' words' : List ℕ) where
  -- the whole words of the room are checked in; bytes behind them are kept
  pub record Checks : Type 0 where
    pub reply : reply_in answer words' ≡ checked table trace (words_in room (length words))
    pub written : room' ≡ bytes_in words' ++ drop (length words * word_size) room

  -- a finish is in the room's bytes, and leaves the words as they were
  pub record Finishes : Type 0 where
    pub reply : reply_in answer room' ≡ completed table trace room
    pub unchanged : words' ≡ words

  -- a litmus text, in the table's place, is read into the room's bytes
  pub record Imports : Type 0 where
    pub reply : reply_in answer room' ≡ imported table room
    pub unchanged : words' ≡ words

abbrev pub Answers : ℕ → ℕ → ℕ → List ℕ → List ℕ → List ℕ → List ℕ → CAnswer → List ℕ → List ℕ → Type 0
Answers finish litmus call table trace room words answer room' words' =
    (call ≡ finish → Finishes table trace room words answer room' words') × (call ≡ litmus → Imports table trace room words answer room' words')
    × (¬ (call ≡ finish) → ¬ (call ≡ litmus) → Checks table trace room words answer room' words')
