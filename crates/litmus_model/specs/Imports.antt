-- All that a caller gets from reading a litmus text: number, place, and the lent room afterwards (document 02, order 2).
use Rattle.std.specs.Prelude.{List, [], ◌∷◌, ◌++◌, ℕ, ◌*◌, ◌≤◌, ◌<◌, length, drop}
use Rattle.model.specs.declared.record.Record.{Record}
use Rattle.model.specs.Sizes.{record_size}
use Rattle.model.specs.Record.{file_of}
use Rattle.model.specs.Kinds.{Entry}
use Rattle.model.specs.Table.{Refuses, Reads}
use Rattle.model.specs.Tests.{passed, refused}
use Rattle.model.specs.Reply.{Reply, done, refuse}
use Rattle.litmus_model.specs.Answers.{Gives}

pub data Imports (text room : List ℕ) : Reply → Type 0 where
  -- 19, 20, 21
  text_refused : {n i : ℕ} → Gives text (refused n i) → Imports text room (refuse n i room)
  -- then document 01's table numbers
  table_refused : {n : ℕ} {r : Record} (entries : List Entry) (before after : List Record)
      → Gives text (passed (before ++ r ∷ after)) → Reads [] before entries → Refuses entries r n
      → Imports text room (refuse n (length before) room)
  too_small : (entries : List Entry) (rs : List Record)
      → Gives text (passed rs) → Reads [] rs entries → length room < record_size * length rs
      → Imports text room (refuse 13 (record_size * length rs) room)
  imported : (entries : List Entry) (rs : List Record)
      → Gives text (passed rs) → Reads [] rs entries → record_size * length rs ≤ length room
      → Imports text room (done (length rs) (file_of rs ++ drop (record_size * length rs) room))
