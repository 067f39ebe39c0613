-- What is promised of the records of a text: the reply where they make a table, and go into a room.
use Rattle.std.specs.Prelude.{◌≡◌, List, [], ℕ}
use Rattle.model.specs.declared.record.Record.{Record}
use Rattle.model.specs.Lists.{All}
use Rattle.model.specs.Tests.{Tested, passed, and_then, in_order}
use Rattle.model.specs.Reading.{read_record}
use Rattle.model.specs.Reply.{Answer, reply_of}
use Rattle.model.specs.Calls.{replied}
use Rattle.model.proofs.Bytes.{Small}
use Rattle.litmus_model.specs.Call.{tabled, placed}
use Rattle.litmus_reader.specs.declared.records.Records.{Records}
use Rattle.litmus_reader.specs.Keeping.{Keeps}

-- records make a readable table, or are refused; what they give is left behind
abbrev pub judged : List Record → Tested (Unit {0})
judged rs = and_then (in_order read_record 0 [] rs) (λ entries. passed tt)

-- the first of so many records are kept: this answer and this room after it are those of all of them
pub record Tabled (kept : Records) (room : List ℕ) (out : Answer) (after : List ℕ) : Type 0 where
  pub each : (rs : List Record) → Keeps kept rs → All Small rs → reply_of out after ≡ replied room (tabled rs) (placed room)
