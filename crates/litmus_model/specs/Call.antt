-- The reply to a litmus text and a lent room, as a function: what code is proved to do.
use Rattle.std.specs.Prelude.{List, [], ℕ, ◌*◌, length}
use Rattle.model.specs.declared.record.Record.{Record}
use Rattle.model.specs.Sizes.{record_size}
use Rattle.model.specs.Record.{file_of}
use Rattle.model.specs.Tests.{Tested, passed, and_then, in_order}
use Rattle.model.specs.Reading.{read_record}
use Rattle.model.specs.Reply.{Reply}
use Rattle.model.specs.Calls.{replied, written}
use Rattle.litmus_model.specs.Reader.{read_text}

-- records that make a readable table
unfoldable pub tabled : List Record → Tested (List Record)
unfolding and_then in_order read_record
tabled rs = and_then (in_order read_record 0 [] rs) (λ entries. passed rs)

unfoldable pub placed : List ℕ → List Record → Reply
unfolding written file_of
placed room rs = written (length rs) (record_size * length rs) (file_of rs) room

unfoldable pub imported : List ℕ → List ℕ → Reply
unfolding read_text and_then tabled replied placed
imported text room = replied room (and_then (read_text text) tabled) (placed room)
