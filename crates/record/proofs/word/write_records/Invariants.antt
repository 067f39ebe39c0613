use mathlib.Core.Path.{◌≡◌}
use mathlib.Core.List.{◌++◌}
use Prim.Native.Nat.{◌*◌}
use lib.ListN.{take, drop}
use Rattle.model.specs.Sizes.{record_size}
use Rattle.model.specs.Record.{file_of}
use Rattle.record.specs.Words.{records_in}
use Rattle.record.proofs.word.write_records.Given as goal

-- The loop's invariant: the first i records are written, and the rest is as it was.
abbrev pub invariant-loop-i : goal.invariant-loop-i
invariant-loop-i l = l.room ≡ file_of (records_in (take l.i l.words)) ++ drop (l.i * record_size) l.initial.room
