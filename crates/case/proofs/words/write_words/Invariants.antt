use mathlib.Core.Path.{◌≡◌}
use mathlib.Core.List.{◌++◌}
use Prim.Native.Nat.{◌*◌}
use lib.ListN.{take, drop}
use Rattle.model.specs.Sizes.{word_size}
use Rattle.case.specs.Words.{bytes_in}
use Rattle.case.proofs.words.write_words.Given as goal

-- The loop's invariant: the first i words are written, and the rest is as it was.
abbrev pub invariant-loop-i : goal.invariant-loop-i
invariant-loop-i l = l.bytes ≡ bytes_in (take l.i l.words) ++ drop (l.i * word_size) l.initial.bytes
