use mathlib.Core.Path.{◌≡◌}
use mathlib.Core.List.{◌++◌}
use lib.ListN.{drop}
use Rattle.case.specs.Words.{words_in}
use Rattle.case.proofs.words.read_words.Given as goal

-- The loop's invariant: the first i words are read, and the others are as they were.
abbrev pub invariant-loop-i : goal.invariant-loop-i
invariant-loop-i l = l.words ≡ words_in l.bytes l.i ++ drop l.i l.initial.words
