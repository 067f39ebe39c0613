use mathlib.Core.Path.{◌≡◌}
use Rattle.record.specs.Words.{records_in}
use Rattle.table.proofs.Holding.{Holds}
use Rattle.table.proofs.Turns.{entries, all, onward}
use Rattle.litmus.proofs.readable.readable.Given as goal

-- program and cells hold what the records so far give, and those that are left give what all give
abbrev pub invariant-loop-i : goal.invariant-loop-i
invariant-loop-i l = Holds l.program l.cells l.given (entries (records_in l.words) l.i) × (onward (records_in l.words) l.i ≡ all (records_in l.words))
