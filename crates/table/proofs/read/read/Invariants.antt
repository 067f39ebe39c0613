use mathlib.Core.Path.{◌≡◌}
use Rattle.model.specs.Record.{records}
use Rattle.table.proofs.Holding.{Holds}
use Rattle.table.proofs.Turns.{entries, all, onward}
use Rattle.table.proofs.read.read.Given as goal

-- Program and cells hold what the records so far give, and what is left of the table gives what the whole gives.
abbrev pub invariant-loop-i : goal.invariant-loop-i
invariant-loop-i l = Holds l.program l.cells l.given (entries (records l.table) l.i) × (onward (records l.table) l.i ≡ all (records l.table))
