use Rattle.litmus_said.specs.Values.{capped}
use Rattle.litmus_model.specs.Bytes.{value_from}
use lib.ListN.{drop}
use Prim.Native.Nat.{◌≤◌}
use mathlib.Core.Path.{◌≡◌}
use Rattle.litmus_said.proofs.value.value_of.Given as goal

-- the digits so far make v, and those that are left go on from it
abbrev pub invariant-loop-b : goal.invariant-loop-b
invariant-loop-b l = (capped (value_from 0 l.digits) ≡ capped (value_from l.v (drop l.b-index l.digits))) × (l.v ≤ 4294967296)
