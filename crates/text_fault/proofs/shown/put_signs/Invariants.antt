use Rattle.std.proofs.Common.{◌≡◌, ◌+◌}
use Rattle.text.specs.Text.{Adds}
use Rattle.text_fault.specs.Shown.{signs}
use Rattle.text_fault.proofs.shown.put_signs.Given as goal

-- The signs of the bytes that were gone over stand behind what stood there.
abbrev pub invariant-loop-b : goal.invariant-loop-b
invariant-loop-b l = record {
  adds : Adds l.initial.out l.at (signs l.shown 0 l.b-index) l.out l.next;
  value : l.next ≡ l.at + l.b-index;
}
