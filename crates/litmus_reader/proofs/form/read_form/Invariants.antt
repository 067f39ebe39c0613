use mathlib.Core.Path.{◌≡◌}
use Prim.Native.Nat.{◌≤◌, ◌<◌}
use lib.ListN.{length}
use Rattle.litmus_form.specs.Places.{mark_in}
use Rattle.litmus_reader.proofs.Cells.{Reading}
use Rattle.litmus_reader.proofs.form.read_form.Given as goal

abbrev pub invariant-loop-i : goal.invariant-loop-i
invariant-loop-i l =
    Reading l.text l.fn.at l.fn.place l.initial.letters l.letters l.alive l.r l.at l.i × (l.mark ≡ mark_in l.fn.place) × (l.i < 8) × (l.fn.at ≤ l.at) × (l.at ≤ length l.text) × (length l.alive ≡ 12)
