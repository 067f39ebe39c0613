use Rattle.std.proofs.Common.{◌≡◌, ◌+◌}
use Rattle.text.specs.Text.{Adds}
use Rattle.text_fault.specs.Shown.{blanks}
use Rattle.text_fault.proofs.shown.put_blanks.Given as goal

-- The first so many blanks stand behind what stood there.
abbrev pub invariant-loop-i : goal.invariant-loop-i
invariant-loop-i l = record {
  adds : Adds l.initial.out l.at (blanks l._i) l.out l.next;
  value : l.next ≡ l.at + l._i;
}
