use Rattle.std.proofs.Common.{◌≡◌, ◌+◌, ◌*◌, ◌≤◌, length}
use Rattle.text.specs.Text.{Adds}
use Rattle.text.specs.Reply.{processor_lines}
use Rattle.text.proofs.lines.put_processors.Given as goal

abbrev pub invariant-loop-p : goal.invariant-loop-p
invariant-loop-p l = record {
  adds : Adds l.initial.out l.at (processor_lines l.room l.p) l.out l.next;
  upper_bound : l.next ≤ l.at + 106 * l.p;
  same_length : length l.out ≡ length l.initial.out;
}
