use Rattle.std.proofs.Common.{◌≡◌, ◌*◌, ◌≤◌, length}
use Rattle.model.specs.Record.{records_from}
use Rattle.text.specs.Text.{Adds}
use Rattle.text_steps.specs.Steps.{step_lines}
use Rattle.text_steps.proofs.steps.put_steps.Given as goal

abbrev pub invariant-loop-i : goal.invariant-loop-i
invariant-loop-i l = record {
  adds : Adds l.initial.out 0 (step_lines (records_from l.bytes 0 l.i)) l.out l.next;
  upper_bound : l.next ≤ l.i * 44;
  same_length : length l.out ≡ length l.initial.out;
}
