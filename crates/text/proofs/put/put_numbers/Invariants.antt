use Rattle.std.proofs.Common.{◌≡◌, ◌+◌, ◌*◌, ◌≤◌, length, take}
use Rattle.text.specs.Text.{Adds, spaced}
use Rattle.text.proofs.put.put_numbers.Given as goal

abbrev pub invariant-loop-n : goal.invariant-loop-n
invariant-loop-n l = record {
  adds : Adds l.initial.out l.at (spaced (take l.n-index l.numbers)) l.out l.next;
  upper_bound : l.next ≤ l.at + 21 * l.n-index;
  same_length : length l.out ≡ length l.initial.out;
}
