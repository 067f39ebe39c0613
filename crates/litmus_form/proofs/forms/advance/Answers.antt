use native.Mathlib.Omega.{arith}
use borrow.Author.Rules.{rules}
use mathlib.Core.Bool.{false}
use Rattle.std.proofs.lemmas.List.Edits.{fill_by_more}
use Rattle.litmus_form.specs.Flags.{alive_on}
use Rattle.litmus_form.proofs.forms.advance.Goals as goal

pub loop-j-preserved : goal.loop-j-preserved
unfolding alive_on
loop-j-preserved c =
    (search rules, rw c.stays.ensures (fill_by_more (alive_on c.args.alive c.args.mark c.args.at c.args.t.now) c.loop-j.next c.loop-j.j false (omega arith) c.loop-j.invariant.1))
