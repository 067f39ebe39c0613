use Rattle.std.proofs.Common.{ap}
use Rattle.text.specs.Text.{decimal}
use Rattle.text.specs.Reply.{own_line}
use Rattle.text.proofs.Adding.{then, said}
use Rattle.text.proofs.lines.put_own.Goals as goal

pub returns-clause-adds : goal.returns-clause-adds
unfolding own_line
returns-clause-adds c =
    let n = said c.put_number-at.ensures.adds (ap decimal c.from.ensures) in then (then c.put_word-at.ensures.adds n) c.put_byte.ensures.adds
