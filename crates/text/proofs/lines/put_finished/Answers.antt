use Rattle.text.specs.Reply.{finished_line}
use Rattle.text.proofs.Adding.{then}
use Rattle.text.proofs.lines.put_finished.Goals as goal

pub returns-clause-adds : goal.returns-clause-adds
unfolding finished_line
returns-clause-adds c = then (then c.put_word-at.ensures.adds c.put_number-at.ensures.adds) c.put_byte.ensures.adds
