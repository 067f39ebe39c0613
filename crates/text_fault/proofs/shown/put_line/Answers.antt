use Rattle.text.proofs.Adding.{then}
use Rattle.text_fault.specs.Shown.{shown_line}
use Rattle.text_fault.proofs.shown.put_line.Goals as goal

pub returns-clause-adds : goal.returns-clause-adds
unfolding shown_line
returns-clause-adds c = then (then c.put_word-at.ensures.adds c.put_signs-at.ensures.adds) c.put_byte.ensures.adds
