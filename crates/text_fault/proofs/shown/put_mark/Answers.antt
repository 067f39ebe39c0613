use Rattle.text.proofs.Adding.{then}
use Rattle.text_fault.specs.Shown.{mark_line}
use Rattle.text_fault.proofs.shown.put_mark.Goals as goal

pub returns-clause-adds : goal.returns-clause-adds
unfolding mark_line
returns-clause-adds c = then c.put_word-at.ensures.adds (then c.put_blanks-at.ensures.adds c.put_word.ensures.adds)
