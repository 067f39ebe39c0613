use Rattle.text.proofs.Adding.{then}
use Rattle.text_fault.proofs.shown.put_shown.Goals as goal

pub returns-clause-adds : goal.returns-clause-adds
returns-clause-adds c = then c.put_line-at.ensures.adds c.put_mark.ensures.adds
