use Rattle.text.proofs.Adding.{then}
use Rattle.text_fault.specs.Shown.{fault_line}
use Rattle.text_fault.proofs.shown.put_first.Goals as goal

pub returns-clause-adds : goal.returns-clause-adds
unfolding fault_line
returns-clause-adds c =
    then c.put_word-at.ensures.adds (then c.put_number-at.ensures.adds (then c.put_word-at-2.ensures.adds (then c.put_number-at-2.ensures.adds c.put_position.ensures.adds)))
