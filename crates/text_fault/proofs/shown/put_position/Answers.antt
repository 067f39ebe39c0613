use Rattle.text.proofs.Adding.{then}
use Rattle.text_fault.specs.Shown.{position_words}
use Rattle.text_fault.proofs.shown.put_position.Goals as goal

pub returns-clause-adds : goal.returns-clause-adds
unfolding position_words
returns-clause-adds c =
    then (then c.put_word-at.ensures.adds (then c.put_number-at.ensures.adds (then c.put_word-at-2.ensures.adds c.put_number-at-2.ensures.adds))) c.put_byte.ensures.adds
