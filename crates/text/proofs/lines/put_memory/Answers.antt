use Rattle.text.specs.Reply.{memory_line}
use Rattle.text.proofs.Adding.{then}
use Rattle.text.proofs.lines.put_memory.Goals as goal

pub returns-clause-adds : goal.returns-clause-adds
unfolding memory_line
returns-clause-adds c = then (then c.put_byte-at.ensures.adds c.put_numbers-at.ensures.adds) c.put_byte.ensures.adds
