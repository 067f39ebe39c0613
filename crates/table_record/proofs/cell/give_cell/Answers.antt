use Rattle.table_record.proofs.Entered.{is-late, is-again, is-given}
use Rattle.table_record.proofs.cell.give_cell.Goals as goal

pub returns-then-begun : goal.returns-then-begun
returns-then-begun c = rw c.at.ensures (is-late _ _ _ _ _ c.if-begun.true)

pub returns-then-given : goal.returns-then-given
returns-then-given c = rw c.at-then-given.ensures (is-again _ _ _ _ _ c.if-begun.false c.if-given.true)

pub returns : goal.returns
returns c = is-given _ _ _ _ _ c.if-begun.false c.if-given.false
