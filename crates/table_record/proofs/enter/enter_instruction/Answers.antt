use Rattle.table_record.proofs.Entered.{is-crowded, is-entered}
use Rattle.table_record.proofs.enter.enter_instruction.Goals as goal

pub returns-then-n-ge-INSTRUCTIONS : goal.returns-then-n-ge-INSTRUCTIONS
returns-then-n-ge-INSTRUCTIONS c =
    rw c.at.ensures (is-crowded c.args.program.now c.args.begun.now c.args.i c.args.r (rw c.count-n.ensures at c.if-n-ge-INSTRUCTIONS.true))

pub returns : goal.returns
returns c =
    let room = rw c.count-n.ensures at c.if-n-ge-INSTRUCTIONS.false in
    rw (c.count-n.ensures) (is-entered c.args.program.now c.args.begun.now c.args.i c.args.r room)
