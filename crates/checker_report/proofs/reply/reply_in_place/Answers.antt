use Rattle.model.proofs.Raised.{raised}
use Rattle.checker_report.proofs.Replying.{refused-already, unfinished, too_small, reports}
use Rattle.checker_report.proofs.reply.reply_in_place.Goals as goal

pub returns-in_err-end : goal.returns-in_err-end
returns-in_err-end c =
    rw (raised c.from_residual.result c.in_err-end.field-0.0 c.from_residual.ensures.1)
    (refused-already c.args.program.now c.args.m.now c.requires c.args.end c.args.trace.now c.args.room.now c.in_err-end.field-0.0 c.in_err-end.was)

pub returns-then-not-is_finished : goal.returns-then-not-is_finished
returns-then-not-is_finished c =
    rw c.at.ensures
    (unfinished c.args.program.now c.args.m.now c.requires c.args.end c.args.trace.now c.args.room.now c.in_ok-end.was c.is_finished.result c.is_finished.ensures c.if-not-is_finished.true)

pub returns-then-room-lt-RESULT : goal.returns-then-room-lt-RESULT
returns-then-room-lt-RESULT c =
    rw c.at-then-room-lt-RESULT.ensures
    (too_small c.args.program.now c.args.m.now c.requires c.args.end c.args.trace.now c.args.room.now c.in_ok-end.was c.is_finished.result c.is_finished.ensures c.if-not-is_finished.false c.if-room-lt-RESULT.true)

pub returns : goal.returns
returns c =
    rw (c.copy_from_slice.ensures.after, c.copy_from_slice-2.ensures.after)
    (reports c.args.program.now c.args.m.now c.requires c.args.end c.args.trace.now c.args.room.now c.in_ok-end.was c.is_finished.result c.is_finished.ensures c.if-not-is_finished.false c.if-room-lt-RESULT.false)
