use Rattle.model.specs.Reply.{reply_of}
use Rattle.checker.proofs.Results.{checks}
use Rattle.checker.proofs.check.check.Goals as goal

pub returns : goal.returns
returns c =
    checks c.args.table.now c.args.trace.now c.read_in_place-read.result c.read_in_place-read.new.program c.read_in_place-read.new.m
    c.read_in_place-read.ensures c.follow_in_place-end.result c.follow_in_place-end.new.m c.follow_in_place-end.ensures c.args.room.now
    (reply_of c.reply_in_place.result c.reply_in_place.new.room) c.reply_in_place.ensures
