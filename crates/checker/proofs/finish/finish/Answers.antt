use Rattle.model.specs.Reply.{reply_of}
use Rattle.checker.proofs.Results.{finishes, underway}
use Rattle.checker.proofs.finish.finish.Goals as goal

pub finish_in_place-requires : goal.finish_in_place-requires
finish_in_place-requires c =
    underway c.args.table.now c.args.trace.now c.read_in_place-read.result c.read_in_place-read.new.program c.read_in_place-read.new.m
    c.read_in_place-read.ensures c.follow_in_place-end.result c.follow_in_place-end.new.m c.follow_in_place-end.ensures

pub returns : goal.returns
returns c =
    finishes c.args.table.now c.args.trace.now c.read_in_place-read.result c.read_in_place-read.new.program c.read_in_place-read.new.m
    c.read_in_place-read.ensures c.follow_in_place-end.result c.follow_in_place-end.new.m c.follow_in_place-end.ensures c.args.room.now
    (reply_of c.finish_in_place.result c.finish_in_place.new.room) c.finish_in_place.ensures
