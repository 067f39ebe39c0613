use mathlib.Core.Path.{◌≡◌}
use lib.ListN.{length}
use borrow.Author.Rules.{rules}
use Rattle.model.proofs.Raised.{raised}
use Rattle.litmus.proofs.Tabling.{refused-table, room-too-small, room-filled}
use Rattle.litmus.proofs.records.tabled.Goals as goal

pub returns-in_err-readable : goal.returns-in_err-readable
returns-in_err-readable c =
    let long : length c.args.records.now.words ≡ 89 = search rules in
    rw (raised c.from_residual.result c.in_err-readable.field-0.0 c.from_residual.ensures.1) (refused-table c.args.records.now _ long c.min-k.ensures _ _ c.readable.ensures _ c.in_err-readable.was)

pub returns-then-room-end : goal.returns-then-room-end
returns-then-room-end c =
    let long : length c.args.records.now.words ≡ 89 = search rules in
    rw c.at.ensures (room-too-small c.args.records.now _ long c.min-k.ensures _ _ c.readable.ensures c.in_ok-readable.was c.if-room-end.true)

pub returns : goal.returns
returns c =
    let long : length c.args.records.now.words ≡ 89 = search rules in
    room-filled c.args.records.now _ long c.min-k.ensures _ _ c.readable.ensures c.in_ok-readable.was c.if-room-end.false _ c.write_records.ensures
