use native.Mathlib.Omega.{arith}
use borrow.Author.Rules.{rules}
use mathlib.Core.Path.{◌≡◌}
use lib.ListN.{length}
use Rattle.litmus_reader.proofs.Kept.{keeps-full, keeps-room}
use Rattle.litmus_reader.proofs.records.Records.keep.Goals as goal

pub returns-then-n-ge-MOST : goal.returns-then-n-ge-MOST
returns-then-n-ge-MOST c =
    let long : length c.args.self.now.words ≡ 89 = search rules in
    (keeps-full c.args.self.now c.args.r long c.if-r-eq0.false c.if-n-ge-MOST.true, omega arith)

pub returns : goal.returns
returns c =
    let long : length c.args.self.now.words ≡ 89 = search rules in
    (keeps-room c.args.self.now _ c.args.r long c.packed.ensures c.if-r-eq0.false c.if-n-ge-MOST.false, omega arith)
