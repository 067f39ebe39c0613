use mathlib.Core.Path.{refl, ◌∙◌}
use mathlib.Core.List.{[]}
use native.Mathlib.Omega.{arith}
use lib.ListN.{length}
use Prim.Native.Nat.{◌<◌}
use Rattle.model.specs.declared.record.Record.{Record}
use Rattle.model.specs.Record.{record_at, records}
use Rattle.model.proofs.Bytes.{length-records}
use Rattle.model.proofs.Raised.{raised}
use Rattle.table.proofs.Holding.{holds-none}
use Rattle.table.proofs.Turns.{ends, stops, holds_on, goes_on}
use Rattle.table.proofs.Files.{record-in, odd, records-refused, records-passed}
use Rattle.table.proofs.read.read.Goals as goal

-- would be read where there is none
none : Record
none = record_at [] 0

pub returns-then-table-ne0 : goal.returns-then-table-ne0
returns-then-table-ne0 c = rw c.at.ensures (odd c.args.table.now _ _ c.requires c.if-table-ne0.true)

pub loop-i-init : goal.loop-i-init
loop-i-init c = (rw (c.requires.0, c.requires.1, c.nothing-given.ensures) holds-none, refl)

pub returns-in_err-enter_record : goal.returns-in_err-enter_record
returns-in_err-enter_record c =
    rw (raised c.from_residual.result c.in_err-enter_record.field-0.0 c.from_residual.ensures.1)
    (records-refused c.args.table.now c.if-table-ne0.false _
    (stops (records c.args.table.now) none (omega (arith, length-records c.args.table.now)) c.loop-i.invariant.0 c.loop-i.invariant.1
    (c.read_record-r.ensures ∙ record-in c.args.table.now c.loop-i.i none (omega arith)) c.in_err-enter_record.ensures _ refl))

pub loop-i-preserved : goal.loop-i-preserved
loop-i-preserved c =
    let inside : c.loop-i.i < length (records c.args.table.now) = omega (arith, length-records c.args.table.now) in
    let same = c.read_record-r.ensures ∙ record-in c.args.table.now c.loop-i.i none (omega arith) in (
      holds_on (records c.args.table.now) none inside c.loop-i.invariant.0 c.loop-i.invariant.1 same c.in_ok-enter_record.ensures refl,
      goes_on (records c.args.table.now) none inside c.loop-i.invariant.0 c.loop-i.invariant.1 same c.in_ok-enter_record.ensures refl,
    )

pub returns : goal.returns
returns c =
    records-passed c.args.table.now c.if-table-ne0.false _ _ c.loop-i.invariant.0
    (ends (records c.args.table.now) c.loop-i.i (omega (arith, length-records c.args.table.now)) c.loop-i.invariant.1)
