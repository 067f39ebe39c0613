use mathlib.Core.Path.{refl}
use Prim.Native.Nat.{◌<◌}
use native.Mathlib.Omega.{arith}
use lib.ListN.{length}
use Rattle.model.proofs.Raised.{raised}
use Rattle.record.specs.Words.{record_in, records_in}
use Rattle.table.proofs.Holding.{holds-none}
use Rattle.table.proofs.Turns.{ends, stops, holds_on, goes_on}
use Rattle.litmus.proofs.Judging.{many, record-in, judges-refused, judges-passed}
use Rattle.litmus.proofs.readable.readable.Goals as goal

pub loop-i-init : goal.loop-i-init
loop-i-init c = (rw (c.no_program-program.ensures, c.no_cells-cells.ensures, c.nothing-given.ensures) holds-none, refl)

pub returns-in_err-enter_record : goal.returns-in_err-enter_record
returns-in_err-enter_record c =
    let all = records_in c.args.words.now in
    rw (raised c.from_residual.result c.in_err-enter_record.field-0.0 c.from_residual.ensures.1)
    (judges-refused all _ _
    (stops all (record_in 0) (omega (arith, many c.args.words.now)) c.loop-i.invariant.0 c.loop-i.invariant.1 (record-in c.args.words.now c.loop-i.i _ c.unpacked.ensures) c.in_err-enter_record.ensures _ refl).0)

pub loop-i-preserved : goal.loop-i-preserved
loop-i-preserved c =
    let all = records_in c.args.words.now in
    let inside : c.loop-i.i < length (records_in c.args.words.now) = omega (arith, many c.args.words.now) in
    let same = record-in c.args.words.now c.loop-i.i _ c.unpacked.ensures in (
      holds_on all (record_in 0) inside c.loop-i.invariant.0 c.loop-i.invariant.1 same c.in_ok-enter_record.ensures refl,
      goes_on all (record_in 0) inside c.loop-i.invariant.0 c.loop-i.invariant.1 same c.in_ok-enter_record.ensures refl,
    )

pub returns : goal.returns
returns c =
    judges-passed (records_in c.args.words.now) _ (ends (records_in c.args.words.now) c.loop-i.i (omega (arith, many c.args.words.now)) c.loop-i.invariant.1)
