use Rattle.std.proofs.Common.{rules, arith, ap, zero-add}
use Rattle.text.proofs.Adding.{nothing, then, said}
use Rattle.text_fault.specs.Shown.{signs}
use Rattle.text_fault.proofs.Placing.{one-more-sign}
use Rattle.text_fault.proofs.shown.put_signs.Goals as goal

pub loop-b-init : goal.loop-b-init
unfolding signs
loop-b-init c = record { adds = nothing c.args.out.now c.args.at (search rules); value = search rules }

pub loop-b-preserved : goal.loop-b-preserved
loop-b-preserved c =
    let more = simp zero-add at (one-more-sign c.args.shown.now 0 c.loop-b.b-index) in
    record { adds = said (then c.loop-b.invariant.adds c.put_byte-next.ensures.adds) (rw c.sign.ensures more); value = omega arith }

pub returns-clause-adds : goal.returns-clause-adds
returns-clause-adds c = said c.loop-b.invariant.adds (ap (signs c.args.shown.now 0) (omega arith))
