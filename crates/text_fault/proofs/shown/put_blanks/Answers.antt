use Rattle.std.proofs.Common.{rules, arith, ◌≡◌, ap}
use Rattle.text.proofs.Adding.{nothing, then, said}
use Rattle.text_fault.specs.Shown.{blanks}
use Rattle.text_fault.proofs.Placing.{one-more-blank}
use Rattle.text_fault.proofs.shown.put_blanks.Goals as goal

pub loop-i-init : goal.loop-i-init
unfolding blanks
loop-i-init c = record { adds = nothing c.args.out.now c.args.at (search rules); value = search rules }

pub loop-i-preserved : goal.loop-i-preserved
loop-i-preserved c =
    record { adds = said (then c.loop-i.invariant.adds c.put_byte-next.ensures.adds) (one-more-blank c.loop-i._i); value = omega arith }

pub returns-clause-adds : goal.returns-clause-adds
returns-clause-adds c =
    let all : c.loop-i._i ≡ c.args.n = omega arith in
    said c.loop-i.invariant.adds (ap blanks all)
