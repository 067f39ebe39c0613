use Rattle.std.proofs.Common.{ap, rules}
use Rattle.text.specs.Text.{decimal, spaced}
use Rattle.text.proofs.Adding.{nothing, then, said, one-more-number}
use Rattle.text.proofs.put.put_numbers.Goals as goal

pub loop-n-init : goal.loop-n-init
unfolding spaced
loop-n-init c = record { adds = nothing c.args.out.now c.args.at (search rules); upper_bound = search rules; same_length = search rules }

pub loop-n-preserved : goal.loop-n-preserved
loop-n-preserved c = record {
  adds =
      let n = said c.put_number-next.ensures.adds (ap decimal c.from.ensures) in
      said (then c.loop-n.invariant.adds (then c.put_byte-next.ensures.adds n)) (one-more-number c.args.numbers.now c.loop-n.n-index (search rules));
  upper_bound = search rules;
  same_length = search rules;
}
