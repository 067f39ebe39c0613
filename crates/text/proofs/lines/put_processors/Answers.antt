use Rattle.std.proofs.Common.{rules}
use Rattle.text.specs.Reply.{processor_lines}
use Rattle.text.proofs.Adding.{nothing, then, said, one-more-processor}
use Rattle.text.proofs.lines.put_processors.Goals as goal

pub loop-p-init : goal.loop-p-init
unfolding processor_lines
loop-p-init c = record { adds = nothing c.args.out.now c.args.at (search rules); upper_bound = search rules; same_length = search rules }

pub loop-p-preserved : goal.loop-p-preserved
loop-p-preserved c = record {
  adds = said (then c.loop-p.invariant.adds c.put_processor-next.ensures.adds) (one-more-processor c.args.room.now c.loop-p.p);
  upper_bound = search rules;
  same_length = search rules;
}
