use Rattle.std.proofs.Common.{rules, ◌≡◌}
use Rattle.machine_rules.specs.Steps.{next_step}
use Rattle.finish_left.proofs.Weights.{fits, past, weighed, weigh, weighs}
use Rattle.finish_left.proofs.left.instruction_left.Goals as goal

weight-is : (c : goal.After-map_or-k) → c.map_or-k.result ≡ weigh (next_step c.args.kind c.loop-next.next)
weight-is c = rw (← c.next_step.ensures) (weighs c.next_step.result c.map_or-k.result (search rules))

pub overflow_add-k : goal.overflow_add-k
overflow_add-k c = let few = fits _ _ _ _ c.loop-next.invariant _ (weight-is c) in search rules

pub loop-next-preserved : goal.loop-next-preserved
loop-next-preserved c = past _ _ _ _ c.loop-next.invariant _ (weight-is c)

pub returns : goal.returns
returns c = weighed _ _ _ _ c.loop-next.invariant c.loop-next-test.false
