use Rattle.std.proofs.Common.{rules}
use Rattle.machine_rules.proofs.Table.{in_rows}
use Rattle.finish_left.proofs.Weights.{small, goes_on, ends, begins}
use Rattle.finish_left.proofs.left.program_left.Goals as goal

pub loop-a-init : goal.loop-a-init
loop-a-init c = begins _ _ _ _ _ c.requires

pub instruction_left-k-requires : goal.instruction_left-k-requires
instruction_left-k-requires c = rw c.kind.ensures (in_rows (c.requires.each c.loop-a.a (rw (← c.count-a-end.ensures) c.loop-a-test.true)).0)

pub overflow_add-k : goal.overflow_add-k
overflow_add-k c =
    let few = small _ _ _ _ _ c.requires.few _ _ _ c.loop-a.invariant (rw (← c.count-a-end.ensures) c.loop-a-test.true) _ (rw c.kind.ensures at c.instruction_left-k.ensures) in
    search rules

pub loop-a-preserved : goal.loop-a-preserved
loop-a-preserved c =
    goes_on _ _ _ _ _ c.requires.few _ _ _ c.loop-a.invariant (rw (← c.count-a-end.ensures) c.loop-a-test.true) _ (rw c.kind.ensures at c.instruction_left-k.ensures)

pub returns : goal.returns
returns c = ends _ _ _ _ _ c.requires.few _ _ _ c.loop-a.invariant (rw (← c.count-a-end.ensures) c.loop-a-test.false)
