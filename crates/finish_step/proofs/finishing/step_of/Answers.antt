use mathlib.Core.Path.{sym, ◌∙◌}
use Rattle.finish_step.proofs.Moving.{can-drain, drains-it, below, known-kind, some-next, may-carry-out, onwards, carries-it}
use Rattle.finish_step.proofs.finishing.step_of.Goals as goal

pub drain_oldest-requires : goal.drain_oldest-requires
drain_oldest-requires c = can-drain _ _ _ c.requires c.if-m-p.true

pub returns-then-m-p : goal.returns-then-m-p
returns-then-m-p c = drains-it _ _ _ c.requires c.if-m-p.true _ _ c.drain_oldest.ensures

pub instruction-i-requires : goal.instruction-i-requires
instruction-i-requires c = (c.requires.low, below _ _ _ c.requires c.if-m-p.false)

pub next_step-requires : goal.next_step-requires
next_step-requires c = known-kind _ _ _ c.requires c.if-m-p.false _ c.instruction-i.ensures

pub unreachable-requires : goal.unreachable-requires
unreachable-requires c =
    some-next _ _ _ c.requires c.if-m-p.false _ c.instruction-i.ensures (sym c.in_default.is ∙ c.next_step.ensures)

pub carry_out-e-requires : goal.carry_out-e-requires
carry_out-e-requires c =
    may-carry-out _ _ _ c.requires c.if-m-p.false _ c.instruction-i.ensures c.in-Some.next (sym c.in-Some.is ∙ c.next_step.ensures)

pub advance-requires : goal.advance-requires
advance-requires c =
    onwards _ _ _ c.requires c.if-m-p.false _ c.instruction-i.ensures c.in-Some.next (sym c.in-Some.is ∙ c.next_step.ensures) _ _ c.carry_out-e.ensures

pub returns : goal.returns
returns c =
    rw c.advance.ensures
    (carries-it _ _ _ c.requires c.if-m-p.false _ c.instruction-i.ensures c.in-Some.next (sym c.in-Some.is ∙ c.next_step.ensures) _ _ c.carry_out-e.ensures)
