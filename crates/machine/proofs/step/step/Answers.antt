use mathlib.Core.Path.{sym, ◌∙◌}
use Rattle.model.proofs.Events.{low-processor}
use Rattle.machine.proofs.Taking.{can-drain, drains-it, at-the-end, below, known-kind, none-left, not-so, may-take, onwards, takes-it, turns-it}
use Rattle.machine.proofs.step.step.Goals as goal

-- ---- a drain

pub drain-requires : goal.drain-requires
drain-requires c = can-drain _ _ c.requires.0 c.args.e c.requires.1

pub returns-then-e-from : goal.returns-then-e-from
returns-then-e-from c = drains-it _ _ c.requires.0 c.args.e c.requires.1 (c.if-e-from.true ∙ c.from.ensures) _ _ c.drain.ensures

-- ---- a program step

pub returns-then-count-a : goal.returns-then-count-a
returns-then-count-a c =
    at-the-end _ _ c.requires.0 c.args.e c.requires.1 (λ z. c.if-e-from.false (z ∙ sym c.from.ensures)) (rw (← c.count.ensures) c.if-count-a.true)

pub instruction-i-requires : goal.instruction-i-requires
instruction-i-requires c =
    (low-processor c.args.e c.requires.1, below _ _ c.requires.0 c.args.e c.requires.1 (rw (← c.count.ensures) c.if-count-a.false))

pub next_step-requires : goal.next_step-requires
next_step-requires c = known-kind _ _ c.requires.0 c.args.e c.requires.1 (rw (← c.count.ensures) c.if-count-a.false) _ c.instruction-i.ensures

pub returns-in_default : goal.returns-in_default
returns-in_default c =
    none-left _ _ c.requires.0 c.args.e c.requires.1 (rw (← c.count.ensures) c.if-count-a.false) _ c.instruction-i.ensures
    (λ z. c.if-e-from.false (z ∙ sym c.from.ensures)) (sym c.in_default.is ∙ c.next_step.ensures)

pub returns-then-from-e : goal.returns-then-from-e
returns-then-from-e c =
    not-so _ _ c.requires.0 c.args.e c.requires.1 (rw (← c.count.ensures) c.if-count-a.false) _ c.instruction-i.ensures
    (λ z. c.if-e-from.false (z ∙ sym c.from.ensures)) c.in-Some.next (sym c.in-Some.is ∙ c.next_step.ensures) (λ z. c.if-from-e.true (c.from-2.ensures ∙ z))

pub take_next-requires : goal.take_next-requires
take_next-requires c =
    may-take _ _ c.requires.0 c.args.e c.requires.1 (rw (← c.count.ensures) c.if-count-a.false) _ c.instruction-i.ensures
    (λ z. c.if-e-from.false (z ∙ sym c.from.ensures)) c.in-Some.next (sym c.in-Some.is ∙ c.next_step.ensures) (sym c.from-2.ensures ∙ c.if-from-e.false)

pub returns-in-Err : goal.returns-in-Err
returns-in-Err c =
    turns-it _ _ c.requires.0 c.args.e c.requires.1 (rw (← c.count.ensures) c.if-count-a.false) _ c.instruction-i.ensures
    (λ z. c.if-e-from.false (z ∙ sym c.from.ensures)) c.in-Some.next (sym c.in-Some.is ∙ c.next_step.ensures) (sym c.from-2.ensures ∙ c.if-from-e.false) _ _
    c.take_next.ensures _ c.in-Err.is

pub advance-requires : goal.advance-requires
advance-requires c =
    onwards _ _ c.requires.0 c.args.e c.requires.1 (rw (← c.count.ensures) c.if-count-a.false) _ c.instruction-i.ensures
    (λ z. c.if-e-from.false (z ∙ sym c.from.ensures)) c.in-Some.next (sym c.in-Some.is ∙ c.next_step.ensures) (sym c.from-2.ensures ∙ c.if-from-e.false) _ _ c.take_next.ensures

pub returns-in-Ok : goal.returns-in-Ok
returns-in-Ok c =
    takes-it _ _ c.requires.0 c.args.e c.requires.1 (rw (← c.count.ensures) c.if-count-a.false) _ c.instruction-i.ensures
    (λ z. c.if-e-from.false (z ∙ sym c.from.ensures)) c.in-Some.next (sym c.in-Some.is ∙ c.next_step.ensures) (sym c.from-2.ensures ∙ c.if-from-e.false) _ _ c.take_next.ensures c.in-Ok.is _ c.advance.ensures
