use mathlib.Core.Path.{ap, ◌∙◌}
use Rattle.std.specs.Prelude.{ℕ}
use Rattle.machine_state.specs.State.{State}
use Rattle.machine_store.specs.Stores.{received_at, counted_in}
use Rattle.machine_read.proofs.Reading.{reached, when-held, when-right, when-not}
use Rattle.machine_read.proofs.read.read.Goals as goal

pub value-seen-requires : goal.value-seen-requires
value-seen-requires c = reached c.args.m.now c.args.i c.args.e c.requires.log _ c.origin-from.ensures

pub returns-then-held : goal.returns-then-held
returns-then-held c =
    when-held c.args.m.now c.args.i c.args.e c.requires.log _ c.origin-from.ensures _ c.value-seen.ensures _ c.blocked-held.ensures c.if-held.true

pub count-requires : goal.count-requires
count-requires c = rw c.receive.ensures c.requires.count

pub returns-then-not-right : goal.returns-then-not-right
returns-then-not-right c =
    when-not c.args.m.now c.args.i c.args.e c.requires.log _ c.origin-from.ensures _ c.value-seen.ensures _ c.blocked-held.ensures c.if-held.false
    c.if-not-right.true

pub returns : goal.returns
returns c =
    when-right c.args.m.now c.args.i c.args.e c.requires.log _ c.origin-from.ensures _ c.value-seen.ensures _ c.blocked-held.ensures c.if-held.false
    c.if-not-right.false _ (c.count.ensures ∙ ap (λ (s : State). counted_in s c.origin-from.result)
    (c.receive.ensures ∙ ap (λ (r : ℕ). received_at c.args.m.now c.args.i r c.args.e.value) c.register.ensures))
