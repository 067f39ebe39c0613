use mathlib.Core.Path.{refl, sym, ◌∙◌}
use Rattle.model.specs.Rules.{conditions}
use Rattle.model.specs.Step.{first_met}
use Rattle.machine_take.proofs.hold.lock.Goals as goal

pub returns-then-blocked : goal.returns-then-blocked
unfolding first_met conditions
returns-then-blocked c = record { says = rw (sym c.blocked.ensures ∙ c.if-blocked.true); after = refl }

pub returns-then-not-is_empty : goal.returns-then-not-is_empty
unfolding first_met conditions
returns-then-not-is_empty c = record { says = rw (sym c.blocked.ensures ∙ c.if-blocked.false, sym c.is_empty.ensures ∙ c.if-not-is_empty.true); after = refl }

pub returns : goal.returns
unfolding first_met conditions
returns c = record { says = rw (sym c.blocked.ensures ∙ c.if-blocked.false, sym c.is_empty.ensures ∙ c.if-not-is_empty.false); after = refl }
