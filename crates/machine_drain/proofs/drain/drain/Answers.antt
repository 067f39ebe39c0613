use mathlib.Core.Path.{refl, sym, ◌∙◌}
use borrow.Author.Tests.{eq-eqb, ne_eqb}
use Rattle.model.specs.Rules.{conditions}
use Rattle.model.specs.Step.{first_met}
use Rattle.machine_drain.proofs.drain.drain.Goals as goal

pub returns-then-d-n : goal.returns-then-d-n
unfolding first_met conditions
returns-then-d-n c = record { says = rw (eq-eqb _ _ c.if-d-n.true); after = refl }

pub returns-then-held : goal.returns-then-held
unfolding first_met conditions
returns-then-held c = record { says = rw (ne_eqb _ _ c.if-d-n.false, sym c.blocked-held.ensures ∙ c.if-held.true); after = refl }

pub returns-then-not-right : goal.returns-then-not-right
unfolding first_met conditions
returns-then-not-right c =
    record { says = rw (ne_eqb _ _ c.if-d-n.false, sym c.blocked-held.ensures ∙ c.if-held.false, c.if-not-right.true); after = refl }

pub returns : goal.returns
unfolding first_met conditions
returns c =
    record { says = rw (ne_eqb _ _ c.if-d-n.false, sym c.blocked-held.ensures ∙ c.if-held.false, c.if-not-right.false); after = c.drain.ensures }
