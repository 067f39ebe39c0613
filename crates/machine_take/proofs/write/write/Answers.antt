use mathlib.Core.Path.{refl, ap, ◌∙◌}
use Rattle.model.specs.Rules.{conditions}
use Rattle.model.specs.Step.{first_met}
use Rattle.machine_state.specs.State.{State}
use Rattle.machine_store.specs.Stores.{exchanged_in, issued_in}
use Rattle.machine_take.proofs.write.write.Goals as goal

pub returns-then-not-right : goal.returns-then-not-right
unfolding first_met conditions
returns-then-not-right c = record { says = rw (← c.register-c.ensures, ← c.issued_by-issued.ensures, c.if-not-right.true); after = refl }

pub returns : goal.returns
unfolding first_met conditions
returns c =
    record {
      says = rw (← c.register-c.ensures, ← c.issued_by-issued.ensures, c.if-not-right.false);
      after = c.issue.ensures ∙ ap (λ (s : State). issued_in s c.args.i c.args.e) (c.exchange.ensures ∙ ap (exchanged_in c.args.m.now c.args.i) c.register-c.ensures);
    }
