use mathlib.Core.Path.{sym, subst}
use Rattle.model.specs.Code.{Verdict}
use Rattle.model.proofs.Raised.{raised}
use Rattle.table_record.specs.Enter.{Enters}
use Rattle.table_record.proofs.Entered.{is-malformed, is-formed, then-entered}
use Rattle.table_record.proofs.enter.enter_record.Goals as goal

pub enter_formed-requires : goal.enter_formed-requires
enter_formed-requires c = is-formed _ _ _ c.malformed.ensures c.in_ok-malformed.was

pub returns-in_err-malformed : goal.returns-in_err-malformed
returns-in_err-malformed c =
    rw (raised c.from_residual.result c.in_err-malformed.field-0.0 c.from_residual.ensures.1)
    (is-malformed _ _ _ _ _ _ c.malformed.ensures _ c.in_err-malformed.was)

pub returns : goal.returns
returns c = then-entered _ _ _ _ _ _ c.malformed.ensures c.in_ok-malformed.was _ _ _ _ c.enter_formed.ensures
