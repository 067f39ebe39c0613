use Rattle.record.proofs.Tests.{too-large-is, not-zero-is}
use Rattle.model.proofs.Verdicts.{met, past, none_left}
use Rattle.model.proofs.Fields.{known-test}
use Rattle.model.specs.Kinds.{table_uses}
use mathlib.Core.Path.{refl, ◌∙◌}
use Rattle.table_record.proofs.form.tested.Goals as goal

pub returns-then-too_large : goal.returns-then-too_large
returns-then-too_large c =
    rw c.at.ensures
    (past _ _ _ _ _ _ refl ((known-test table_uses c.args.r).1 c.requires.0)
    (met _ _ _ _ _ (c.too_large.ensures ∙ too-large-is table_uses c.args.r _ c.requires.1) c.if-too_large.true))

pub returns-then-not_zero : goal.returns-then-not_zero
returns-then-not_zero c =
    rw c.at-then-not_zero.ensures
    (past _ _ _ _ _ _ refl ((known-test table_uses c.args.r).1 c.requires.0)
    (past _ _ _ _ _ _ (c.too_large.ensures ∙ too-large-is table_uses c.args.r _ c.requires.1) c.if-too_large.false
    (met _ _ _ _ _ (c.not_zero.ensures ∙ not-zero-is table_uses c.args.r _ c.requires.1) c.if-not_zero.true)))

pub returns : goal.returns
returns c =
    past _ _ _ _ _ _ refl ((known-test table_uses c.args.r).1 c.requires.0)
    (past _ _ _ _ _ _ (c.too_large.ensures ∙ too-large-is table_uses c.args.r _ c.requires.1) c.if-too_large.false
    (past _ _ _ _ _ _ (c.not_zero.ensures ∙ not-zero-is table_uses c.args.r _ c.requires.1) c.if-not_zero.false (none_left _)))
