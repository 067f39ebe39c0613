use Rattle.std.proofs.Common.{◌∙◌, ap, Some}
use Rattle.text_steps.proofs.Notation.{letter_is}
use Rattle.text_steps.proofs.steps.letter.Goals as goal

pub returns-in-Ok-Read : goal.returns-in-Ok-Read
returns-in-Ok-Read c = letter_is c.args.kind _ (c.in-Ok-Read.ensures ∙ ap Some c.in-Ok-Read.field-0-is)

pub returns-in-Ok-Write : goal.returns-in-Ok-Write
returns-in-Ok-Write c = letter_is c.args.kind _ (c.in-Ok-Write.ensures ∙ ap Some c.in-Ok-Write.field-0-is)

pub returns-in-Ok-Drain : goal.returns-in-Ok-Drain
returns-in-Ok-Drain c = letter_is c.args.kind _ (c.in-Ok-Drain.ensures ∙ ap Some c.in-Ok-Drain.field-0-is)

pub returns-in-Ok-Fence : goal.returns-in-Ok-Fence
returns-in-Ok-Fence c = letter_is c.args.kind _ (c.in-Ok-Fence.ensures ∙ ap Some c.in-Ok-Fence.field-0-is)

pub returns-in-Ok-Lock : goal.returns-in-Ok-Lock
returns-in-Ok-Lock c = letter_is c.args.kind _ (c.in-Ok-Lock.ensures ∙ ap Some c.in-Ok-Lock.field-0-is)

pub returns-in-Ok-Unlock : goal.returns-in-Ok-Unlock
returns-in-Ok-Unlock c = letter_is c.args.kind _ (c.in-Ok-Unlock.ensures ∙ ap Some c.in-Ok-Unlock.field-0-is)

pub returns-in-Ok-Local : goal.returns-in-Ok-Local
returns-in-Ok-Local c = letter_is c.args.kind _ (c.in-Ok-Local.ensures ∙ ap Some c.in-Ok-Local.field-0-is)

pub returns-in-Err : goal.returns-in-Err
returns-in-Err c = letter_is c.args.kind _ c.in-Err.ensures
