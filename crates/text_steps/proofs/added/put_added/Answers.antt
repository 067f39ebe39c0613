use Rattle.std.proofs.Common.{◌∙◌, sym, ap}
use Rattle.model.specs.Reply.{Answer, reply_of}
use Rattle.text_steps.specs.Steps.{shown_by, shown}
use Rattle.text.proofs.Adding.{said}
use Rattle.text_steps.proofs.Shown.{refusal_shown}
use Rattle.text_steps.proofs.added.put_added.Goals as goal

pub returns-in-Ok-clause-adds : goal.returns-in-Ok-clause-adds
unfolding shown_by shown
returns-in-Ok-clause-adds c =
    said c.put_steps.ensures.adds (sym (ap (λ (a : Answer). shown (reply_of a c.args.room.now)) c.in-Ok.is))

pub returns-in-Err-clause-adds : goal.returns-in-Err-clause-adds
returns-in-Err-clause-adds c =
    said c.put_refused.ensures.adds
    (refusal_shown c.in-Err.refused c.args.room.now ∙ sym (ap (λ (a : Answer). shown (reply_of a c.args.room.now)) c.in-Err.is))
