use Rattle.std.proofs.Common.{◌∙◌, sym, ap}
use Rattle.model.specs.Reply.{Answer, reply_of}
use Rattle.text.specs.Reply.{lines_of, listed}
use Rattle.text.proofs.Adding.{then, said}
use Rattle.text.proofs.Replied.{refusal_listed}
use Rattle.text.proofs.reply.put_reply.Goals as goal

pub returns-in-Ok-clause-adds : goal.returns-in-Ok-clause-adds
unfolding lines_of listed
returns-in-Ok-clause-adds c =
    let last = then c.put_memory-at.ensures.adds c.put_own.ensures.adds in
    let text = then c.put_finished-at.ensures.adds (then c.put_processors-at.ensures.fact last) in
    said text (sym (ap (λ (a : Answer). listed (reply_of a c.args.room.now)) c.in-Ok.is))

pub returns-in-Err-clause-adds : goal.returns-in-Err-clause-adds
returns-in-Err-clause-adds c =
    said c.put_refused.ensures.adds
    (refusal_listed c.in-Err.refused c.args.room.now ∙ sym (ap (λ (a : Answer). listed (reply_of a c.args.room.now)) c.in-Err.is))
