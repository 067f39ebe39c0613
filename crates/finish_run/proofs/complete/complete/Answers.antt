use mathlib.Core.Path.{sym, ◌∙◌}
use Rattle.finish_left.proofs.Lefts.{all-countable, left_is}
use Rattle.finish_run.proofs.Writing.{too_small, completes}
use Rattle.finish_run.proofs.complete.complete.Goals as goal

pub left-k-requires : goal.left-k-requires
left-k-requires c = all-countable _ _ c.requires.ready

-- what `left` counts is k

pub returns-then-room-needed : goal.returns-then-room-needed
returns-then-room-needed c = rw c.at.ensures (too_small _ _ _ _ (c.left-k.ensures.value ∙ left_is _ _ c.requires.ready) c.if-room-needed.true)

pub write_steps-requires : goal.write_steps-requires
write_steps-requires c = record { underway = c.requires; steps = sym (c.left-k.ensures.value ∙ left_is _ _ c.requires.ready); fits = c.if-room-needed.false }

pub returns : goal.returns
returns c = completes _ _ _ _ (c.left-k.ensures.value ∙ left_is _ _ c.requires.ready) c.if-room-needed.false _ c.write_steps.ensures
