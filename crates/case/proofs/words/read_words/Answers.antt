use mathlib.Core.Path.{refl, ◌∙◌}
use borrow.Author.Rules.{rules}
use lib.ListN.{set}
use Rattle.case.specs.Words.{words_in}
use Rattle.case.proofs.Written.{reads-one, reads_all}
use Rattle.case.proofs.words.read_words.Goals as goal

pub loop-i-init : goal.loop-i-init
unfolding words_in
loop-i-init c = refl

pub loop-i-preserved : goal.loop-i-preserved
loop-i-preserved c =
    (λ k. set (c.loop-i.invariant k) c.loop-i.i (c.value_at.ensures k)) ∙ reads-one c.args.bytes.now c.args.words.now c.loop-i.i (search rules)

pub returns : goal.returns
returns c =
    c.loop-i.invariant ∙ reads_all c.args.bytes.now c.args.words.now c.loop-i.i (search rules)
