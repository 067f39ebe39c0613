use mathlib.Core.Path.{refl, ◌∙◌, ap}
use mathlib.Core.List.{List}
use Prim.Native.Nat.{ℕ, ◌*◌}
use borrow.Author.Rules.{rules}
use lib.ListN.{get_or}
use Rattle.model.specs.Sizes.{word_size}
use Rattle.record.specs.Bytes.{with_value}
use Rattle.case.specs.Words.{bytes_in}
use Rattle.record.proofs.Stores.{writes_one, writes-all}
use Rattle.case.proofs.Written.{pieces}
use Rattle.case.proofs.words.write_words.Goals as goal

pub loop-i-init : goal.loop-i-init
unfolding bytes_in
loop-i-init c = refl

pub loop-i-preserved : goal.loop-i-preserved
unfolding with_value
loop-i-preserved c =
    c.put_value.ensures ∙ ap (λ (l : List ℕ). with_value l (c.loop-i.i * word_size) (get_or c.args.words.now c.loop-i.i 0)) c.loop-i.invariant
    ∙ writes_one pieces c.args.words.now c.args.bytes.now c.loop-i.i (search rules)

pub returns : goal.returns
returns c =
    c.loop-i.invariant ∙ writes-all pieces c.args.words.now c.args.bytes.now c.loop-i.i (search rules)
