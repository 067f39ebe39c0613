use mathlib.Core.Path.{refl, ◌∙◌}
use borrow.Author.Rules.{rules}
use Rattle.model.specs.Sizes.{record_size}
use Rattle.model.specs.Record.{bytes_of, file_of}
use Rattle.record.specs.Bytes.{with_record}
use Rattle.record.specs.Words.{record_in, records_in}
use Rattle.record.proofs.Stores.{Pieces, writes_one, writes-all}
use Rattle.record.proofs.word.write_records.Goals as goal

-- eight bytes for each word
pieces : Pieces record_size (λ w. bytes_of (record_in w)) (λ ws. file_of (records_in ws))
unfolding file_of
pieces = record { sized = λ w. refl; none = refl; more = λ w ws. refl }

pub loop-i-init : goal.loop-i-init
unfolding file_of
loop-i-init c = refl

pub loop-i-preserved : goal.loop-i-preserved
unfolding with_record
loop-i-preserved c =
    c.write_record.ensures ∙ (λ j. with_record (c.loop-i.invariant j) c.loop-i.i (c.unpacked.ensures j))
    ∙ writes_one pieces c.args.words.now c.args.room.now c.loop-i.i (search rules)

pub returns : goal.returns
returns c =
    c.loop-i.invariant ∙ writes-all pieces c.args.words.now c.args.room.now c.loop-i.i (search rules)
