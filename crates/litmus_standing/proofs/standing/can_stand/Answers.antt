use mathlib.Core.Path.{◌∙◌}
use Rattle.text.proofs.Adding.{then}
use Rattle.litmus_standing.proofs.Tried.{kept, can-stand-by}
use Rattle.litmus_standing.proofs.standing.can_stand.Goals as goal

pub returns-clause-value : goal.returns-clause-value
returns-clause-value c =
    let put = then c.put_byte-first.ensures.adds c.put_word-end.ensures.adds in
    c.goes_on.ensures ∙ can-stand-by put c.litmus.result c.litmus.new.room c.litmus.ensures

pub returns-clause-text_unchanged : goal.returns-clause-text_unchanged
returns-clause-text_unchanged c = kept (then c.put_byte-first.ensures.adds c.put_word-end.ensures.adds)
