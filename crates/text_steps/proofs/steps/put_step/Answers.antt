use Rattle.std.proofs.Common.{ℕ, [], ◌∷◌, ap}
use Rattle.text.specs.Text.{decimal}
use Rattle.text_steps.specs.Steps.{step_line}
use Rattle.text.proofs.Adding.{then, said}
use Rattle.text_steps.proofs.steps.put_step.Goals as goal

pub returns-clause-adds : goal.returns-clause-adds
unfolding step_line
returns-clause-adds c =
    let letter = said c.put_byte-at.ensures.adds (ap (λ (b : ℕ). b ∷ []) c.letter.ensures) in
    let n = said c.put_number-at.ensures.adds (ap decimal c.from.ensures) in
    then (then (then letter n) c.put_access-at.ensures.adds) c.put_byte.ensures.adds
