use Rattle.std.proofs.Common.{◌≡◌, ℕ, [], ◌∷◌, get_or, ap, rules}
use Rattle.text.specs.Text.{decimal}
use Rattle.text.proofs.Adding.{nothing, then, said}
use Rattle.text_steps.specs.Steps.{unknown, names, access}
use Rattle.text_steps.proofs.steps.put_access.Goals as goal

pub returns-then-contains-clause-adds : goal.returns-then-contains-clause-adds
unfolding access
returns-then-contains-clause-adds c =
    let text : 32 ∷ get_or names c.args.e.location unknown ∷ decimal c.args.e.value ≡ access c.args.e = search rules in
    let location = said c.put_byte-at-then-contains.ensures.adds (ap (λ (b : ℕ). b ∷ []) c.name.ensures) in
    let n = said c.put_number.ensures.adds (ap decimal c.from-then-contains.ensures) in said (then c.put_byte-at.ensures.adds (then location n)) text

pub returns-else-contains-clause-adds : goal.returns-else-contains-clause-adds
unfolding access
returns-else-contains-clause-adds c =
    let text : [] ≡ access c.args.e = search rules in said (nothing c.args.out.now c.args.at (search rules)) text
