use Rattle.std.proofs.Common.{rules, arith, ◌≡◌, ◌-◌, ℕ, subst}
use Rattle.text.proofs.Adding.{then, said}
use Rattle.text_fault.specs.Places.{since, Around}
use Rattle.text_fault.specs.Shown.{fault_line}
use Rattle.text_fault.proofs.Placing.{shown-in}
use Rattle.text_fault.proofs.fault.put_fault.Goals as goal

pub returns-clause-shows : goal.returns-clause-shows
returns-clause-shows c =
    let start : c.args.place - (c.position_at-p.result.column - 1) ≡ c.args.place - since c.args.text.now c.args.place = omega (arith, c.position_at-p.ensures.column) in
    let line = said c.put_first-at.ensures.adds (λ k. fault_line c.args.number c.args.place (c.position_at-p.ensures.line k) (c.position_at-p.ensures.column k)) in
    let part = shown-in c.args.text.now c.part_around-part.result.start c.part_around-part.result.end (search rules) (search rules) in
    record {
      part = c.part_around-part.result;
      around = subst (λ (s : ℕ). Around 72 c.args.text.now s c.args.place c.part_around-part.result) start c.part_around-part.ensures;
      adds = then line (rw part at c.put_shown.ensures.adds);
    }
