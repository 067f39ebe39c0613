use Rattle.std.proofs.Common.{rules, arith, get_or-take}
use Rattle.text_fault.specs.Places.{ends_before, since}
use Rattle.text_fault.proofs.Placing.{ends_more, since_none, ends_same, since-more}
use Rattle.text_fault.proofs.position.position_at.Goals as goal
use Rattle.text_fault.proofs.position.position_at.Goals.{then-b-eq10, else-b-eq10}

pub loop-b-init : goal.loop-b-init
unfolding ends_before since
loop-b-init c = search rules

pub loop-b-preserved : goal.loop-b-preserved
loop-b-preserved c =
    let same = get_or-take c.args.place c.args.text.now c.loop-b.b-index 0 (search rules) in
    elim c.if-b-eq10.branch [
      | then-b-eq10 w ↦
          let more = ends_more c.args.text.now c.loop-b.b-index (search rules) in
          let none = since_none c.args.text.now c.loop-b.b-index (search rules) in
          record { line_bound = omega arith; column_bound = omega arith; line = omega arith; column = omega arith }
      | else-b-eq10 w ↦
          let still = ends_same c.args.text.now c.loop-b.b-index (search rules) in
          let more = since-more c.args.text.now c.loop-b.b-index (search rules) in
          record { line_bound = omega arith; column_bound = omega arith; line = omega arith; column = omega arith }
    ]
