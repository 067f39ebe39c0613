use Rattle.std.proofs.Common.{◌≡◌, ℕ, ◌+◌, ◌*◌, ◌-◌, take, drop, ap, arith}
use Rattle.text.specs.Text.{spaced}
use Rattle.text.specs.Reply.{processor_line}
use Rattle.text.proofs.Adding.{then, said}
use Rattle.text.proofs.lines.put_processor.Goals as goal

pub returns-clause-adds : goal.returns-clause-adds
unfolding processor_line
returns-clause-adds c =
    let four : c.args.p * 4 + 4 - c.args.p * 4 ≡ 4 = omega arith in
    let ns = said c.put_numbers-at.ensures.adds (ap (λ (k : ℕ). spaced (take k (drop (c.args.p * 4) c.args.room.now))) four) in
    then (then c.put_byte-at.ensures.adds (then c.put_number-at.ensures.adds ns)) c.put_byte.ensures.adds
