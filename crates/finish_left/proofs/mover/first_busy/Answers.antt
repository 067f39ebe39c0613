use Rattle.std.proofs.Common.{rules, tests, ◌≡◌, true, false}
use Rattle.std.proofs.lemmas.Iterator.{first_from_Range}
use Rattle.machine_state.specs.Finished.{done_at}
use Rattle.finish_left.proofs.Movers.{found}
use Rattle.finish_left.proofs.mover.first_busy.Goals as goal

pub returns : goal.returns
returns c =
    let done = λ (p : _). done_at c.args.program.now c.args.m.now p in
    found done _
    (first_from_Range _ _ _ _ (λ i. done i ≡ false) (λ i. done i ≡ true) c.find.ensures.ran (λ x q k. search (rules, tests)) (λ x q k. search (rules, tests)))
