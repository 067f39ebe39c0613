use Rattle.model.proofs.Raised.{raised}
use Rattle.std.proofs.Common.{◌≡◌, arith, rules}
use Rattle.std.specs.Prelude.{Ok, Err, MatchResult}
use Rattle.model.specs.Reply.{refusal_at}
use Rattle.model.specs.declared.answer.Refusal.TheVariants.{StepRule}
use Rattle.trace.proofs.Turns.{proper, odd, refused_before, begun, ended, misreads, turns, stepped-on}
use Rattle.trace.proofs.follow.follow_in_place.Goals as goal

pub returns-in_err-read : goal.returns-in_err-read
returns-in_err-read c =
    rw (raised c.from_residual.result c.in_err-read.field-0.0 c.from_residual.ensures.1)
    (refused_before c.args.program.now c.args.m.now c.args.read c.args.trace.now c.in_err-read.field-0.0 c.in_err-read.was c.requires)

pub returns-then-trace-ne0 : goal.returns-then-trace-ne0
returns-then-trace-ne0 c =
    rw c.at.ensures (odd c.args.program.now c.args.m.now c.args.read c.in_ok-read.was c.args.trace.now c.if-trace-ne0.true c.requires)

pub loop-i-init : goal.loop-i-init
loop-i-init c = begun c.args.program.now c.args.m.now c.args.trace.now c.if-trace-ne0.false c.requires

pub returns-in_err-misread : goal.returns-in_err-misread
returns-in_err-misread c =
    rw (raised c.from_residual-in_err-misread.result c.in_err-misread.field-0.0 c.from_residual-in_err-misread.ensures.1)
    (misreads c.args.program.now c.args.m.now c.args.trace.now c.loop-i.m c.loop-i.i-counter c.loop-i.invariant c.loop-i-test.true
    c.read_record-e.result c.read_record-e.ensures c.misread.result c.misread.ensures c.args.read c.in_ok-read.was c.in_err-misread.field-0.0 c.in_err-misread.was)

pub step-requires : goal.step-requires
step-requires c = (c.loop-i.invariant.ready, proper c.loop-i.i-counter c.read_record-e.result c.misread.result c.misread.ensures c.in_ok-misread.was)

pub returns-in_err-map_err : goal.returns-in_err-map_err
returns-in_err-map_err c =
    let h : MatchResult c.step.result (λ x. c.map_err.result ≡ Ok x) (λ e. c.map_err.result ≡ Err (refusal_at (StepRule e) c.loop-i.i-counter)) = search rules in
    rw (raised c.from_residual-in_err-map_err.result c.in_err-map_err.field-0.0 c.from_residual-in_err-map_err.ensures.1)
    (turns c.args.program.now c.args.m.now c.args.trace.now c.loop-i.m c.loop-i.i-counter c.loop-i.invariant c.loop-i-test.true
    c.read_record-e.result c.read_record-e.ensures c.misread.result c.misread.ensures c.in_ok-misread.was c.step.new.m c.step.result c.step.ensures
    c.args.read c.in_ok-read.was c.map_err.result c.in_err-map_err.field-0.0 c.in_err-map_err.was h)

pub loop-i-preserved : goal.loop-i-preserved
loop-i-preserved c =
    let h : c.step.result ≡ Ok tt = search rules in
    stepped-on c.args.program.now c.args.m.now c.args.trace.now c.loop-i.m c.loop-i.i-counter c.loop-i.invariant c.loop-i-test.true
    c.read_record-e.result c.read_record-e.ensures c.misread.result c.misread.ensures c.in_ok-misread.was c.step.new.m (rw h at c.step.ensures)

pub returns : goal.returns
returns c = ended c.args.program.now c.args.m.now c.args.trace.now c.loop-i.m c.loop-i.i-counter c.loop-i.invariant c.args.read c.in_ok-read.was (omega arith)
