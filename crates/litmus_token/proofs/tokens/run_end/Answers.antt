use lib.ListN.{drop, length-drop}
use native.Mathlib.Omega.{arith}
use Rattle.std.proofs.lemmas.List.{take_rest}
use Rattle.litmus_token.specs.Classes.{class_of}
use Rattle.litmus_token.proofs.Scan.{run-prefix}
use Rattle.litmus_token.proofs.tokens.run_end.Goals as goal

pub overflow_add-result : goal.overflow_add-result
overflow_add-result c =
    let h = rw take_rest at c.run.ensures in
    let r = run-prefix (class_of c.args.class) (drop c.args.at c.args.text.now) in
    let l = length-drop c.args.at c.args.text.now in
    record { fits = omega arith }

pub returns : goal.returns
returns c =
    let h = rw take_rest at c.run.ensures in
    let r = run-prefix (class_of c.args.class) (drop c.args.at c.args.text.now) in
    let l = length-drop c.args.at c.args.text.now in
    let e = r.0 in
    (omega arith, omega arith, omega arith)
