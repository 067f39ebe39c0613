use native.Mathlib.Omega.{arith}
use borrow.Author.Rules.{rules}
use Prim.Native.Nat.{◌≤◌}
use lib.ListN.{length}
use Rattle.litmus_model.specs.Forms.{mention}
use Rattle.litmus_form.specs.declared.patterns.Pattern.TheVariants as arm
use Rattle.litmus_form.specs.Patterns.{pattern_of}
use Rattle.litmus_said.specs.Saying.{letter, register}
use Rattle.litmus_said.proofs.Saying.{location-long, register-long, dollar-long, said_at, says_nothing}
use Rattle.litmus_said.proofs.said.says.Goals as goal

pub bounds-t-0 : goal.bounds-t-0
bounds-t-0 c = location-long c.args.pattern c.args.t.now c.in-Location.is c.requires

pub bounds-t-1 : goal.bounds-t-1
bounds-t-1 c = (register-long c.args.pattern c.args.t.now c.in-Register.is c.requires).0

pub overflow_sub-result : goal.overflow_sub-result
overflow_sub-result c = (register-long c.args.pattern c.args.t.now c.in-Register.is c.requires).1

pub slice_bounds-constant-count : goal.slice_bounds-constant-count
slice_bounds-constant-count c = let h = dollar-long c.args.pattern c.args.t.now c.in-Dollar.is c.requires in omega arith

pub slice_bounds-constant-start : goal.slice_bounds-constant-start
slice_bounds-constant-start c = let h = dollar-long c.args.pattern c.args.t.now c.in-Dollar.is c.requires in let k : 1 ≤ length c.args.t.now = omega arith in search rules

pub returns-in-Location : goal.returns-in-Location
unfolding mention pattern_of
returns-in-Location c = said_at c.args.pattern arm.Location c.args.t.now _ c.in-Location.is letter

pub returns-in-Register : goal.returns-in-Register
unfolding mention pattern_of
returns-in-Register c = said_at c.args.pattern arm.Register c.args.t.now _ c.in-Register.is register

pub returns-in_default : goal.returns-in_default
returns-in_default c = says_nothing c.args.pattern c.args.t.now c.in_default.not-Location c.in_default.not-Register c.in_default.not-Processor c.in_default.not-Constant c.in_default.not-Dollar
