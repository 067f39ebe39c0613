use Rattle.finish_run.proofs.Writing.{Written}
use Rattle.finish_run.proofs.complete.write_steps.Given as goal

-- So many steps are written, and the machine is the one after them.
abbrev pub invariant-loop-i : goal.invariant-loop-i
invariant-loop-i l = Written l.program l.initial.m l.k l.initial.room l.m l.room l.i
