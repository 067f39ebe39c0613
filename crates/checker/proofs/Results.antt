-- The reply to a call, from a table that is read and a trace that is followed.
use mathlib.Core.Path.{◌≡◌, sym, ap, ◌∙◌}
use mathlib.Core.List.{List}
use Prim.Native.Nat.{ℕ}
use Rattle.std.specs.Prelude.{Ok, Err}
use Rattle.model.specs.Record.{records}
use Rattle.model.specs.Machine as model
use Rattle.model.specs.Kinds.{Entry}
use Rattle.model.specs.Table.{start}
use Rattle.model.specs.Tests.{Tested, passed, refused, and_then}
use Rattle.model.specs.Reading.{reading}
use Rattle.model.specs.Reply.{Reply, number_of}
use Rattle.model.specs.Calls.{Reached, reached, following, tried, replied, checked_at, checked, completed_at, completed}
use Rattle.model.specs.Code.{Columns, Verdict, tested_of}
use Rattle.model.proofs.Tests.{passed-inj, passed-refused}
use Rattle.model.proofs.Runs.{reached-orderly}
use Rattle.model.proofs.Numbers.{tried-ends}
use Rattle.machine_state.specs.State.{State}
use Rattle.machine.specs.View.{machine_of, reached_of}
use Rattle.finish_step.specs.Finishing.{Underway}
use Rattle.trace.specs.Follows.{Follows}
use Rattle.table.specs.Begins.{Begins}

-- going on from where the entries start, with no read counted
from_start : (t : Tested (List Entry)) (v : Verdict) (s : model.Machine) (f : Reached → Tested Reached)
    → tested_of v s ≡ and_then t (λ entries. passed (start entries)) → and_then (tested_of v (reached s 0)) f ≡ and_then t (λ entries. f (reached (start entries) 0))
unfolding and_then
from_start (passed entries) (Ok u) s f h = ap (λ (s : model.Machine). f (reached s 0)) (passed-inj h)
from_start (passed entries) (Err r) s f h = passed-refused (sym h)
from_start (refused n i) (Ok u) s f h = passed-refused h
from_start (refused n i) (Err r) s f h = let a : number_of r.why ≡ n = cc in let b : r.place ≡ i = cc in λ j. refused (a j) (b j)

module _ (table trace : List ℕ) (read : Verdict) (g : Columns) (s : State) (begins : Begins table read g s) (end : Verdict) (m : State) (follows : Follows g s read trace end m) where
  leads : tested_of end (reached_of g m) ≡ tried table trace
  unfolding tried
  leads =
      follows.says ∙ ap (λ (n : ℕ). and_then (tested_of read (reached (machine_of g s) n)) (λ c. following c trace)) begins.none
      ∙ from_start (reading table) read (machine_of g s) (λ c. following c trace) begins.says

  module _ (room : List ℕ) (r : Reply) where
    replies : (f : Reached → Reply) → r ≡ replied room (tested_of end (reached_of g m)) f → r ≡ replied room (tried table trace) f
    replies f e = e ∙ ap (λ (t : Tested Reached). replied room t f) leads

    pub checks : r ≡ replied room (tested_of end (reached_of g m)) (checked_at trace room) → r ≡ checked table trace room
    unfolding checked
    checks e = replies (checked_at trace room) e

    pub finishes : r ≡ replied room (tested_of end (reached_of g m)) (completed_at room) → r ≡ completed table trace room
    unfolding completed
    finishes e = replies (completed_at room) e

  -- a state that a run reaches
  pub underway : end ≡ Ok tt → Underway g m
  underway e =
      let f = (tried-ends table trace (reached_of g m) (sym leads ∙ ap (λ (v : Verdict). tested_of v (reached_of g m)) e)).follows in
      record { ready = follows.ready; orderly = reached-orderly f.entries (records trace) (machine_of g m) f.run }
