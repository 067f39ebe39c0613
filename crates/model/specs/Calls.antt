-- The calls as functions, for any table, trace and lent room: what code is proved to do.
use Rattle.std.specs.Prelude.{cond, ◌||◌, List, [], ◌∷◌, ◌++◌, ℕ, ◌+◌, ◌*◌, length, drop, leb}
use Rattle.model.specs.declared.record.Record.{Record}
use Rattle.model.specs.Sizes.{result_words, record_size}
use Rattle.model.specs.Record.{records, file_of}
use Rattle.model.specs.Kinds.{step_uses}
use Rattle.model.specs.Table.{start}
use Rattle.model.specs.Machine.{Machine}
use Rattle.model.specs.Step.{Stepped, took, turned, step, served_own}
use Rattle.model.specs.Left.{left}
use Rattle.model.specs.Finish.{is_finished, completion}
use Rattle.model.specs.Reading.{reading}
use Rattle.model.specs.Tests.{Test, test, first, unknown, too_large, not_zero, Tested, passed, refused, and_then, unless, in_file}
use Rattle.model.specs.Reply.{Reply, done, refuse, words}

-- ---- following a trace

-- where a run has led, and how many of its reads own buffers served
pub record Reached : Type 0 where
  pub machine : Machine
  pub own : ℕ

abbrev pub reached : Machine → ℕ → Reached
reached s own = record { machine = s; own = own }

unfoldable pub step_tests : Record → List Test
unfolding step_uses unknown too_large not_zero
step_tests r = test 9 (unknown step_uses r) ∷ test 10 (too_large step_uses r || not_zero step_uses r) ∷ []

-- `own` is the number if the step is taken
unfoldable pub at_place : ℕ → ℕ → Stepped → Tested Reached
at_place i own (took t) = passed (reached t own)
at_place i own (turned n) = refused n i

-- record i: tested 9, 10, and then by the rules
unfoldable pub take_record : ℕ → Reached → Record → Tested Reached
unfolding step_tests first unless at_place step served_own
take_record i c r = unless (first (step_tests r)) i (at_place i (c.own + served_own c.machine r) (step c.machine r))

unfoldable pub following : Reached → List ℕ → Tested Reached
unfolding in_file take_record
following c trace = in_file 8 take_record c trace

-- ---- the replies

-- the table is read, and the trace followed from its start
unfoldable pub tried : List ℕ → List ℕ → Tested Reached
unfolding reading start following and_then
tried table trace = and_then (reading table) (λ entries. following (reached (start entries) 0) trace)

unfoldable pub replied : {A : Type 0} → List ℕ → Tested A → (A → Reply) → Reply
replied room (passed a) f = f a
replied room (refused n i) f = refuse n i room

-- `needed` words or bytes are written; room past them keeps its contents
unfoldable pub written : ℕ → ℕ → List ℕ → List ℕ → Reply
written place needed contents room = cond (leb needed (length room)) (done place (contents ++ drop needed room)) (refuse 13 needed room)

-- a trace of so many steps leads to c
unfoldable pub reported : ℕ → List ℕ → Reached → Reply
unfolding is_finished written words
reported steps room c = cond (is_finished c.machine) (written steps result_words (words c.machine c.own) room) (refuse 12 steps room)

unfoldable pub checked_at : List ℕ → List ℕ → Reached → Reply
unfolding reported records
checked_at trace room c = reported (length (records trace)) room c

unfoldable pub checked : List ℕ → List ℕ → List ℕ → Reply
unfolding tried replied checked_at
checked table trace room = replied room (tried table trace) (checked_at trace room)

-- finishing asks for the machine alone
unfoldable pub completed_at : List ℕ → Reached → Reply
unfolding written left file_of completion
completed_at room c = let s = c.machine in written (left s) (record_size * left s) (file_of (completion s)) room

unfoldable pub completed : List ℕ → List ℕ → List ℕ → Reply
unfolding tried replied completed_at
completed table trace room = replied room (tried table trace) (completed_at room)
