-- What is promised of a reply: the demands, and the words that they use beyond document 01's definitions.
use Rattle.std.specs.Prelude.{◌≡◌, ◌↔◌, List, ◌∷◌, ◌++◌, ℕ, ◌*◌, ◌≤◌, ◌<◌, length, take, drop}
use Rattle.model.specs.declared.answer.Condition.{Condition}
use Rattle.model.specs.Sizes.{result_words, record_size}
use Rattle.model.specs.Lists.{All}
use Rattle.model.specs.Record.{records, file_of}
use Rattle.model.specs.Fields.{Proper}
use Rattle.model.specs.Kinds.{Entry, step_uses}
use Rattle.model.specs.Table.{Whole, Readable, start}
use Rattle.model.specs.Machine.{Machine}
use Rattle.model.specs.Rules.{Event, FirstMet, conditions, condition_number, Run, own_reads}
use Rattle.model.specs.Left.{left, Finished}
use Rattle.model.specs.Finish.{completion}
use Rattle.model.specs.Reply.{Reply, done, refuse, words}
use Rattle.model.specs.Calls.{checked}
use Rattle.model.specs.Numbers.{Checks, Finishes}

-- ---- demand 1: a refusal leaves the lent room unchanged, and its length never changes

pub record Lent (room : List ℕ) (r : Reply) : Type 0 where
  pub unchanged : ¬ (r.number ≡ 0) → r.room ≡ room
  pub long : length r.room ≡ length room

-- ---- demand 2, on the reply to a check of a readable table and a trace of whole records

-- the first i events are a run from the table's start, event i passes 9 and 10, and c is the first condition of its rule that is met there
pub record TurnedAt (entries : List Entry) (events : List Event) (c : Condition) (i : ℕ) : Type 0 where
  pub before : List Event
  pub event : Event
  pub after : List Event
  pub split : events ≡ before ++ event ∷ after
  pub steps : length before ≡ i
  pub s : Machine
  pub run : Run (start entries) before s
  pub proper : Proper step_uses event
  pub first : FirstMet s event c (conditions event.kind)

pub record Demand2 (trace room : List ℕ) (entries : List Entry) (r : Reply) : Type 0 where
  -- with room: 0 exactly when the trace is a run to a finished machine, and then the outcome of that machine, and how many reads own buffers served in that run
  pub accepts : result_words ≤ length room → (r.number ≡ 0) ↔ ((s : Machine) × Run (start entries) (records trace) s × Finished s)
  pub reports : result_words ≤ length room → (s : Machine) (run : Run (start entries) (records trace) s) → Finished s
      → r ≡ done (length (records trace)) (words s (own_reads (start entries) (records trace) s run) ++ drop result_words room)
  -- 12 exactly when it is a run to a machine that is not finished, and a condition's number at i exactly when it is turned down for it at i
  pub unfinished : (i : ℕ) → (r ≡ refuse 12 i room) ↔ ((s : Machine) × Run (start entries) (records trace) s × ¬ Finished s × (length (records trace) ≡ i))
  pub turns : (c : Condition) (i : ℕ) → (r ≡ refuse (condition_number c) i room) ↔ TurnedAt entries (records trace) c i

-- ---- demand 3, on the reply to a finish of a readable table and a trace of whole records that is a run from its start to s; k is `left s`

abbrev pub Bytes : List ℕ → Type 0
Bytes l = All (λ b. b < 256) l

-- k steps, each allowed in turn, lead from s to a finished machine
pub record Completes (s : Machine) (k : ℕ) (events : List Event) : Type 0 where
  pub steps : length events ≡ k
  pub end : Machine
  pub run : Run s events end
  pub finished : Finished end

-- the words of the machine and the run that it is completed by
abbrev pub words_of : {s : Machine} {k : ℕ} {events : List Event} → Completes s k events → List ℕ
words_of {s} {events = events} c = words c.end (own_reads s events c.end c.run)

-- the bytes `steps` are k records: behind those of the trace they complete the run, and check as finished with the words of its end
pub record Added (table trace : List ℕ) (entries : List Entry) (k : ℕ) (steps : List ℕ) : Type 0 where
  pub whole : Whole steps
  pub count : length (records steps) ≡ k
  pub completes : Bytes table → Completes (start entries) (left (start entries)) (records trace ++ records steps)
  pub checks : (b : Bytes table) (lent : List ℕ) → result_words ≤ length lent
      → checked table (trace ++ steps) lent ≡ done (left (start entries)) (words_of (completes b) ++ drop result_words lent)

-- the steps written, by the place that the caller is given
abbrev pub steps_in : Reply → List ℕ
steps_in r = take (record_size * r.place) r.room

pub record Demand3 (table trace room : List ℕ) (entries : List Entry) (s : Machine) (r : Reply) : Type 0 where
  pub needs : length room < record_size * left s → r ≡ refuse 13 (record_size * left s) room
  pub writes : record_size * left s ≤ length room → r ≡ done (left s) (file_of (completion s) ++ drop (record_size * left s) room)
  pub adds : record_size * left s ≤ length room → Added table trace entries (left s) (steps_in r)

-- ---- document 01's number 11 is never given (document 02, order 1)

abbrev pub NotEleven : Reply → Type 0
NotEleven r = ¬ (r.number ≡ 11)

-- ---- all that is promised of the reply to a check, and to a finish, for every table, trace and room

pub record CheckMeets (table trace room : List ℕ) (r : Reply) : Type 0 where
  pub stated : Checks table trace room r
  pub lent : Lent room r
  pub not_eleven : NotEleven r
  pub demand2 : (entries : List Entry) → Readable table entries → Whole trace → Demand2 trace room entries r

pub record FinishMeets (table trace room : List ℕ) (r : Reply) : Type 0 where
  pub stated : Finishes table trace room r
  pub lent : Lent room r
  pub not_eleven : NotEleven r
  pub demand3 : (entries : List Entry) → Readable table entries → Whole trace → (s : Machine) → Run (start entries) (records trace) s → Demand3 table trace room entries s r
