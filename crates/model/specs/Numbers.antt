-- When each number is given, and where: all that a caller gets from a call (document 01, "Numbers the caller gets").
use Rattle.std.specs.Prelude.{◌≡◌, List, [], ◌∷◌, ◌++◌, ℕ, ◌*◌, ◌/◌, ◌≤◌, ◌<◌, length, drop}
use Rattle.model.specs.declared.record.Record.{Record}
use Rattle.model.specs.declared.answer.Condition.{Condition}
use Rattle.model.specs.Sizes.{result_words, record_size}
use Rattle.model.specs.Record.{records, file_of}
use Rattle.model.specs.Fields.{Known, Proper}
use Rattle.model.specs.Kinds.{Entry, step_uses}
use Rattle.model.specs.Table.{Refuses, Reads, Whole, Readable, start}
use Rattle.model.specs.Machine.{Machine}
use Rattle.model.specs.Rules.{Event, FirstMet, conditions, condition_number, Run, own_reads}
use Rattle.model.specs.Left.{left, Finished, FinishingRun}
use Rattle.model.specs.Reply.{Reply, done, refuse, words}

-- ---- the number under which an event is refused, where the machine is s: tested 9, 10, and then by its rule

pub data Turns (s : Machine) (e : Event) : ℕ → Type 0 where
  kind_unknown : ¬ Known step_uses e → Turns s e 9
  wrong_field : Known step_uses e → ¬ Proper step_uses e → Turns s e 10
  by_rule : {c : Condition} → Proper step_uses e → FirstMet s e c (conditions e.kind) → Turns s e (condition_number c)

-- ---- what is followed, and what stops it

-- these events of the trace are a run from the table's start to s
pub record Follows (table trace : List ℕ) (events : List Event) (s : Machine) : Type 0 where
  pub entries : List Entry
  pub readable : Readable table entries
  pub whole : Whole trace
  pub run : Run (start entries) events s

-- how many reads own buffers served in that run
abbrev pub own_of : {table trace : List ℕ} {events : List Event} {s : Machine} → Follows table trace events s → ℕ
own_of {events = events} {s} f = own_reads (start f.entries) events s f.run

-- r is a record of the file, behind the records `before`
abbrev pub Behind : List ℕ → List Record → Record → Type 0
Behind bytes before r = (after : List Record) × (records bytes ≡ before ++ r ∷ after)

-- numbers 1 to 10 and 14 to 18, and their places
pub data Stops (table trace : List ℕ) : ℕ → ℕ → Type 0 where
  table_length : ¬ Whole table → Stops table trace 1 (length table / record_size)
  table_record : {n : ℕ} {entries : List Entry} {r : Record} (before : List Record)
      → Whole table → Behind table before r → Reads [] before entries → Refuses entries r n
      → Stops table trace n (length before)
  trace_length : (entries : List Entry)
      → Readable table entries → ¬ Whole trace
      → Stops table trace 8 (length trace / record_size)
  trace_record : {n : ℕ} {s : Machine} {e : Event} (before : List Event)
      → Follows table trace before s → Behind trace before e → Turns s e n
      → Stops table trace n (length before)

-- ---- the replies

-- checking
pub data Checks (table trace room : List ℕ) : Reply → Type 0 where
  stopped : {n i : ℕ} → Stops table trace n i → Checks table trace room (refuse n i room)
  unfinished : {s : Machine}
      → Follows table trace (records trace) s → ¬ Finished s
      → Checks table trace room (refuse 12 (length (records trace)) room)
  too_small : {s : Machine}
      → Follows table trace (records trace) s → Finished s → length room < result_words
      → Checks table trace room (refuse 13 result_words room)
  finished : {s : Machine}
      → (f : Follows table trace (records trace) s) → Finished s → result_words ≤ length room
      → Checks table trace room (done (length (records trace)) (words s (own_of f) ++ drop result_words room))

-- finishing
pub data Finishes (table trace room : List ℕ) : Reply → Type 0 where
  stopped : {n i : ℕ} → Stops table trace n i → Finishes table trace room (refuse n i room)
  too_small : {s : Machine}
      → Follows table trace (records trace) s → length room < record_size * left s
      → Finishes table trace room (refuse 13 (record_size * left s) room)
  completed : {s : Machine} (events : List Event) (u : Machine)
      → Follows table trace (records trace) s → FinishingRun s events u → record_size * left s ≤ length room
      → Finishes table trace room (done (left s) (file_of events ++ drop (record_size * left s) room))
