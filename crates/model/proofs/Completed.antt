-- What is promised of the reply to a finish: its number under its condition, the room that was lent, and demand 3.
use mathlib.Core.Path.{◌≡◌, refl, sym, ap, ◌∙◌, subst}
use mathlib.Core.List.{List, ◌++◌}
use Prim.Native.Nat.{ℕ, ◌*◌, ◌≤◌}
use native.Mathlib.Omega.{arith}
use lib.ListN.{length, drop, length-append}
use lib.Seq.{take_at}
use Rattle.model.specs.Sizes.{result_words, record_size}
use Rattle.model.specs.Record.{records, file_of}
use Rattle.model.specs.Kinds.{Entry}
use Rattle.model.specs.Table.{Whole, Readable, start}
use Rattle.model.specs.Machine.{Machine}
use Rattle.model.specs.Rules.{Event, Run, own_reads}
use Rattle.model.specs.Left.{left}
use Rattle.model.specs.Finish.{completion}
use Rattle.model.specs.Reply.{Reply, done, words}
use Rattle.model.specs.Calls.{checked, completed}
use Rattle.model.specs.Numbers.{Follows, Finishes}
use Rattle.model.specs.Promises.{Bytes, Lent, Completes, Added, words_of, steps_in, Demand3, NotEleven, FinishMeets}
use Rattle.model.proofs.Runs.{run-append, finished-length}
use Rattle.model.proofs.Words.{file-length}
use Rattle.model.proofs.Bytes.{length-records, records-append, records-file}
use Rattle.model.proofs.Finish.{completion-runs, completion-completes}
use Rattle.model.proofs.Proper.{later-small}
use Rattle.model.proofs.Given.{stops-number}
use Rattle.model.proofs.Replies.{completed-exactly}
use Rattle.model.proofs.Rooms.{completion-length, finish-lends}
use Rattle.model.proofs.Demands.{check-meets}

-- the completion of a run, behind it
pub completes-run : (entries : List Entry) (es : List Event) (s : Machine) → Run (start entries) es s → Completes (start entries) (left (start entries)) (es ++ completion s)
completes-run entries es s r =
    let c = completion-completes entries es s r in
    let run : Run (start entries) (es ++ completion s) c.end = run-append es (completion s) (start entries) s c.end r c.run in
    record { steps = finished-length (es ++ completion s) (start entries) c.end run c.finished; end = c.end; run = run; finished = c.finished }

-- steps that complete the run of a trace check as finished behind it
checks-behind : (table trace steps lent : List ℕ) (entries : List Entry) (k : ℕ) → Readable table entries → Whole trace → Whole steps
    → (c : Completes (start entries) k (records trace ++ records steps)) → result_words ≤ length lent
    → checked table (trace ++ steps) lent ≡ done k (words_of c ++ drop result_words lent)
checks-behind table trace steps lent entries k readable whole wholes c l =
    let read : records (trace ++ steps) ≡ records trace ++ records steps = records-append trace steps whole in
    let both : Whole (trace ++ steps) = simp length-append (omega arith) in
    subst (λ (es : List Event). (run : Run (start entries) es c.end) → checked table (trace ++ steps) lent ≡ done (length es) (words c.end (own_reads (start entries) es c.end run) ++ drop result_words lent))
    read (λ run. ((check-meets table (trace ++ steps) lent _ refl).demand2 entries readable both).reports l c.end run c.finished) c.run
    ∙ ap (λ (n : ℕ). done n (words_of c ++ drop result_words lent)) c.steps

finish-not-eleven : (table trace room : List ℕ) (r : Reply) → Finishes table trace room r → NotEleven r
finish-not-eleven table trace room r (Finishes.stopped {n} {i} s) h = (stops-number table trace n i s).1 h
finish-not-eleven table trace room r (Finishes.too_small f m) h = omega arith
finish-not-eleven table trace room r (Finishes.completed es u f c m) h = omega arith

module _ (table trace room : List ℕ) (r : Reply) (e : r ≡ completed table trace room) where
  gives : (q : Reply) → Finishes table trace room q → r ≡ q
  gives q c = e ∙ (completed-exactly table trace room q).1 c

  module _ (entries : List Entry) (readable : Readable table entries) (whole : Whole trace) (s : Machine) (run : Run (start entries) (records trace) s) where
    follows : Follows table trace (records trace) s
    follows = record { entries = entries; readable = readable; whole = whole; run = run }

    module _ (l : record_size * left s ≤ length room) where
      writes : r ≡ done (left s) (file_of (completion s) ++ drop (record_size * left s) room)
      writes = let f = completion-runs entries (records trace) s run in gives _ (Finishes.completed (completion s) f.0 follows f.1 l)

      steps-are : steps_in r ≡ file_of (completion s)
      steps-are = ap steps_in writes ∙ take_at (file_of (completion s)) (drop (record_size * left s) room) (record_size * left s) (completion-length entries (records trace) s run)

      steps-whole : Whole (steps_in r)
      steps-whole = rw steps-are (omega (arith, file-length (completion s)))

      steps-count : length (records (steps_in r)) ≡ left s
      steps-count =
          length-records (steps_in r)
          ∙ (let long : length (steps_in r) ≡ record_size * left s = ap (λ (b : List ℕ). length b) steps-are ∙ completion-length entries (records trace) s run in omega arith)

      steps-complete : Bytes table → Completes (start entries) (left (start entries)) (records trace ++ records (steps_in r))
      steps-complete bytes =
          let c = completion-completes entries (records trace) s run in
          let back : records (steps_in r) ≡ completion s = ap records steps-are ∙ records-file (completion s) (later-small table entries bytes readable (records trace) (completion s) s c.end run c.run) in
          subst (λ (es : List Event). Completes (start entries) (left (start entries)) (records trace ++ es)) (sym back) (completes-run entries (records trace) s run)

      adds : Added table trace entries (left s) (steps_in r)
      adds = record {
        whole = steps-whole;
        count = steps-count;
        completes = steps-complete;
        checks = λ bytes lent. checks-behind table trace (steps_in r) lent entries (left (start entries)) readable whole steps-whole (steps-complete bytes);
      }

    demand3 : Demand3 table trace room entries s r
    demand3 = record { needs = λ l. gives _ (Finishes.too_small follows l); writes = writes; adds = adds }

  pub finish-meets : FinishMeets table trace room r
  finish-meets = record {
    stated = (completed-exactly table trace room r).0 (sym e);
    lent = subst (Lent room) (sym e) (finish-lends table trace room);
    not_eleven = finish-not-eleven table trace room r ((completed-exactly table trace room r).0 (sym e));
    demand3 = demand3;
  }
