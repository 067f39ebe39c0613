-- What is promised of the reply to a check: its number under its condition, the room that was lent, and demand 2.
use mathlib.Core.Path.{◌≡◌, sym, ap, ◌∙◌, subst}
use mathlib.Core.List.{List, ◌∷◌, ◌++◌}
use Prim.Native.Nat.{ℕ, ◌≤◌}
use native.Mathlib.Omega.{arith}
use lib.ListN.{length, drop}
use Rattle.model.specs.declared.answer.Condition.{Condition}
use Rattle.model.specs.Sizes.{result_words}
use Rattle.model.specs.Record.{records}
use Rattle.model.specs.Kinds.{Entry}
use Rattle.model.specs.Table.{Whole, Readable, start}
use Rattle.model.specs.Machine.{Machine}
use Rattle.model.specs.Rules.{Event, FirstMet, conditions, condition_number, Run, own_reads}
use Rattle.model.specs.Left.{Finished}
use Rattle.model.specs.Reply.{Reply, done, refuse, words}
use Rattle.model.specs.Calls.{checked}
use Rattle.model.specs.Numbers.{Turns, Follows, Stops, table_length, table_record, trace_length, trace_record, Checks}
use Rattle.model.specs.Promises.{Lent, TurnedAt, Demand2, NotEleven, CheckMeets}
use Rattle.model.proofs.Tests.{passed-inj}
use Rattle.model.proofs.Reading.{readable-exactly}
use Rattle.model.proofs.Answers.{one-condition}
use Rattle.model.proofs.Given.{condition-number, table-number, stops-number}
use Rattle.model.proofs.Replies.{checked-exactly}
use Rattle.model.proofs.Rooms.{check-lends}

-- a table has its entries once
one-reading : (table : List ℕ) (es fs : List Entry) → Readable table es → Readable table fs → es ≡ fs
one-reading table es fs r q = passed-inj (sym ((readable-exactly table es).1 r) ∙ (readable-exactly table fs).1 q)

check-not-eleven : (table trace room : List ℕ) (r : Reply) → Checks table trace room r → NotEleven r
check-not-eleven table trace room r (Checks.stopped {n} {i} s) h = (stops-number table trace n i s).1 h
check-not-eleven table trace room r (Checks.unfinished f u) h = omega arith
check-not-eleven table trace room r (Checks.too_small f d m) h = omega arith
check-not-eleven table trace room r (Checks.finished f d m) h = omega arith

module _ (table trace room : List ℕ) (entries : List Entry) (readable : Readable table entries) where
  -- the run of a trace that is followed is one from these entries' start
  ours : (events : List Event) (s : Machine) → Follows table trace events s → Run (start entries) events s
  ours events s f = subst (λ (es : List Entry). Run (start es) events s) (one-reading table f.entries entries f.readable readable) f.run

  -- ---- what 0, 12 and a condition's number say

  accepted : (q : Reply) → Checks table trace room q → q.number ≡ 0 → (s : Machine) × Run (start entries) (records trace) s × Finished s
  accepted q (Checks.stopped {n} {i} s) h = absurd (let k = (stops-number table trace n i s).0 in omega arith)
  accepted q (Checks.unfinished f u) h = absurd (omega arith)
  accepted q (Checks.too_small f d m) h = absurd (omega arith)
  accepted q (Checks.finished {s} f d m) h = (s, ours (records trace) s f, d)

  module _ (i : ℕ) where
    ends : (q : Reply) → Checks table trace room q → q.number ≡ 12 → q.place ≡ i → (s : Machine) × Run (start entries) (records trace) s × ¬ Finished s × (length (records trace) ≡ i)
    ends q (Checks.stopped {n} {i = j} s) h k = absurd ((stops-number table trace n j s).2 h)
    ends q (Checks.unfinished {s} f u) h k = (s, ours (records trace) s f, u, k)
    ends q (Checks.too_small f d m) h k = absurd (omega arith)
    ends q (Checks.finished f d m) h k = absurd (omega arith)

    module _ (c : Condition) where
      turned_by : (before : List Event) (s : Machine) (e : Event) (n : ℕ) → Follows table trace before s → (after : List Event) → records trace ≡ before ++ e ∷ after
          → Turns s e n → n ≡ condition_number c → length before ≡ i → TurnedAt entries (records trace) c i
      turned_by before s e n f after b (Turns.kind_unknown u) h k = absurd (omega (arith, condition-number c))
      turned_by before s e n f after b (Turns.wrong_field u w) h k = absurd (omega (arith, condition-number c))
      turned_by before s e n f after b (Turns.by_rule {c = d} p m) h k = record {
        before = before;
        event = e;
        after = after;
        split = b;
        steps = k;
        s = s;
        run = ours before s f;
        proper = p;
        first = subst (λ (d : Condition). FirstMet s e d (conditions e.kind)) (one-condition d c h) m;
      }

      stopped_by : (n j : ℕ) → Stops table trace n j → n ≡ condition_number c → j ≡ i → TurnedAt entries (records trace) c i
      stopped_by n j (table_length w) h k = absurd (omega (arith, condition-number c))
      stopped_by n j (table_record {n = m} {entries = es} {r = r} before w b reads g) h k = absurd (omega (arith, table-number es r m g, condition-number c))
      stopped_by n j (trace_length es r w) h k = absurd (omega (arith, condition-number c))
      stopped_by n j (trace_record {n = m} {s = s} {e = e} before f b t) h k = turned_by before s e m f b.0 b.1 t h k

      turned : (q : Reply) → Checks table trace room q → q.number ≡ condition_number c → q.place ≡ i → TurnedAt entries (records trace) c i
      turned q (Checks.stopped {n} {i = j} s) h k = stopped_by n j s h k
      turned q (Checks.unfinished f u) h k = absurd (omega (arith, condition-number c))
      turned q (Checks.too_small f d m) h k = absurd (omega (arith, condition-number c))
      turned q (Checks.finished f d m) h k = absurd (omega (arith, condition-number c))

  -- ---- and when they are given

  module _ (whole : Whole trace) (r : Reply) (e : r ≡ checked table trace room) where
    stated : Checks table trace room r
    stated = (checked-exactly table trace room r).0 (sym e)

    gives : (q : Reply) → Checks table trace room q → r ≡ q
    gives q c = e ∙ (checked-exactly table trace room q).1 c

    follows : (events : List Event) (s : Machine) → Run (start entries) events s → Follows table trace events s
    follows events s run = record { entries = entries; readable = readable; whole = whole; run = run }

    reports : result_words ≤ length room → (s : Machine) (run : Run (start entries) (records trace) s) → Finished s
        → r ≡ done (length (records trace)) (words s (own_reads (start entries) (records trace) s run) ++ drop result_words room)
    unfolding follows
    reports l s run finished = gives _ (Checks.finished (follows (records trace) s run) finished l)

    turns : (c : Condition) (i : ℕ) → TurnedAt entries (records trace) c i → r ≡ refuse (condition_number c) i room
    turns c i t =
        gives _ (Checks.stopped (trace_record t.before (follows t.before t.s t.run) (t.after, t.split) (Turns.by_rule t.proper t.first)))
        ∙ ap (λ (k : ℕ). refuse (condition_number c) k room) t.steps

    demand2 : Demand2 trace room entries r
    demand2 = record {
      accepts = λ l. (accepted r stated, λ t. ap (λ (q : Reply). q.number) (reports l t.0 t.1 t.2));
      reports = reports;
      unfinished = λ i. (
        λ h. ends i r stated (ap (λ (q : Reply). q.number) h) (ap (λ (q : Reply). q.place) h),
        λ t. gives _ (Checks.unfinished (follows (records trace) t.0 t.1) t.2) ∙ ap (λ (k : ℕ). refuse 12 k room) t.3,
      );
      turns = λ c i. (λ h. turned i c r stated (ap (λ (q : Reply). q.number) h) (ap (λ (q : Reply). q.place) h), turns c i);
    }

pub check-meets : (table trace room : List ℕ) (r : Reply) → r ≡ checked table trace room → CheckMeets table trace room r
check-meets table trace room r e = record {
  stated = (checked-exactly table trace room r).0 (sym e);
  lent = subst (Lent room) (sym e) (check-lends table trace room);
  not_eleven = check-not-eleven table trace room r ((checked-exactly table trace room r).0 (sym e));
  demand2 = λ entries readable whole. demand2 table trace room entries readable whole r e;
}
