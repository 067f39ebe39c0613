-- Numbers 1 to 10 and 14 to 18: a table and a trace are followed to the end, or stopped by the first test that does not pass.
use mathlib.Core.Path.{◌≡◌, sym, ap, ◌∙◌, subst}
use mathlib.Core.Logic.{◌↔◌, ◌⊎◌, inl, inr}
use mathlib.Core.List.{List, [], ◌∷◌, ◌++◌}
use Prim.Native.Nat.{ℕ, ◌+◌, ◌/◌}
use native.Mathlib.Nat.{zero-add}
use lib.ListN.{length}
use Rattle.model.specs.Sizes.{record_size}
use Rattle.model.specs.Record.{records}
use Rattle.model.specs.Kinds.{Entry}
use Rattle.model.specs.Table.{Whole, Readable, start}
use Rattle.model.specs.Machine.{Machine}
use Rattle.model.specs.Rules.{Event, own_reads}
use Rattle.model.specs.Tests.{passed, refused, in_order}
use Rattle.model.specs.Reading.{read_record, reading}
use Rattle.model.specs.Calls.{Reached, reached, take_record, following, tried}
use Rattle.model.specs.Numbers.{Turns, Follows, own_of, Stops, table_length, table_record, trace_length, trace_record}
use Rattle.model.proofs.Tests.{and-then-passed, and-then-refused, then-passed, then-refused}
use Rattle.model.proofs.InOrder.{Earliest, in-order-at, file-whole, file-not-whole, file-passed, file-refused}
use Rattle.model.proofs.Reading.{read-refused, read-refuses, reads, reads-back, readable-exactly}
use Rattle.model.proofs.Start.{start-orderly}
use Rattle.model.proofs.Proper.{run-proper}
use Rattle.model.proofs.Following.{take-refused, take-turns, runs, runs-back}

-- ---- the whole trace is a run from the table's start

-- where a run of this table begins
abbrev begun : List Entry → Reached
begun entries = reached (start entries) 0

-- the events of a run pass
follows-passes : (table trace : List ℕ) (es : List Event) (s : Machine) (f : Follows table trace es s) → in_order take_record 0 (begun f.entries) es ≡ passed (reached s (own_of f))
follows-passes table trace es s f =
    runs-back 0 (start f.entries) s 0 es (run-proper table f.entries f.readable es s f.run) f.run ∙ ap (λ (n : ℕ). passed (reached s n)) (zero-add (own_of f))

-- c is where it leads
pub record Ends (table trace : List ℕ) (c : Reached) : Type 0 where
  pub follows : Follows table trace (records trace) c.machine
  pub counts : own_of follows ≡ c.own

pub tried-ends : (table trace : List ℕ) (c : Reached) → tried table trace ≡ passed c → Ends table trace c
unfolding tried following
tried-ends table trace c h =
    let a = and-then-passed (reading table) (λ es. following (begun es) trace) c h in
    let f = file-passed 8 take_record (begun a.0) c trace a.2 in
    let l = runs 0 (begun a.0) c (records trace) (start-orderly a.0) f.1 in
    record {
      follows = record { entries = a.0; readable = (readable-exactly table a.0).0 a.1; whole = f.0; run = l.run };
      counts = sym (zero-add (own_reads (start a.0) (records trace) c.machine l.run)) ∙ l.counts;
    }

pub follows-tried : (table trace : List ℕ) (s : Machine) (f : Follows table trace (records trace) s) → tried table trace ≡ passed (reached s (own_of f))
unfolding tried following
follows-tried table trace s f =
    then-passed (reading table) (λ es. following (begun es) trace) f.entries ((readable-exactly table f.entries).1 f.readable)
    ∙ file-whole 8 take_record (begun f.entries) trace f.whole ∙ follows-passes table trace (records trace) s f

-- ---- or a test stops it

table-stops : (table trace : List ℕ) (n i : ℕ) → reading table ≡ refused n i → Stops table trace n i
unfolding reading
table-stops table trace n i h = go (file-refused 1 read_record [] table n i h)
  where
    go : (¬ Whole table × (1 ≡ n) × (length table / record_size ≡ i)) ⊎ (Whole table × Earliest read_record 0 [] (records table) n i) → Stops table trace n i
    go (inl w) = subst (λ (m : ℕ). Stops table trace m i) w.1 (subst (λ (j : ℕ). Stops table trace 1 j) w.2 (table_length w.0))
    go (inr w) =
        let e = w.1 in
        let r = read-refused (0 + length e.before) e.given e.r n i e.refuses in
        subst (λ (j : ℕ). Stops table trace n j) (sym (zero-add (length e.before)) ∙ r.1)
        (table_record e.before w.0 (e.after, e.found) (reads 0 [] e.given e.before e.passes) r.0)

trace-stops : (table trace : List ℕ) (es : List Entry) (n i : ℕ) → Readable table es → following (begun es) trace ≡ refused n i → Stops table trace n i
unfolding following
trace-stops table trace es n i readable h = go (file-refused 8 take_record (begun es) trace n i h)
  where
    go : (¬ Whole trace × (8 ≡ n) × (length trace / record_size ≡ i)) ⊎ (Whole trace × Earliest take_record 0 (begun es) (records trace) n i) → Stops table trace n i
    go (inl w) = subst (λ (m : ℕ). Stops table trace m i) w.1 (subst (λ (j : ℕ). Stops table trace 8 j) w.2 (trace_length es readable w.0))
    go (inr w) =
        let e = w.1 in
        let t = take-refused (0 + length e.before) e.given e.r n i e.refuses in
        let f : Follows table trace e.before e.given.machine =
        record { entries = es; readable = readable; whole = w.0; run = (runs 0 (begun es) e.given e.before (start-orderly es) e.passes).run } in
        subst (λ (j : ℕ). Stops table trace n j) (sym (zero-add (length e.before)) ∙ t.1) (trace_record e.before f (e.after, e.found) t.0)

stops-table : (table trace : List ℕ) (n i : ℕ) → reading table ≡ refused n i → tried table trace ≡ refused n i
unfolding tried
stops-table table trace n i h = then-refused (reading table) (λ es. following (begun es) trace) n i h

stops-trace : (table trace : List ℕ) (es : List Entry) (n i : ℕ) → Readable table es → following (begun es) trace ≡ refused n i → tried table trace ≡ refused n i
unfolding tried
stops-trace table trace es n i r h = then-passed (reading table) (λ es. following (begun es) trace) es ((readable-exactly table es).1 r) ∙ h

-- an event that is refused behind a run
stops-event : (table trace : List ℕ) (before : List Event) (e : Event) (after : List Event) (s : Machine) (n : ℕ)
    → records trace ≡ before ++ e ∷ after → (f : Follows table trace before s) → Turns s e n → following (begun f.entries) trace ≡ refused n (length before)
unfolding following
stops-event table trace before e after s n found f t =
    file-whole 8 take_record (begun f.entries) trace f.whole
    ∙ ap (in_order take_record 0 (begun f.entries)) found
    ∙ in-order-at take_record 0 (begun f.entries) (reached s (own_of f)) before e after n (length before) (follows-passes table trace before s f)
    (ap (λ (k : ℕ). take_record k (reached s (own_of f)) e) (zero-add (length before)) ∙ take-turns (length before) (reached s (own_of f)) e n t)

stopped-back : (table trace : List ℕ) (n i : ℕ) → Stops table trace n i → tried table trace ≡ refused n i
unfolding reading following
stopped-back table trace n i (table_length w) = stops-table table trace 1 _ (file-not-whole 1 read_record [] table w)
stopped-back table trace n i (table_record {n = m} {entries = es} {r = r} before w b reads g) =
    stops-table table trace m (length before)
    (file-whole 1 read_record [] table w ∙ ap (in_order read_record 0 []) b.1
    ∙ in-order-at read_record 0 [] es before r b.0 m (length before) (reads-back 0 [] es before reads)
    (ap (λ (k : ℕ). read_record k es r) (zero-add (length before)) ∙ read-refuses (length before) es r m g))
stopped-back table trace n i (trace_length es r w) = stops-trace table trace es 8 _ r (file-not-whole 8 take_record (begun es) trace w)
stopped-back table trace n i (trace_record {n = m} {s = s} {e = e} before f b t) =
    stops-trace table trace f.entries m (length before) f.readable (stops-event table trace before e b.0 s m b.1 f t)

pub tried-stops : (table trace : List ℕ) (n i : ℕ) → (tried table trace ≡ refused n i) ↔ Stops table trace n i
unfolding tried
tried-stops table trace n i = (λ h. go (and-then-refused (reading table) (λ es. following (begun es) trace) n i h), stopped-back table trace n i)
  where
    go : (reading table ≡ refused n i) ⊎ ((es : List Entry) × (reading table ≡ passed es) × (following (begun es) trace ≡ refused n i)) → Stops table trace n i
    go (inl h) = table-stops table trace n i h
    go (inr a) = trace-stops table trace a.0 n i ((readable-exactly table a.0).0 a.1) a.2
