-- Which numbers can be given: for a table record 2 to 7, for a trace record 9, 10 and those of the conditions; 11 never.
use mathlib.Core.Path.{◌≡◌}
use Prim.Native.Nat.{ℕ, ◌≤◌}
use native.Mathlib.Omega.{arith}
use mathlib.Core.List.{List}
use Rattle.model.specs.declared.record.Record.{Record}
use Rattle.model.specs.declared.answer.Condition.{Condition}
use Rattle.model.specs.declared.answer.Condition.TheVariants.{AnotherKind, NothingWaits, LockHeld, BufferNotEmpty, NotRight}
use Rattle.model.specs.Kinds.{Entry}
use Rattle.model.specs.Table.{Refuses}
use Rattle.model.specs.Machine.{Machine}
use Rattle.model.specs.Rules.{Event, condition_number}
use Rattle.model.specs.Numbers.{Turns, Stops, table_length, table_record, trace_length, trace_record}

pub table-number : (before : List Entry) (r : Record) (n : ℕ) → Refuses before r n → (2 ≤ n) × (n ≤ 7)
table-number before r n (Refuses.kind_unknown k) = omega arith
table-number before r n (Refuses.too_large k f) = omega arith
table-number before r n (Refuses.not_zero k f z) = omega arith
table-number before r n (Refuses.late p l) = omega arith
table-number before r n (Refuses.twice p l t) = omega arith
table-number before r n (Refuses.crowded p l t c) = omega arith

pub condition-number : (c : Condition) → (14 ≤ condition_number c) × (condition_number c ≤ 18)
condition-number AnotherKind = omega arith
condition-number NothingWaits = omega arith
condition-number LockHeld = omega arith
condition-number BufferNotEmpty = omega arith
condition-number NotRight = omega arith

trace-number : (s : Machine) (e : Event) (n : ℕ) → Turns s e n → (9 ≤ n) × ¬ (n ≡ 11) × ¬ (n ≡ 12)
trace-number s e n (Turns.kind_unknown k) = (omega arith, λ z. omega arith, λ z. omega arith)
trace-number s e n (Turns.wrong_field k w) = (omega arith, λ z. omega arith, λ z. omega arith)
trace-number s e n (Turns.by_rule {c} p f) = let k = condition-number c in (omega arith, λ z. omega arith, λ z. omega arith)

pub stops-number : (table trace : List ℕ) (n i : ℕ) → Stops table trace n i → (1 ≤ n) × ¬ (n ≡ 11) × ¬ (n ≡ 12)
stops-number table trace n i (table_length w) = (omega arith, λ z. omega arith, λ z. omega arith)
stops-number table trace n i (table_record {n = m} {entries = entries} {r = r} before w b reads g) = let k = table-number entries r m g in (omega arith, λ z. omega arith, λ z. omega arith)
stops-number table trace n i (trace_length entries r w) = (omega arith, λ z. omega arith, λ z. omega arith)
stops-number table trace n i (trace_record {n = m} {s = s} {e = e} before f b t) = let k = trace-number s e m t in (omega arith, k.1, k.2)
