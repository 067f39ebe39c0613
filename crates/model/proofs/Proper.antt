-- The events of a run of a readable table are proper records: so no step that is allowed is refused with 9 or 10. If the table is bytes, their values are below 2^32.
use mathlib.Core.Path.{◌≡◌, refl, sym, ap, ◌∙◌}
use mathlib.Core.List.{List, [], ◌∷◌}
use Prim.Native.Nat.{ℕ, suc, ◌%◌, ◌<◌}
use native.Mathlib.Omega.{arith}
use lib.ListN.{length, get_or, length-set}
use Rattle.model.specs.Sizes.{processors, locations, values}
use Rattle.model.specs.Lists.{All}
use Rattle.model.specs.Record.{record_at}
use Rattle.model.specs.Fields.{Field, used, Proper}
use Rattle.model.specs.Kinds.{Entry, step_uses}
use Rattle.model.specs.Table.{Readable, start}
use Rattle.model.specs.Machine.{Machine, processor, idle}
use Rattle.model.specs.Rules.{Event, event, Allowed, Read, Write, Drain, Fence, Lock, Unlock, Local, Run}
use Rattle.model.specs.Left.{left_of}
use Rattle.model.specs.Promises.{Bytes}
use Rattle.model.proofs.Bools.{false-true}
use Rattle.model.proofs.Lists.{there}
use Rattle.model.proofs.Moves.{moves}
use Rattle.model.proofs.Runs.{run-keeps}
use Rattle.model.proofs.Bytes.{Small}
use Rattle.model.proofs.Sizes.{start-four}
use Rattle.model.proofs.Fit.{MachineFits, event-fits, step_fits}
use Rattle.model.proofs.FitStart.{record-small, table_fits}

-- ---- the processor of a step is one of the four

abbrev Four : Machine → Type 0
Four s = length s.processors ≡ processors

step-four : (s : Machine) (e : Event) (t : Machine) → Allowed s e t → Four s → Four t
step-four s e t a f = let m = moves s e t a in ap length m.placed ∙ length-set s.processors e.processor m.after ∙ f

its-processor : (s : Machine) (e : Event) (t : Machine) → Allowed s e t → Four s → e.processor < processors
unfolding processor left_of idle
its-processor s e t a f =
    let busy : ¬ (processor s e.processor ≡ idle) = λ i. let z : left_of idle ≡ suc (left_of (moves s e t a).after) = ap left_of (sym i) ∙ (moves s e t a).less.steps in omega arith in
    omega (arith, there s.processors e.processor busy)

-- ---- its record is proper

-- a read, a write or a drain
of-memory : (k p x v : ℕ) → get_or step_uses k [] ≡ Field.processor ∷ Field.location ∷ Field.value ∷ [] → 0 < k → k < length step_uses → p < processors → x < locations → Proper step_uses (event k p x v)
unfolding used
of-memory k p x v row a b c d = record {
  known = (a, b);
  in_range = record { processor = λ u. c; register = λ u. false-true (rw row at u); location = λ u. d };
  unused_zero = record { processor = λ u. false-true (sym (rw row at u)); register = λ u. refl; location = λ u. false-true (sym (rw row at u)); value = λ u. false-true (sym (rw row at u)) };
}

-- a fence, a lock, an unlock, a local step
of-processor : (k p : ℕ) → get_or step_uses k [] ≡ Field.processor ∷ [] → 0 < k → k < length step_uses → p < processors → Proper step_uses (event k p 0 0)
unfolding used
of-processor k p row a b c = record {
  known = (a, b);
  in_range = record { processor = λ u. c; register = λ u. false-true (rw row at u); location = λ u. false-true (rw row at u) };
  unused_zero = record { processor = λ u. false-true (sym (rw row at u)); register = λ u. refl; location = λ u. refl; value = λ u. refl };
}

event-proper : (s : Machine) (e : Event) (t : Machine) → Allowed s e t → e.processor < processors → e.location < locations → Proper step_uses e
unfolding step_uses
event-proper s e t (Read {p} {x} {v} c h u) a b = of-memory 1 p x v refl (omega arith) (omega arith) a b
event-proper s e t (Write {p} {x} {v} c h) a b = of-memory 2 p x v refl (omega arith) (omega arith) a b
event-proper s e t (Drain {p} {x} {v} c h) a b = of-memory 3 p x v refl (omega arith) (omega arith) a b
event-proper s e t (Fence {p} c h) a b = of-processor 4 p refl (omega arith) (omega arith) a
event-proper s e t (Lock {p} c h f) a b = of-processor 5 p refl (omega arith) (omega arith) a
event-proper s e t (Unlock {p} c h f) a b = of-processor 6 p refl (omega arith) (omega arith) a
event-proper s e t (Local {p} c h) a b = of-processor 7 p refl (omega arith) (omega arith) a

-- ---- so are all of a run

-- `Value` as in Fit.antt
module _ (Value : ℕ → Type 0) (reduced : (n : ℕ) → Value (n % values)) where
  all-proper : (es : List Event) (s u : Machine) → Run s es u → MachineFits Value s → Four s → All (Proper step_uses) es × All (λ e. Value e.value) es
  all-proper [] s u r f g = (tt, tt)
  all-proper (e ∷ es) s u r f g =
      let a = r.1 in
      let fits = event-fits Value reduced s e r.0 a f in
      let rest = all-proper es r.0 u r.2 (step_fits Value reduced s e r.0 a f) (step-four s e r.0 a g) in
      ((event-proper s e r.0 a (its-processor s e r.0 a g) fits.location, rest.0), (fits.value, rest.1))

  -- those of a run that goes on from where a run of the table led
  later-proper : (table : List ℕ) (entries : List Entry) → ((i : ℕ) → Value (record_at table i).value) → Readable table entries
      → (es fs : List Event) (s u : Machine) → Run (start entries) es s → Run s fs u → All (Proper step_uses) fs × All (λ e. Value e.value) fs
  later-proper table entries h r es fs s u before after =
      all-proper fs s u after (run-keeps (MachineFits Value) (step_fits Value reduced) es (start entries) s before (table_fits Value (reduced 0) table entries h r))
      (run-keeps Four step-four es (start entries) s before (start-four entries))

pub run-proper : (table : List ℕ) (entries : List Entry) → Readable table entries → (es : List Event) (s : Machine) → Run (start entries) es s → All (Proper step_uses) es
run-proper table entries r es s run = (later-proper (λ v. Unit {0}) (λ n. tt) table entries (λ i. tt) r [] es (start entries) s refl run).0

-- a step that is allowed where a run leads is proper
pub next-proper : (table : List ℕ) (entries : List Entry) → Readable table entries → (es : List Event) (s : Machine) → Run (start entries) es s
    → (e : Event) (t : Machine) → Allowed s e t → Proper step_uses e
next-proper table entries r es s run e t a = (later-proper (λ v. Unit {0}) (λ n. tt) table entries (λ i. tt) r es (e ∷ []) s t run (t, a, refl)).0.0

pub later-small : (table : List ℕ) (entries : List Entry) → Bytes table → Readable table entries
    → (es fs : List Event) (s u : Machine) → Run (start entries) es s → Run s fs u → All Small fs
later-small table entries b r es fs s u before after =
    (later-proper (λ v. v < values) (λ n. omega arith) table entries (λ i. record-small table i b) r es fs s u before after).1
