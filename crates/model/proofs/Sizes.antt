-- Of a readable table: at most 320 steps, and at most 16 writes of a processor waiting.
use mathlib.Core.Path.{◌≡◌, refl, ◌∙◌}
use mathlib.Core.List.{List, [], ◌∷◌, ◌++◌}
use Prim.Native.Nat.{ℕ, suc, ◌+◌, ◌*◌, ◌≤◌}
use native.Mathlib.Nat.{zero-mul, one-mul, add-mul}
use native.Mathlib.Omega.{arith}
use lib.ListN.{length, get_or, length-append, length-set}
use lib.Dec.{eqb}
use Rattle.model.specs.Sizes.{processors, instructions_each, longest_trace}
use Rattle.model.specs.Program.{Instruction, store_constant, store_register, load, set_register, mfence, exchange, locked_exchange, exchange_add, locked_exchange_add, ProgramStep, read, write, fence, lock, unlock, local, steps_of}
use Rattle.model.specs.Machine.{Machine, Processor, processor, idle, with_processor, with_cell, assigned}
use Rattle.model.specs.Rules.{Event, Allowed, Run}
use Rattle.model.specs.Left.{writes, left_of, left_in, left}
use Rattle.model.specs.Kinds.{Entry, initial_memory, initial_register, instruction}
use Rattle.model.specs.Table.{Readable, extended, enter, enter_all, empty, start}
use Rattle.model.proofs.Bools.{one, self}
use Rattle.model.proofs.Lists.{each}
use Rattle.model.proofs.Start.{empty-at}
use Rattle.model.proofs.Moves.{writes_of, moves}
use Rattle.model.proofs.Runs.{run-keeps}
use Rattle.model.proofs.Readable.{count, is_of, readable-sound}

-- ---- a measure of a processor that each of its instructions raises by at most c

record Measure (m : Processor → ℕ) (c : ℕ) : Type 0 where
  nothing : (p : ℕ) → m (processor empty p) ≡ 0
  register : (P : Processor) (r v : ℕ) → m (assigned P P.todo r v) ≡ m P
  grows : (P : Processor) (i : Instruction) → m (extended P i) ≤ m P + c

module _ (m : Processor → ℕ) (c : ℕ) (M : Measure m c) where
  entered : (s : Machine) (e : Entry) (p : ℕ) → m (processor (enter s e) p) ≤ m (processor s p) + one (is_of p e) * c
  unfolding enter with_cell with_processor processor
  entered s (initial_memory x v) p = rw (zero-mul c) (omega arith)
  entered s (initial_register q r v) p =
      each idle (λ k P. m P ≤ m (processor s k) + 0 * c) s.processors q _ (λ k. rw (zero-mul c) (omega arith)) (rw (zero-mul c) (omega (arith, M.register (processor s q) r v))) p
  entered s (instruction q i) p =
      each idle (λ k P. m P ≤ m (processor s k) + one (eqb q k) * c) s.processors q _ (λ k. omega arith)
      (rw (self q, one-mul c) (M.grows (processor s q) i)) p

  entered_all : (es : List Entry) (s : Machine) (p : ℕ) → m (processor (enter_all s es) p) ≤ m (processor s p) + count (is_of p) es * c
  unfolding enter_all count
  entered_all [] s p = omega arith
  entered_all (e ∷ es) s p = rw (add-mul (one (is_of p e)) (count (is_of p) es) c) (omega (arith, entered_all es (enter s e) p, entered s e p))

  started : (entries : List Entry) (p : ℕ) → m (processor (start entries) p) ≤ count (is_of p) entries * c
  unfolding start
  started entries p = omega (arith, entered_all entries empty p, M.nothing p)

-- ---- the steps and the writes of an instruction

pub writes-append : (l k : List ProgramStep) → writes (l ++ k) ≡ writes l + writes k
unfolding writes
writes-append [] k = omega arith
writes-append (read x to ∷ l) k = writes-append l k
writes-append (write x from ∷ l) k = omega (arith, writes-append l k)
writes-append (fence ∷ l) k = writes-append l k
writes-append (lock ∷ l) k = writes-append l k
writes-append (unlock ∷ l) k = writes-append l k
writes-append (local r v ∷ l) k = writes-append l k

-- at most four steps, and at most one write
pub weight : (i : Instruction) → (length (steps_of i) ≤ 4) × (writes (steps_of i) ≤ 1)
unfolding steps_of writes
weight (store_constant x v) = omega arith
weight (store_register r x) = omega arith
weight (load r x) = omega arith
weight (set_register r v) = omega arith
weight mfence = omega arith
weight (exchange r x) = omega arith
weight (locked_exchange r x) = omega arith
weight (exchange_add r x) = omega arith
weight (locked_exchange_add r x) = omega arith

left-measure : Measure left_of 5
unfolding left_of idle empty processor assigned extended
left-measure = record {
  nothing = empty-at (λ P. left_of P ≡ 0) refl refl;
  register = λ P r v. refl;
  grows = λ P i. simp (length-append, writes-append) (omega (arith, weight i));
}

writes-measure : Measure writes_of 1
unfolding writes_of idle empty processor assigned extended
writes-measure = record {
  nothing = empty-at (λ P. writes_of P ≡ 0) refl refl;
  register = λ P r v. refl;
  grows = λ P i. simp writes-append (omega (arith, weight i));
}

-- ---- at most 320 steps

few : (table : List ℕ) (entries : List Entry) → Readable table entries → (p : ℕ) → count (is_of p) entries ≤ instructions_each
few table entries r p = (readable-sound table entries r).once.few p

left-each : (table : List ℕ) (entries : List Entry) → Readable table entries → (p : ℕ) → left_of (processor (start entries) p) ≤ 80
left-each table entries r p = omega (arith, started left_of 5 left-measure entries p, few table entries r p)

left-sum : (Ps : List Processor) → ((p : ℕ) → left_of (get_or Ps p idle) ≤ 80) → left_in Ps ≤ 80 * length Ps
unfolding left_in
left-sum [] h = omega arith
left-sum (P ∷ Ps) h = omega (arith, h 0, left-sum Ps (λ p. h (suc p)))

enter-four : (es : List Entry) (s : Machine) → length (enter_all s es).processors ≡ length s.processors
unfolding enter_all enter with_processor with_cell
enter-four [] s = refl
enter-four (initial_memory x v ∷ es) s = enter-four es _
enter-four (initial_register p r v ∷ es) s = enter-four es _ ∙ simp length-set
enter-four (instruction p i ∷ es) s = enter-four es _ ∙ simp length-set

pub start-four : (entries : List Entry) → length (start entries).processors ≡ processors
unfolding start empty
start-four entries = enter-four entries empty

pub longest : (table : List ℕ) (entries : List Entry) → Readable table entries → left (start entries) ≤ longest_trace
unfolding left processor
longest table entries r = omega (arith, left-sum (start entries).processors (left-each table entries r), start-four entries)

-- ---- at most 16 writes of a processor waiting

abbrev AtMost16 : Machine → Type 0
AtMost16 s = (p : ℕ) → writes_of (processor s p) ≤ instructions_each

step-writes : (s : Machine) (e : Event) (t : Machine) → Allowed s e t → AtMost16 s → AtMost16 t
unfolding processor
step-writes s e t a w =
    let m = moves s e t a in
    let k : writes_of m.after ≤ instructions_each = omega (arith, m.less.writes, w e.processor) in
    λ p. rw m.placed (each idle (λ q P. writes_of P ≤ instructions_each) s.processors e.processor m.after w k p)

start-writes : (table : List ℕ) (entries : List Entry) → Readable table entries → AtMost16 (start entries)
start-writes table entries r p = omega (arith, started writes_of 1 writes-measure entries p, few table entries r p)

pub sixteen-waiting : (table : List ℕ) (entries : List Entry) → Readable table entries → (es : List Event) (s : Machine) → Run (start entries) es s
    → (p : ℕ) → length (processor s p).waiting ≤ instructions_each
unfolding writes_of
sixteen-waiting table entries r es s run p = omega (arith, run-keeps AtMost16 step-writes es (start entries) s run (start-writes table entries r) p)
