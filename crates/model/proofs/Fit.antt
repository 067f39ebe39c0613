-- In a run every location is one of the eight, and every value is a `Value`, as those of the table are: 0 and the sums, which are reduced, have to be.
-- It is used with "below 2^32", for a table of bytes, and with "anything".
use mathlib.Core.Path.{◌≡◌, subst}
use mathlib.Core.List.{List, ◌∷◌}
use Prim.Native.Nat.{ℕ, ◌+◌, ◌%◌, ◌<◌}
use native.Mathlib.Omega.{arith}
use lib.ListN.{get_or, set}
use Rattle.model.specs.declared.origin.Origin.{Origin}
use Rattle.model.specs.Sizes.{locations, values}
use Rattle.model.specs.Lists.{All}
use Rattle.model.specs.Program.{ProgramStep, read, write, fence, lock, unlock, local, Target, into, aside, Source, constant, register, swapped, added}
use Rattle.model.specs.Machine.{Machine, Processor, WaitingWrite, write_of, processor, idle, cell, in_register, issued, exchanged, advanced, assigned, received, wrote, drained, with_processor, with_cell, with_holder}
use Rattle.model.specs.Rules.{Event, Sees, from_buffer, from_memory, Allowed, Read, Write, Drain, Fence, Lock, Unlock, Local}
use Rattle.model.proofs.Lists.{each, all_append, all_middle}
use Rattle.model.proofs.Steps.{write-issues}

module _ (Value : ℕ → Type 0) where
  -- ---- what fits

  abbrev pub SourceFits : Source → Type 0
  SourceFits (constant v) = Value v
  SourceFits (register r) = Unit {0}
  SourceFits (swapped r) = Unit {0}
  SourceFits (added r) = Unit {0}

  abbrev pub StepFits : ProgramStep → Type 0
  StepFits (read x to) = x < locations
  StepFits (write x from) = (x < locations) × SourceFits from
  StepFits fence = Unit {0}
  StepFits lock = Unit {0}
  StepFits unlock = Unit {0}
  StepFits (local r v) = Value v

  abbrev pub WriteFits : WaitingWrite → Type 0
  WriteFits w = (w.location < locations) × Value w.value

  pub record Fits (P : Processor) : Type 0 where
    pub todo : All StepFits P.todo
    pub kept : Value P.kept
    pub registers : (r : ℕ) → Value (get_or P.registers r 0)
    pub waiting : All WriteFits P.waiting

  pub record MachineFits (s : Machine) : Type 0 where
    pub each-one : (p : ℕ) → Fits (processor s p)
    pub memory : (x : ℕ) → Value (get_or s.memory x 0)

  pub record EventFits (e : Event) : Type 0 where
    pub location : e.location < locations
    pub value : Value e.value

  -- ---- what a step changes fits

  cells_fit : (l : List ℕ) (i v : ℕ) → ((j : ℕ) → Value (get_or l j 0)) → Value v → (j : ℕ) → Value (get_or (set l i v) j 0)
  cells_fit l i v h k = each 0 (λ j n. Value n) l i v h k

  rest-fits : (P : Processor) (st : ProgramStep) (rest : List ProgramStep) → Fits P → P.todo ≡ st ∷ rest → StepFits st × All StepFits rest
  rest-fits P st rest f h = rw h at f.todo

  advanced-fits : (P : Processor) (rest : List ProgramStep) → Fits P → All StepFits rest → Fits (advanced P rest)
  unfolding advanced
  advanced-fits P rest f a = record { todo = a; kept = f.kept; registers = f.registers; waiting = f.waiting }

  pub assigned-fits : (P : Processor) (rest : List ProgramStep) (r v : ℕ) → Fits P → All StepFits rest → Value v → Fits (assigned P rest r v)
  unfolding assigned
  assigned-fits P rest r v f a h = record { todo = a; kept = f.kept; registers = cells_fit P.registers r v f.registers h; waiting = f.waiting }

  received-fits : (P : Processor) (rest : List ProgramStep) (to : Target) (v : ℕ) → Fits P → All StepFits rest → Value v → Fits (received P rest to v)
  unfolding received
  received-fits P rest (into r) v f a h = assigned-fits P rest r v f a h
  received-fits P rest aside v f a h = record { todo = a; kept = h; registers = f.registers; waiting = f.waiting }

  drained-fits : (P : Processor) (newer : List WaitingWrite) → Fits P → All WriteFits newer → Fits (drained P newer)
  unfolding drained
  drained-fits P newer f a = record { todo = f.todo; kept = f.kept; registers = f.registers; waiting = a }

  pub with-fits : (s : Machine) (p : ℕ) (P : Processor) → MachineFits s → Fits P → MachineFits (with_processor s p P)
  unfolding with_processor processor
  with-fits s p P f h = record { each-one = each idle (λ q Q. Fits Q) s.processors p P f.each-one h; memory = f.memory }

  pub cell-fits : (s : Machine) (x v : ℕ) → MachineFits s → Value v → MachineFits (with_cell s x v)
  unfolding with_cell processor
  cell-fits s x v f h = record { each-one = f.each-one; memory = cells_fit s.memory x v f.memory h }

  -- ---- what a processor sees and issues fits

  seen-fits : (ws : List WaitingWrite) (x m v : ℕ) (from : Origin) → Sees ws x m v from → All WriteFits ws → Value m → Value v
  seen-fits ws x m v from (from_buffer {v = u} older newer e n) a h = (all_middle WriteFits older newer (write_of x u) (subst (All WriteFits) e a)).1
  seen-fits ws x m v from (from_memory n) a h = h

  exchanged-fits : (P : Processor) (from : Source) → Fits P → (r : ℕ) → Value (get_or (exchanged P from) r 0)
  unfolding exchanged
  exchanged-fits P (constant v) f = f.registers
  exchanged-fits P (register r) f = f.registers
  exchanged-fits P (swapped r) f = cells_fit P.registers _ P.kept f.registers f.kept
  exchanged-fits P (added r) f = cells_fit P.registers _ P.kept f.registers f.kept

  module _ (reduced : (n : ℕ) → Value (n % values)) where
    issued-fits : (P : Processor) (from : Source) → Fits P → SourceFits from → Value (issued P from)
    unfolding issued in_register
    issued-fits P (constant v) f h = h
    issued-fits P (register r) f h = f.registers r
    issued-fits P (swapped r) f h = f.registers r
    issued-fits P (added r) f h = reduced (P.kept + in_register P r)

    wrote-fits : (P : Processor) (rest : List ProgramStep) (x : ℕ) (from : Source) → Fits P → All StepFits rest → StepFits (write x from) → Fits (wrote P rest x from)
    unfolding wrote
    wrote-fits P rest x from f a h = record {
      todo = a;
      kept = f.kept;
      registers = exchanged-fits P from f;
      waiting = all_append WriteFits P.waiting _ f.waiting ((h.0, issued-fits P from f h.1), tt);
    }

    -- ---- the event of a step that is allowed, and the machine after it

    pub event-fits : (s : Machine) (e : Event) (t : Machine) → Allowed s e t → MachineFits s → EventFits e
    unfolding cell
    event-fits s e t (Read {p} {x} {v} {rest = rest} {from = from} c h u) f = record {
      location = (rest-fits (processor s p) _ rest (f.each-one p) h).0;
      value = seen-fits (processor s p).waiting x (cell s x) v from u (f.each-one p).waiting (f.memory x);
    }
    event-fits s e t (Write {p} {x} {v} {from = from} {rest = rest} c h) f =
        let k = (rest-fits (processor s p) _ rest (f.each-one p) h).0 in
        record { location = k.0; value = subst Value (write-issues s p x v c h) (issued-fits (processor s p) from (f.each-one p) k.1) }
    event-fits s e t (Drain {p} c h) f = let k = rw h at (f.each-one p).waiting in record { location = k.0.0; value = k.0.1 }
    event-fits s e t (Fence c h) f = record { location = omega arith; value = reduced 0 }
    event-fits s e t (Lock c h g) f = record { location = omega arith; value = reduced 0 }
    event-fits s e t (Unlock c h g) f = record { location = omega arith; value = reduced 0 }
    event-fits s e t (Local c h) f = record { location = omega arith; value = reduced 0 }

    pub step_fits : (s : Machine) (e : Event) (t : Machine) → Allowed s e t → MachineFits s → MachineFits t
    unfolding with_holder processor
    step_fits s e t (Read {p} {x} {v} {to = to} {rest = rest} c h u) f =
        with-fits s p _ f
        (received-fits (processor s p) rest to v (f.each-one p) (rest-fits (processor s p) _ rest (f.each-one p) h).1 (event-fits s _ _ (Read {to = to} c h u) f).value)
    step_fits s e t (Write {p} {x} {from = from} {rest = rest} c h) f =
        let k = rest-fits (processor s p) _ rest (f.each-one p) h in
        with-fits s p _ f (wrote-fits (processor s p) rest x from (f.each-one p) k.1 k.0)
    step_fits s e t (Drain {p} {x} {v} {newer = newer} c h) f =
        let k = rw h at (f.each-one p).waiting in
        cell-fits (with_processor s p (drained (processor s p) newer)) x v (with-fits s p _ f (drained-fits (processor s p) newer (f.each-one p) k.1)) k.0.1
    step_fits s e t (Fence {p} {rest = rest} c h) f = with-fits s p _ f (advanced-fits (processor s p) rest (f.each-one p) (rest-fits (processor s p) _ rest (f.each-one p) h).1)
    step_fits s e t (Lock {p} {rest = rest} c h g) f =
        let k = with-fits s p _ f (advanced-fits (processor s p) rest (f.each-one p) (rest-fits (processor s p) _ rest (f.each-one p) h).1) in
        record { each-one = k.each-one; memory = k.memory }
    step_fits s e t (Unlock {p} {rest = rest} c h g) f =
        let k = with-fits s p _ f (advanced-fits (processor s p) rest (f.each-one p) (rest-fits (processor s p) _ rest (f.each-one p) h).1) in
        record { each-one = k.each-one; memory = k.memory }
    step_fits s e t (Local {p} {r} {v} {rest = rest} c h) f =
        let k = rest-fits (processor s p) _ rest (f.each-one p) h in
        with-fits s p _ f (assigned-fits (processor s p) rest r v (f.each-one p) k.1 k.0)
