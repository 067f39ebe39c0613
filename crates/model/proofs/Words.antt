-- Every machine that a run reaches has its 24 cells, a result has 25 words, and k records are 8k bytes: so a call gives back a room as long as it was lent.
use mathlib.Core.Path.{◌≡◌, refl, ◌∙◌}
use mathlib.Core.List.{List, [], ◌∷◌}
use Prim.Native.Nat.{ℕ, zero, suc, ◌*◌}
use native.Mathlib.Omega.{arith}
use lib.ListN.{length, get_or, set, length-append, length-set}
use Rattle.model.specs.declared.record.Record.{Record}
use Rattle.model.specs.Sizes.{outcome_cells, result_words}
use Rattle.model.specs.Record.{file_of}
use Rattle.model.specs.Program.{ProgramStep, Target, into, aside, Source, constant, register, swapped, added}
use Rattle.model.specs.Machine.{Machine, Processor, processor, idle, with_processor, with_holder, with_cell, advanced, received, wrote, assigned, drained, exchanged}
use Rattle.model.specs.Rules.{Event, Allowed, Read, Write, Drain, Fence, Lock, Unlock, Local, Run}
use Rattle.model.specs.Kinds.{Entry, initial_memory, initial_register, instruction}
use Rattle.model.specs.Table.{enter, enter_all, empty, start}
use Rattle.model.specs.Reply.{registers_in, outcome, words}
use Rattle.model.proofs.Runs.{run-keeps}

-- a processor replaced by one with as many registers
registers-kept : (Ps : List Processor) (p : ℕ) (P : Processor) → length P.registers ≡ length (get_or Ps p idle).registers
    → length (registers_in (set Ps p P)) ≡ length (registers_in Ps)
unfolding registers_in
registers-kept [] p P h = refl
registers-kept (Q ∷ Qs) zero P h = simp length-append (omega arith)
registers-kept (Q ∷ Qs) (suc p) P h = simp length-append (omega (arith, registers-kept Qs p P h))

with-outcome : (s : Machine) (p : ℕ) (P : Processor) → length P.registers ≡ length (processor s p).registers
    → length (outcome (with_processor s p P)) ≡ length (outcome s)
unfolding outcome with_processor processor
with-outcome s p P h = simp length-append (omega (arith, registers-kept s.processors p P h))

cell-outcome : (s : Machine) (x v : ℕ) → length (outcome (with_cell s x v)) ≡ length (outcome s)
unfolding outcome with_cell
cell-outcome s x v = simp (length-append, length-set)

-- ---- a step keeps the number of cells

received-registers : (P : Processor) (rest : List ProgramStep) (to : Target) (v : ℕ) → length (received P rest to v).registers ≡ length P.registers
unfolding received
received-registers P rest (into r) v = length-set P.registers r v
received-registers P rest aside v = refl

exchanged-registers : (P : Processor) (from : Source) → length (exchanged P from) ≡ length P.registers
unfolding exchanged
exchanged-registers P (constant v) = refl
exchanged-registers P (register r) = refl
exchanged-registers P (swapped r) = simp length-set
exchanged-registers P (added r) = simp length-set

step-outcome : (s : Machine) (e : Event) (t : Machine) → Allowed s e t → length (outcome t) ≡ length (outcome s)
unfolding advanced assigned wrote drained with_holder outcome
step-outcome s e t (Read {p} {v = v} {to = to} {rest = rest} c h u) = with-outcome s p _ (received-registers (processor s p) rest to v)
step-outcome s e t (Write {p} {from = from} c h) = with-outcome s p _ (exchanged-registers (processor s p) from)
step-outcome s e t (Drain {p} {x} {v} c h) = cell-outcome (with_processor s p _) x v ∙ with-outcome s p _ refl
step-outcome s e t (Fence {p} c h) = with-outcome s p _ refl
step-outcome s e t (Lock {p} c h f) = with-outcome s p _ refl
step-outcome s e t (Unlock {p} c h f) = with-outcome s p _ refl
step-outcome s e t (Local {p} {r} {v} c h) = with-outcome s p _ (length-set (processor s p).registers r v)

-- ---- and so does a table's entry

enter-outcome : (s : Machine) (a : Entry) → length (outcome (enter s a)) ≡ length (outcome s)
unfolding enter
enter-outcome s (initial_memory x v) = cell-outcome s x v
enter-outcome s (initial_register p r v) = with-outcome s p _ (length-set (processor s p).registers r v)
enter-outcome s (instruction p i) = with-outcome s p _ refl

enter-all-outcome : (es : List Entry) (s : Machine) → length (outcome (enter_all s es)) ≡ length (outcome s)
unfolding enter_all
enter-all-outcome [] s = refl
enter-all-outcome (e ∷ es) s = enter-all-outcome es (enter s e) ∙ enter-outcome s e

start-outcome : (entries : List Entry) → length (outcome (start entries)) ≡ outcome_cells
unfolding start outcome empty
start-outcome entries = enter-all-outcome entries empty

pub reached-outcome : (entries : List Entry) (es : List Event) (s : Machine) → Run (start entries) es s → length (outcome s) ≡ outcome_cells
reached-outcome entries es s r =
    run-keeps (λ (t : Machine). length (outcome t) ≡ outcome_cells) (λ t e u a h. step-outcome t e u a ∙ h) es (start entries) s r (start-outcome entries)

pub words-length : (entries : List Entry) (es : List Event) (s : Machine) (own : ℕ) → Run (start entries) es s → length (words s own) ≡ result_words
unfolding words
words-length entries es s own r = rw (length-append (outcome s) (own ∷ []), reached-outcome entries es s r)

-- ---- records as bytes

pub file-length : (rs : List Record) → length (file_of rs) ≡ 8 * length rs
unfolding file_of
file-length [] = refl
file-length (r ∷ rs) = omega (arith, file-length rs)
