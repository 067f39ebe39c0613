-- What a step stores: the state after each. i is the instruction that its processor stands at, e the event.
use Rattle.std.specs.Prelude.{Bool, cond, List, ℕ, ◌+◌, ◌≤◌, ◌<◌, get_or, set, eqb, Option}
use Rattle.model.specs.declared.record.Record.{Record}
use Rattle.model.specs.declared.origin.Origin.{Origin}
use Rattle.model.specs.Code.{place_at, register_of, acts_of}
use Rattle.model.specs.Kinds.{table_rows}
use Rattle.model.specs.Rules.{Event, served}
use Rattle.model.specs.Sizes.{processors, registers_each, locations, instructions_each, phases, longest_trace}
use Rattle.machine_rules.specs.Steps.{step_count}
use Rattle.machine_state.specs.State.{State, parts}

-- ---- list by list: `kind` is that of the instruction that processor p stands at, c the place of its register among all

abbrev pub received_registers : List ℕ → ℕ → ℕ → ℕ → List ℕ
received_registers registers kind c v = cond (acts_of kind).loads (set registers c v) registers

abbrev pub received_kept : List ℕ → ℕ → ℕ → ℕ → List ℕ
received_kept kept kind p v = cond (acts_of kind).loads kept (set kept p v)

abbrev pub exchanged_registers : List ℕ → List ℕ → ℕ → ℕ → ℕ → List ℕ
exchanged_registers registers kept kind p c = cond (acts_of kind).exchanges (set registers c (get_or kept p 0)) registers

abbrev pub next_place : List ℕ → ℕ → ℕ
next_place issued p = place_at p (get_or issued p 0)

-- past one program step: the next one of the instruction or, after its last, the next instruction
abbrev pub is_last : List ℕ → ℕ → ℕ → Bool
is_last phase kind p = eqb (get_or phase p 0 + 1) (step_count kind)

abbrev pub next_at : List ℕ → List ℕ → ℕ → ℕ → List ℕ
next_at at phase kind p = cond (is_last phase kind p) (set at p (get_or at p 0 + 1)) at

abbrev pub next_phase : List ℕ → ℕ → ℕ → List ℕ
next_phase phase kind p = set phase p (cond (is_last phase kind p) 0 (get_or phase p 0 + 1))

-- ---- the whole state

abbrev pub after_drain : State → Event → State
after_drain m e =
    parts m.registers (set m.memory e.location e.value) m.kept m.at m.phase m.locations m.values m.issued
    (set m.drained e.processor (get_or m.drained e.processor 0 + 1)) m.holder m.own

abbrev pub assigned_in : State → Record → ℕ → State
assigned_in m i v =
    parts (set m.registers (register_of i) v) m.memory m.kept m.at m.phase m.locations m.values m.issued m.drained m.holder m.own

-- a load's read goes into register c, an exchange's is kept aside
abbrev pub received_at : State → Record → ℕ → ℕ → State
received_at m i c v =
    parts (received_registers m.registers i.kind c v) m.memory (received_kept m.kept i.kind i.processor v) m.at m.phase m.locations m.values m.issued
    m.drained m.holder m.own

-- into the instruction's own
abbrev pub received_in : State → Record → ℕ → State
received_in m i v = received_at m i (register_of i) v

-- a read, by where it got its value
abbrev pub counted_in : State → Origin → State
counted_in m from = parts m.registers m.memory m.kept m.at m.phase m.locations m.values m.issued m.drained m.holder (m.own + served from)

-- with an exchange's write register c takes the kept value
abbrev pub exchanged_in : State → Record → ℕ → State
exchanged_in m i c =
    parts (exchanged_registers m.registers m.kept i.kind i.processor c) m.memory m.kept m.at m.phase m.locations m.values m.issued m.drained
    m.holder m.own

-- a write joins the newest end of the own buffer
abbrev pub issued_in : State → Record → Event → State
issued_in m i e =
    let p = i.processor in
    parts m.registers m.memory m.kept m.at m.phase (set m.locations (next_place m.issued p) e.location) (set m.values (next_place m.issued p) e.value)
    (set m.issued p (get_or m.issued p 0 + 1)) m.drained m.holder m.own

abbrev pub wrote_in : State → Record → Event → State
wrote_in m i e = issued_in (exchanged_in m i (register_of i)) i e

abbrev pub held_in : State → Option ℕ → State
held_in m holder = parts m.registers m.memory m.kept m.at m.phase m.locations m.values m.issued m.drained holder m.own

abbrev pub advanced_in : State → Record → State
advanced_in m i =
    parts m.registers m.memory m.kept (next_at m.at m.phase i.kind i.processor) (next_phase m.phase i.kind i.processor) m.locations m.values m.issued
    m.drained m.holder m.own

-- ---- what the stores ask

-- an instruction's own register
pub record Own (i : Record) : Type 0 where
  pub processor : i.processor < processors
  pub register : i.register < registers_each

-- there is room for a write
pub record Issuable (m : State) (p : ℕ) : Type 0 where
  pub processor : p < processors
  pub few : get_or m.issued p 0 < instructions_each

-- there is a read to count
abbrev pub MayCount : State → Type 0
MayCount m = m.own < longest_trace

-- there is a write to drain
pub record Drainable (m : State) (p x : ℕ) : Type 0 where
  pub processor : p < processors
  pub location : x < locations
  pub few : get_or m.drained p 0 < instructions_each

-- the processor may go on: its numbers do not run over
pub record Onward (m : State) (i : Record) : Type 0 where
  pub processor : i.processor < processors
  pub known : i.kind < table_rows
  pub at : get_or m.at i.processor 0 ≤ instructions_each
  pub low : get_or m.phase i.processor 0 < phases
