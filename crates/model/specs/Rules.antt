-- When a step is allowed, or why it is turned down: document 01's seven rules, after Figure 1 of source 004, by document 02's five conditions; and runs of allowed steps.
-- Step.antt says the same as functions, and proofs/Conditions.antt, Steps.antt and Clears.antt show that they agree.
use Rattle.std.specs.Prelude.{◌≡◌, List, [], ◌∷◌, ◌++◌, ℕ, ◌+◌, length, get_or}
use Rattle.model.specs.declared.record.Record.{Record}
use Rattle.model.specs.declared.origin.Origin.{Origin}
use Rattle.model.specs.declared.origin.Origin.TheVariants.{Memory, Waiting}
use Rattle.model.specs.declared.answer.Condition.{Condition}
use Rattle.model.specs.declared.answer.Condition.TheVariants.{AnotherKind, NothingWaits, LockHeld, BufferNotEmpty, NotRight}
use Rattle.model.specs.Lists.{All}
use Rattle.model.specs.Program.{ProgramStep, read, write, fence, lock, unlock, local, Target, Source}
use Rattle.model.specs.Machine.{Machine, WaitingWrite, write_of, free, held, processor, cell, issued, advanced, assigned, received, wrote, drained, with_processor, with_cell, with_holder}

-- ---- steps as a trace records them: read, write, drain, fence, lock, unlock, local; a field that a kind does not use is 0

abbrev pub Event : Type 0
Event = Record

abbrev pub event : ℕ → ℕ → ℕ → ℕ → Event
event k p x v = record { kind = k; processor = p; register = 0; location = x; value = v }

abbrev pub R : ℕ → ℕ → ℕ → Event
R = event 1

abbrev pub W : ℕ → ℕ → ℕ → Event
W = event 2

abbrev pub D : ℕ → ℕ → ℕ → Event
D = event 3

abbrev pub F : ℕ → Event
F p = event 4 p 0 0

abbrev pub L : ℕ → Event
L p = event 5 p 0 0

abbrev pub U : ℕ → Event
U p = event 6 p 0 0

abbrev pub N : ℕ → Event
N p = event 7 p 0 0

-- the kind of a program step in a trace
abbrev pub kind_of : ProgramStep → ℕ
kind_of (read x to) = 1
kind_of (write x from) = 2
kind_of fence = 4
kind_of lock = 5
kind_of unlock = 6
kind_of (local r v) = 7

-- ---- the words of the rules

-- another processor than p holds the lock
abbrev pub Blocked : Machine → ℕ → Type 0
Blocked s p = (q : ℕ) × (s.holder ≡ held q) × ¬ (q ≡ p)

-- no write to x is among them
abbrev pub NoneTo : ℕ → List WaitingWrite → Type 0
NoneTo x ws = All (λ w. ¬ (w.location ≡ x)) ws

-- a read of x gives v, where m is in memory: the newest waiting write to x or, with none, memory; and which it is
pub data Sees (waiting : List WaitingWrite) (x m : ℕ) : ℕ → Origin → Type 0 where
  from_buffer : {v : ℕ} (older newer : List WaitingWrite) → waiting ≡ older ++ write_of x v ∷ newer → NoneTo x newer → Sees waiting x m v (Waiting (length older))
  from_memory : NoneTo x waiting → Sees waiting x m m Memory

-- location and value are the right ones: those of the next read or write, or of the oldest own waiting write
pub data Right (s : Machine) : Event → Type 0 where
  of_read : {p x v : ℕ} {to : Target} {rest : List ProgramStep} {from : Origin}
      → (processor s p).todo ≡ read x to ∷ rest → Sees (processor s p).waiting x (cell s x) v from
      → Right s (R p x v)
  of_write : {p x v : ℕ} {from : Source} {rest : List ProgramStep}
      → (processor s p).todo ≡ write x from ∷ rest → issued (processor s p) from ≡ v
      → Right s (W p x v)
  of_drain : {p x v : ℕ} {newer : List WaitingWrite}
      → (processor s p).waiting ≡ write_of x v ∷ newer
      → Right s (D p x v)

-- ---- the five conditions under which a step is turned down, and their numbers

abbrev pub Met : Condition → Machine → Event → Type 0
-- the program's next step is another kind, or the program has ended
Met AnotherKind s e = (next : ProgramStep) (rest : List ProgramStep) → (processor s e.processor).todo ≡ next ∷ rest → ¬ (kind_of next ≡ e.kind)
-- nothing waits to drain
Met NothingWaits s e = (processor s e.processor).waiting ≡ []
-- another processor holds the lock
Met LockHeld s e = Blocked s e.processor
-- own buffer not empty
Met BufferNotEmpty s e = ¬ ((processor s e.processor).waiting ≡ [])
-- location or value is not the right one
Met NotRight s e = ¬ Right s e

abbrev pub condition_number : Condition → ℕ
condition_number AnotherKind = 14
condition_number NothingWaits = 18
condition_number LockHeld = 16
condition_number BufferNotEmpty = 17
condition_number NotRight = 15

-- the conditions that each rule has, in the order in which they are tested: by the kind of the step, from 0 on, which is none
unfoldable pub conditions : ℕ → List Condition
conditions kind =
    get_or
    ([]
    ∷ (AnotherKind ∷ LockHeld ∷ NotRight ∷ [])  -- read
    ∷ (AnotherKind ∷ NotRight ∷ [])  -- write
    ∷ (NothingWaits ∷ LockHeld ∷ NotRight ∷ [])  -- drain
    ∷ (AnotherKind ∷ BufferNotEmpty ∷ [])  -- fence
    ∷ (AnotherKind ∷ LockHeld ∷ BufferNotEmpty ∷ [])  -- lock
    ∷ (AnotherKind ∷ BufferNotEmpty ∷ [])  -- unlock
    ∷ (AnotherKind ∷ [])  -- local
    ∷ [])
    kind
    []

-- c is the first of them that is met
pub data FirstMet (s : Machine) (e : Event) (c : Condition) : List Condition → Type 0 where
  here : {cs : List Condition} → Met c s e → FirstMet s e c (c ∷ cs)
  later : {d : Condition} {cs : List Condition} → ¬ Met d s e → FirstMet s e c cs → FirstMet s e c (d ∷ cs)

-- none of those that the rule of e has is met
abbrev pub Clear : Machine → Event → Type 0
Clear s e = All (λ c. ¬ Met c s e) (conditions e.kind)

-- ---- the rules. `Allowed s e t`: the machine s may take the step e, and is then t
-- What lock and unlock ask of the holder besides has no number: in a machine that a run reaches it never decides (proofs/Reasons.antt).

pub data Allowed (s : Machine) : Event → Machine → Type 0 where
  Read : {p x v : ℕ} {to : Target} {rest : List ProgramStep} {from : Origin}
      → Clear s (R p x v) → (processor s p).todo ≡ read x to ∷ rest → Sees (processor s p).waiting x (cell s x) v from
      → Allowed s (R p x v) (with_processor s p (received (processor s p) rest to v))
  Write : {p x v : ℕ} {from : Source} {rest : List ProgramStep}
      → Clear s (W p x v) → (processor s p).todo ≡ write x from ∷ rest
      → Allowed s (W p x v) (with_processor s p (wrote (processor s p) rest x from))
  Drain : {p x v : ℕ} {newer : List WaitingWrite}
      → Clear s (D p x v) → (processor s p).waiting ≡ write_of x v ∷ newer
      → Allowed s (D p x v) (with_cell (with_processor s p (drained (processor s p) newer)) x v)
  Fence : {p : ℕ} {rest : List ProgramStep}
      → Clear s (F p) → (processor s p).todo ≡ fence ∷ rest
      → Allowed s (F p) (with_processor s p (advanced (processor s p) rest))
  Lock : {p : ℕ} {rest : List ProgramStep}
      → Clear s (L p) → (processor s p).todo ≡ lock ∷ rest → s.holder ≡ free
      → Allowed s (L p) (with_holder (with_processor s p (advanced (processor s p) rest)) (held p))
  Unlock : {p : ℕ} {rest : List ProgramStep}
      → Clear s (U p) → (processor s p).todo ≡ unlock ∷ rest → s.holder ≡ held p
      → Allowed s (U p) (with_holder (with_processor s p (advanced (processor s p) rest)) free)
  Local : {p r v : ℕ} {rest : List ProgramStep}
      → Clear s (N p) → (processor s p).todo ≡ local r v ∷ rest
      → Allowed s (N p) (with_processor s p (assigned (processor s p) rest r v))

-- ---- the steps `events` lead from s to u, each allowed in turn

abbrev pub Run : Machine → List Event → Machine → Type 0
Run s [] u = s ≡ u
Run s (e ∷ es) u = (t : Machine) × Allowed s e t × Run t es u

-- ---- how many reads of a run own buffers served (document 02, order 3)

abbrev pub served : Origin → ℕ
served Memory = 0
served (Waiting position) = 1

-- of one step: 1 if it is a read whose value comes from a waiting write, and otherwise 0
unfoldable pub own_read : {s : Machine} {e : Event} {t : Machine} → Allowed s e t → ℕ
own_read (Read {from = from} c h sees) = served from
own_read (Write c h) = 0
own_read (Drain c h) = 0
own_read (Fence c h) = 0
own_read (Lock c h f) = 0
own_read (Unlock c h f) = 0
own_read (Local c h) = 0

-- of all steps of a run
unfoldable pub own_reads : (s : Machine) (events : List Event) (u : Machine) → Run s events u → ℕ
unfolding own_read
own_reads s [] u run = 0
own_reads s (e ∷ es) u run = own_read run.1 + own_reads run.0 es u run.2
