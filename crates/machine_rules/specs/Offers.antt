-- The step that a processor can come to, as an event; of kind 0 with none. i is the instruction that it stands at.
use Rattle.std.specs.Prelude.{◌≡◌, ℕ, ◌*◌, ◌<◌, ◌≤◌, cond, List, [], ◌∷◌, length, ◌==◌, slice_index}
use Rattle.std.proofs.Math.Seq.{slice}
use Rattle.model.specs.Code.{place_at, acts_of}
use Rattle.model.specs.declared.record.Record.{Record}
use Rattle.model.specs.Sizes.{processors, instructions_each}
use Rattle.model.specs.Machine.{WaitingWrite, write_of}
use Rattle.model.specs.Rules.{Event, event}
use Rattle.model.specs.Step.{seen_in}
use Rattle.machine_rules.specs.Steps.{step_kind}

-- ---- the log of issued writes

-- two columns as one list of writes
unfoldable pub writes_in : List ℕ → List ℕ → List WaitingWrite
writes_in [] vs = []
writes_in (x ∷ xs) [] = []
writes_in (x ∷ xs) (v ∷ vs) = write_of x v ∷ writes_in xs vs

-- those of processor p that wait, oldest first
abbrev pub waiting_from : List ℕ → List ℕ → ℕ → ℕ → ℕ → List WaitingWrite
waiting_from xs vs issued drained p = writes_in (slice (place_at p drained) (place_at p issued) xs) (slice (place_at p drained) (place_at p issued) vs)

-- of processor p's writes so many are issued, and so many drained
pub record Part (issued drained p : ℕ) : Type 0 where
  pub processor : p < processors
  pub order : drained ≤ issued
  pub few : issued ≤ instructions_each

-- the log of processor p
pub record Log (xs vs : List ℕ) (issued drained p : ℕ) : Type 0 where
  pub part : Part issued drained p
  pub locations : length xs ≡ processors * instructions_each
  pub values : length vs ≡ processors * instructions_each

-- ---- the steps

module _ (locations values : List ℕ) (issued drained : ℕ) where
  unfoldable pub oldest_in : ℕ → Event
  oldest_in p = cond (drained == issued) (event 0 p 0 0) (event 3 p (slice_index locations (place_at p drained)) (slice_index values (place_at p drained)))

  module _ (kept register memory : ℕ) (i : Record) where
    unfoldable pub next_in : ℕ → Event
    next_in next =
        let p = i.processor in
        let x = i.location in
        cond (next == 1) (event 1 p x (seen_in (waiting_from locations values issued drained p) x memory))
        (cond (next == 2) (event 2 p x ((acts_of i.kind).issues i.value kept register)) (event next p 0 0))

    unfoldable pub offered_in : ℕ → ℕ → Event
    unfolding oldest_in next_in
    offered_in phase kind = cond (kind == 3) (oldest_in i.processor) (next_in (step_kind i.kind phase))
