-- What the lookup asks and promises.
use Rattle.std.specs.Prelude.{◌≡◌, ℕ, ◌+◌, ◌*◌, ◌<◌, List, length, slice_index}
use Rattle.model.specs.declared.origin.Origin.{Origin}
use Rattle.model.specs.declared.origin.Origin.TheVariants.{Memory, Waiting}
use Rattle.model.specs.Sizes.{processors, instructions_each}
use Rattle.model.specs.Step.{origin_in}
use Rattle.machine_rules.specs.Offers.{writes_in, waiting_from}

-- ---- the origin, whatever the values are

pub record Finds (xs : List ℕ) (x : ℕ) (r : Origin) : Type 0 where
  pub says : (vs : List ℕ) → length xs ≡ length vs → r ≡ origin_in (writes_in xs vs) x

pub record FindsIn (xs : List ℕ) (issued drained p x : ℕ) (r : Origin) : Type 0 where
  pub says : (vs : List ℕ) → length vs ≡ processors * instructions_each → r ≡ origin_in (waiting_from xs vs issued drained p) x

-- ---- the value, where the oldest waiting write is at place k of the log

abbrev pub value_at : List ℕ → ℕ → Origin → ℕ → ℕ
value_at vs k Memory m = m
value_at vs k (Waiting i) m = slice_index vs (k + i)

abbrev pub Reaches : Origin → ℕ → Type 0
Reaches Memory k = Unit {0}
Reaches (Waiting i) k = k + i < processors * instructions_each
