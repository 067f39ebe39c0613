-- k of processor p's program, by the kinds of its instructions.
use Rattle.std.specs.Prelude.{cond, get_or, drop, eqb}
use mathlib.Core.List.{List, [], ◌∷◌, ◌++◌, map}
use Prim.Native.Nat.{ℕ, zero, suc, ◌+◌, ◌-◌, ◌*◌, ◌≤◌, ◌<◌}
use Rattle.model.specs.Sizes.{processors, instructions_each, steps_each}
use Rattle.model.specs.Rules.{kind_of}
use Rattle.model.specs.Kinds.{table_rows}
use Rattle.model.specs.Code.{place_at}
use Rattle.machine_rules.specs.Steps.{steps_of_kind, step_count}

-- of a program step, by its kind
abbrev pub step_weight : ℕ → ℕ
step_weight kind = cond (eqb kind 2) 2 1

-- of steps of these kinds
unfoldable pub weight : List ℕ → ℕ
weight [] = 0
weight (kind ∷ rest) = step_weight kind + weight rest

-- of an instruction of this kind, from program step f on
abbrev pub instruction_left : (kind f : ℕ) → ℕ
instruction_left kind f = weight (drop f (map kind_of (steps_of_kind kind)))

-- no program weighs more
abbrev pub heaviest : ℕ
heaviest = steps_each * instructions_each

module _ (kinds : List ℕ) (p : ℕ) where
  abbrev pub kind_at : ℕ → ℕ
  kind_at a = get_or kinds (place_at p a) 0

  -- the kinds of the program steps of n instructions, from instruction a on
  unfoldable pub step_kinds_from : ℕ → ℕ → List ℕ
  unfolding steps_of_kind
  step_kinds_from a zero = []
  step_kinds_from a (suc n) = map kind_of (steps_of_kind (kind_at a)) ++ step_kinds_from (suc a) n

  -- of `count` instructions, at instruction a, of which f program steps are taken
  abbrev pub program_left : (count a f : ℕ) → ℕ
  program_left count a f = weight (drop f (step_kinds_from a (count - a)))

  -- what it asks: every instruction has a program step, and the one at a has one that is not taken
  pub record Countable (count a f : ℕ) : Type 0 where
    pub processor : p < processors
    pub few : count ≤ instructions_each
    pub each : (b : ℕ) → b < count → (kind_at b < table_rows) × (0 < step_count (kind_at b))
    pub inside : a < count → f < step_count (kind_at a)
