-- k of a program: program step by program step, and instruction by instruction.
use mathlib.Core.Path.{◌≡◌, refl, sym, ap, ◌∙◌}
use mathlib.Core.List.{List, [], ◌∷◌, ◌++◌, map}
use Prim.Native.Nat.{ℕ, zero, suc, ◌+◌, ◌-◌, ◌*◌, ◌≤◌, ◌<◌}
use native.Mathlib.Numerals.{add-one}
use native.Mathlib.Omega.{arith}
use lib.ListN.{length, drop, length-map}
use lib.Seq.{drop-nil, drop-append-le}
use Rattle.std.proofs.lemmas.List.{drop_all}
use Rattle.std.specs.Prelude.{Option, Some, None, slice_index}
use Rattle.std.specs.Option.{MatchOption}
use Rattle.model.specs.Sizes.{phases, steps_each, instructions_each}
use Rattle.model.specs.Program.{ProgramStep, read, write, fence, lock, unlock, local}
use Rattle.model.specs.Rules.{kind_of}
use Rattle.model.specs.Kinds.{entry_of}
use Rattle.model.specs.Left.{writes}
use Rattle.model.proofs.Columns.{entry-weight}
use Rattle.machine_rules.specs.declared.program.Step.{Step}
use Rattle.machine_rules.specs.Steps.{steps_of_kind, step_kind, step_count, step_of, code_of, next_step}
use Rattle.finish_left.specs.Weight.{step_weight, weight, instruction_left, heaviest, kind_at, step_kinds_from, program_left, Countable}

-- ---- at most five for each instruction

pub steps-weight : (l : List ProgramStep) → weight (map kind_of l) ≡ length l + writes l
unfolding weight writes
steps-weight [] = refl
steps-weight (read x to ∷ l) = omega (arith, steps-weight l)
steps-weight (write x from ∷ l) = omega (arith, steps-weight l)
steps-weight (fence ∷ l) = omega (arith, steps-weight l)
steps-weight (lock ∷ l) = omega (arith, steps-weight l)
steps-weight (unlock ∷ l) = omega (arith, steps-weight l)
steps-weight (local r v ∷ l) = omega (arith, steps-weight l)

weight-append : (xs ys : List ℕ) → weight (xs ++ ys) ≡ weight xs + weight ys
unfolding weight
weight-append [] ys = omega arith
weight-append (x ∷ xs) ys = omega (arith, weight-append xs ys)

dropped : (f : ℕ) (l : List ℕ) → weight (drop f l) ≤ weight l
unfolding weight
dropped zero l = omega arith
dropped (suc f) [] = omega arith
dropped (suc f) (x ∷ l) = omega (arith, dropped f l)

few-steps : (k : ℕ) → (step_count k ≤ 4) × (writes (steps_of_kind k) ≤ 1)
unfolding step_count steps_of_kind
few-steps k = entry-weight (entry_of (record { kind = k; processor = 0; register = 0; location = 0; value = 0 }))

whole-light : (k : ℕ) → weight (map kind_of (steps_of_kind k)) ≤ steps_each
unfolding step_count
whole-light k = let w = few-steps k in let s = w.0 in let o = w.1 in omega (arith, steps-weight (steps_of_kind k))

-- ---- an instruction, step by step

abbrev pub weigh : Option Step → ℕ
weigh None = 0
weigh (Some s) = step_weight (code_of s)

pub weighs : (o : Option Step) (n : ℕ) → MatchOption o (n ≡ 0) (λ s. n ≡ step_weight (code_of s)) → n ≡ weigh o
weighs None n e = e
weighs (Some s) n e = e

first-weighs : (l : List ProgramStep) (f : ℕ) → weight (drop f (map kind_of l)) ≡ weigh (step_of (slice_index (map kind_of l) f)) + weight (drop (suc f) (map kind_of l))
unfolding weight step_of
first-weighs [] zero = refl
first-weighs [] (suc f) = refl
first-weighs (read x to ∷ l) zero = refl
first-weighs (write x from ∷ l) zero = refl
first-weighs (fence ∷ l) zero = refl
first-weighs (lock ∷ l) zero = refl
first-weighs (unlock ∷ l) zero = refl
first-weighs (local r v ∷ l) zero = refl
first-weighs (s ∷ l) (suc f) = first-weighs l f

module _ (kind f : ℕ) where
  -- k is counted, and the next step is number i
  pub record Weighed (k i : ℕ) : Type 0 where
    pub sum : k + instruction_left kind i ≡ instruction_left kind f

  pub starts : Weighed 0 f
  starts = record { sum = omega arith }

  pub light : instruction_left kind f ≤ steps_each
  light = omega (arith, dropped f (map kind_of (steps_of_kind kind)), whole-light kind)

  module _ (k i : ℕ) (w : Weighed k i) where
    -- the next one, if there is one, weighs n
    module _ (n : ℕ) (weighs : n ≡ weigh (next_step kind i)) where
      next : instruction_left kind i ≡ n + instruction_left kind (i + 1)
      unfolding step_kind
      next = rw (add-one i, weighs) (first-weighs (steps_of_kind kind) i)

      pub fits : k + n ≤ steps_each
      fits = let s = w.sum in omega (arith, next, light)

      pub past : Weighed (k + n) (i + 1)
      past = record { sum = let s = w.sum in omega (arith, next) }

    pub weighed : phases ≤ i → k ≡ instruction_left kind f
    unfolding step_count weight
    weighed l =
        let s = w.sum in
        let none : drop i (map kind_of (steps_of_kind kind)) ≡ [] = drop_all i (map kind_of (steps_of_kind kind)) (omega (arith, length-map (steps_of_kind kind) kind_of, (few-steps kind).0)) in
        omega (arith, ap weight none)

-- ---- a program, instruction by instruction

module _ (kinds : List ℕ) (p : ℕ) where
  abbrev steps : ℕ → List ℕ
  steps a = map kind_of (steps_of_kind (kind_at kinds p a))

  all-steps : (a n : ℕ) → weight (step_kinds_from kinds p a n) ≤ steps_each * n
  unfolding weight step_kinds_from
  all-steps a zero = omega arith
  all-steps a (suc n) =
      omega (arith, weight-append (steps a) (step_kinds_from kinds p (suc a) n), whole-light (kind_at kinds p a), all-steps (suc a) n)

  module _ (count at phase : ℕ) where
    -- k is counted, and the count stands at instruction a, at its step f
    pub record Counted (k a f : ℕ) : Type 0 where
      pub inside : a < count → f ≤ step_count (kind_at kinds p a)
      pub sum : k + program_left kinds p count a f ≡ program_left kinds p count at phase

    pub begins : Countable kinds p count at phase → Counted 0 at phase
    begins asks = record { inside = λ l. let i = asks.inside l in omega arith; sum = omega arith }

    whole : count ≤ instructions_each → program_left kinds p count at phase ≤ heaviest
    whole few = omega (arith, dropped phase (step_kinds_from kinds p at (count - at)), all-steps at (count - at))

    module _ (few : count ≤ instructions_each) (k a f : ℕ) (c : Counted k a f) where
      pub ends : count ≤ a → (k ≡ program_left kinds p count at phase) × (k ≤ heaviest)
      unfolding weight step_kinds_from
      ends l =
          let z : count - a ≡ 0 = omega arith in
          let s : k + weight [] ≡ program_left kinds p count at phase = rw (z, drop-nil {A = ℕ} f) at c.sum in
          (omega arith, omega (arith, whole few))

      module _ (l : a < count) (w : ℕ) (is : w ≡ instruction_left (kind_at kinds p a) f) where
        abbrev later : List ℕ
        later = step_kinds_from kinds p (suc a) (count - suc a)

        split : program_left kinds p count a f ≡ w + weight later
        unfolding step_kinds_from step_count
        split =
            let more : count - a ≡ suc (count - suc a) = omega arith in
            let o : f ≤ length (steps a) = let i = c.inside l in omega (arith, length-map (steps_of_kind (kind_at kinds p a)) kind_of) in
            ap (λ (n : ℕ). weight (drop f (step_kinds_from kinds p a n))) more ∙ ap weight (drop-append-le f (steps a) later o)
            ∙ weight-append (drop f (steps a)) later ∙ ap (λ (n : ℕ). n + weight later) (sym is)

        pub small : k + w ≤ heaviest
        small = let s = c.sum in omega (arith, split, whole few)

        pub goes_on : Counted (k + w) (a + 1) 0
        goes_on = record { inside = λ l. omega arith; sum = let s = c.sum in rw add-one (omega (arith, split)) }
