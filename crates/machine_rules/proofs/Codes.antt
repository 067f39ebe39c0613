-- Steps and their numbers.
use mathlib.Core.Path.{◌≡◌, refl, sym, ap, ◌∙◌}
use Prim.Native.Nat.{ℕ, zero, suc, ◌<◌}
use native.Mathlib.Omega.{arith}
use Rattle.std.specs.Prelude.{Option, Some, None}
use Rattle.machine_rules.specs.declared.program.Step.{Step}
use Rattle.machine_rules.specs.Steps.{step_of, code_of}

-- of a step, or 0
abbrev code_or : Option Step → ℕ
code_or None = 0
code_or (Some s) = code_of s

step-back : (n : ℕ) → n < 8 → code_or (step_of n) ≡ n
unfolding step_of
step-back zero h = refl
step-back (suc zero) h = refl
step-back (suc (suc zero)) h = refl
step-back (suc (suc (suc zero))) h = refl
step-back (suc (suc (suc (suc zero)))) h = refl
step-back (suc (suc (suc (suc (suc zero))))) h = refl
step-back (suc (suc (suc (suc (suc (suc zero)))))) h = refl
step-back (suc (suc (suc (suc (suc (suc (suc zero))))))) h = refl
step-back (suc (suc (suc (suc (suc (suc (suc (suc n)))))))) h = absurd (omega arith)

-- a known kind has its step
pub no_step : (n : ℕ) → 0 < n → n < 8 → ¬ (step_of n ≡ None)
no_step n h k z = absurd (omega (arith, sym (step-back n k) ∙ ap code_or z))

-- the number of a step is the one that it was made from
pub code-is : (s : Step) (n : ℕ) → Some s ≡ step_of n → code_of s ≡ n
unfolding step_of
code-is s zero z = absurd (omega (arith, ap is_some z))
  where
    is_some : Option Step → ℕ
    is_some None = 0
    is_some (Some s) = 1
code-is s (suc zero) z = ap code_or z
code-is s (suc (suc zero)) z = ap code_or z
code-is s (suc (suc (suc zero))) z = ap code_or z
code-is s (suc (suc (suc (suc zero)))) z = ap code_or z
code-is s (suc (suc (suc (suc (suc zero))))) z = ap code_or z
code-is s (suc (suc (suc (suc (suc (suc zero)))))) z = ap code_or z
code-is s (suc (suc (suc (suc (suc (suc (suc zero))))))) z = ap code_or z
code-is s (suc (suc (suc (suc (suc (suc (suc (suc n)))))))) z = absurd (omega (arith, ap is_some z))
  where
    is_some : Option Step → ℕ
    is_some None = 0
    is_some (Some s) = 1
