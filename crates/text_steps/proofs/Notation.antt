-- What the functions for steps look up and put is the sheet's notation.
use mathlib.Core.Path.{◌≡◌, refl, sym, ap, ◌∙◌}
use mathlib.Core.List.{List, [], ◌∷◌, ◌++◌, append_assoc, append-nil}
use Prim.Native.Nat.{ℕ, zero, suc, ◌+◌}
use native.Mathlib.Omega.{arith}
use lib.ListN.{get_or}
use Rattle.model.specs.Record.{record_at, records_from}
use Rattle.model.specs.Rules.{Event}
use Rattle.model.proofs.Bytes.{records-split}
use Rattle.std.specs.Prelude.{Option, Some, None}
use Rattle.machine_rules.specs.declared.program.Step.{Step}
use Rattle.machine_rules.specs.declared.program.Step.TheVariants.{Read, Write, Drain, Fence, Lock, Unlock, Local}
use Rattle.machine_rules.specs.Steps.{step_of}
use Rattle.text_steps.specs.Steps.{letters, unknown, step_line, step_lines}

-- ---- by the kind of step

-- the letter of a step, or of a number that is no kind of step
abbrev pub letter_of : Option Step → ℕ
letter_of None = unknown
letter_of (Some Read) = 82
letter_of (Some Write) = 87
letter_of (Some Drain) = 68
letter_of (Some Fence) = 70
letter_of (Some Lock) = 76
letter_of (Some Unlock) = 85
letter_of (Some Local) = 78

pub letter_is : (kind : ℕ) (s : Option Step) → step_of kind ≡ s → letter_of s ≡ get_or letters kind unknown
unfolding step_of
letter_is kind s e = ap letter_of (sym e) ∙ go kind
  where
    go : (kind : ℕ) → letter_of (step_of kind) ≡ get_or letters kind unknown
    go zero = refl
    go (suc zero) = refl
    go (suc (suc zero)) = refl
    go (suc (suc (suc zero))) = refl
    go (suc (suc (suc (suc zero)))) = refl
    go (suc (suc (suc (suc (suc zero))))) = refl
    go (suc (suc (suc (suc (suc (suc zero)))))) = refl
    go (suc (suc (suc (suc (suc (suc (suc zero))))))) = refl
    go (suc (suc (suc (suc (suc (suc (suc (suc n)))))))) = refl

-- ---- one step more

lines-append : (es fs : List Event) → step_lines (es ++ fs) ≡ step_lines es ++ step_lines fs
unfolding step_lines
lines-append [] fs = refl
lines-append (e ∷ es) fs = rw (lines-append es fs, append_assoc)

pub one-more-step : (bytes : List ℕ) (i : ℕ)
    → step_lines (records_from bytes 0 i) ++ step_line (record_at bytes i) ≡ step_lines (records_from bytes 0 (i + 1))
unfolding step_lines records_from
one-more-step bytes i =
    let z : 0 + i ≡ i = omega arith in
    let one : step_lines (records_from bytes i 1) ≡ step_line (record_at bytes i) = append-nil (step_line (record_at bytes i)) in
    sym
    (ap step_lines (records-split bytes 0 i 1) ∙ lines-append (records_from bytes 0 i) (records_from bytes (0 + i) 1)
    ∙ (λ k. step_lines (records_from bytes 0 i) ++ step_lines (records_from bytes (z k) 1)) ∙ ap (λ (t : List ℕ). step_lines (records_from bytes 0 i) ++ t) one)
