-- The program steps of a kind of instruction, by the numbers that a trace gives them.
use Rattle.std.specs.Prelude.{ℕ, List, [], ◌∷◌, map, length, slice_index, get_or, Option, Some, None, ◌≡◌, Result, Ok, Err}
use Rattle.model.specs.Program.{ProgramStep}
use Rattle.model.specs.Rules.{kind_of}
use Rattle.model.specs.Kinds.{entry_of}
use Rattle.model.specs.Code.{steps_in}
use Rattle.machine_rules.specs.declared.program.Step.{Step}
use Rattle.machine_rules.specs.declared.program.NoStep.{NoStep}
use Rattle.machine_rules.specs.declared.program.Step.TheVariants.{Read, Write, Drain, Fence, Lock, Unlock, Local}

-- the program steps of an instruction of kind k, whatever its fields
unfoldable pub steps_of_kind : ℕ → List ProgramStep
unfolding steps_in entry_of
steps_of_kind k = steps_in (entry_of (record { kind = k; processor = 0; register = 0; location = 0; value = 0 }))

-- the kind of step f of them, or 0 with none
unfoldable pub step_kind : ℕ → ℕ → ℕ
unfolding steps_of_kind
step_kind k f = slice_index (map kind_of (steps_of_kind k)) f

unfoldable pub step_count : ℕ → ℕ
unfolding steps_of_kind
step_count k = length (steps_of_kind k)

-- ---- as the code names them

abbrev pub code_of : Step → ℕ
code_of Read = 1
code_of Write = 2
code_of Drain = 3
code_of Fence = 4
code_of Lock = 5
code_of Unlock = 6
code_of Local = 7

-- the step of a number, if it is one of a kind of step
unfoldable pub step_of : ℕ → Option Step
step_of kind = get_or (None ∷ Some Read ∷ Some Write ∷ Some Drain ∷ Some Fence ∷ Some Lock ∷ Some Unlock ∷ Some Local ∷ []) kind None

abbrev pub Decodes : ℕ → Result Step NoStep → Type 0
Decodes kind (Ok s) = step_of kind ≡ Some s
Decodes kind (Err e) = step_of kind ≡ None

-- step f of the program steps of an instruction of kind k, if there is one
abbrev pub next_step : ℕ → ℕ → Option Step
next_step k f = step_of (step_kind k f)
