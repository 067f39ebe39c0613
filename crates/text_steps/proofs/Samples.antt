-- Steps in document 01's notation, byte by byte.
use mathlib.Core.Path.{◌≡◌, refl}
use mathlib.Core.List.{[], ◌∷◌}
use Rattle.std.specs.Prelude.{Ok}
use Rattle.model.specs.Record.{record_at, records_from, file_of}
use Rattle.model.specs.Rules.{R, W, D, F, L, U, N}
use Rattle.model.specs.Reply.{reply_of}
use Rattle.text.specs.Text.{digits_of}
use Rattle.text_steps.specs.Steps.{access, step_line, step_lines, shown_by, shown}

pub line-four : shown (reply_of (Ok 6) (file_of (W 0 0 1 ∷ D 0 0 1 ∷ R 0 1 0 ∷ W 1 1 1 ∷ D 1 1 1 ∷ R 1 0 1 ∷ []))) ≡
    87 ∷ 48 ∷ 32 ∷ 120 ∷ 49 ∷ 10 ∷  -- W0 x1
    68 ∷ 48 ∷ 32 ∷ 120 ∷ 49 ∷ 10 ∷  -- D0 x1
    82 ∷ 48 ∷ 32 ∷ 121 ∷ 48 ∷ 10 ∷  -- R0 y0
    87 ∷ 49 ∷ 32 ∷ 121 ∷ 49 ∷ 10 ∷  -- W1 y1
    68 ∷ 49 ∷ 32 ∷ 121 ∷ 49 ∷ 10 ∷  -- D1 y1
    82 ∷ 49 ∷ 32 ∷ 120 ∷ 49 ∷ 10 ∷  -- R1 x1
    []
unfolding digits_of record_at records_from file_of access step_line step_lines shown_by shown
line-four = refl

pub other-steps : step_lines (L 0 ∷ U 0 ∷ F 1 ∷ N 3 ∷ R 2 7 4294967295 ∷ []) ≡
    76 ∷ 48 ∷ 10 ∷  -- L0
    85 ∷ 48 ∷ 10 ∷  -- U0
    70 ∷ 49 ∷ 10 ∷  -- F1
    78 ∷ 51 ∷ 10 ∷  -- N3
    82 ∷ 50 ∷ 32 ∷ 101 ∷ 52 ∷ 50 ∷ 57 ∷ 52 ∷ 57 ∷ 54 ∷ 55 ∷ 50 ∷ 57 ∷ 53 ∷ 10 ∷  -- R2 e4294967295
    []
unfolding digits_of access step_line step_lines
other-steps = refl
