-- Document 01's two listings, with the line that document 02, order 3, adds, byte by byte; and that line for line 6.
use mathlib.Core.Path.{◌≡◌, refl}
use mathlib.Core.List.{List, [], ◌∷◌}
use Prim.Native.Nat.{ℕ}
use Rattle.model.specs.declared.answer.Refusal.TheVariants.{StepRule}
use Rattle.model.specs.declared.answer.Condition.TheVariants.{NotRight}
use Rattle.std.specs.Prelude.{Ok, Err}
use Rattle.model.specs.Reply.{refusal_at, reply_of}
use Rattle.text.specs.Text.{digits_of, spaced}
use Rattle.text.specs.Reply.{processor_line, processor_lines, memory_line, own_line, finished_line, refused_line, lines_of, listed}

-- the room after line 1: sixteen registers, eight locations, and no read that an own buffer served
abbrev room : List ℕ
room = 0 ∷ 0 ∷ 0 ∷ 0 ∷ 0 ∷ 0 ∷ 0 ∷ 0 ∷ 0 ∷ 0 ∷ 0 ∷ 0 ∷ 0 ∷ 0 ∷ 0 ∷ 0 ∷ 1 ∷ 1 ∷ 0 ∷ 0 ∷ 0 ∷ 0 ∷ 0 ∷ 0 ∷ 0 ∷ []

pub line-one : listed (reply_of (Ok 6) room) ≡
    102 ∷ 105 ∷ 110 ∷ 105 ∷ 115 ∷ 104 ∷ 101 ∷ 100 ∷ 32 ∷ 54 ∷ 10 ∷  -- finished 6
    112 ∷ 48 ∷ 32 ∷ 48 ∷ 32 ∷ 48 ∷ 32 ∷ 48 ∷ 32 ∷ 48 ∷ 10 ∷  -- p0 0 0 0 0
    112 ∷ 49 ∷ 32 ∷ 48 ∷ 32 ∷ 48 ∷ 32 ∷ 48 ∷ 32 ∷ 48 ∷ 10 ∷  -- p1 0 0 0 0
    112 ∷ 50 ∷ 32 ∷ 48 ∷ 32 ∷ 48 ∷ 32 ∷ 48 ∷ 32 ∷ 48 ∷ 10 ∷  -- p2 0 0 0 0
    112 ∷ 51 ∷ 32 ∷ 48 ∷ 32 ∷ 48 ∷ 32 ∷ 48 ∷ 32 ∷ 48 ∷ 10 ∷  -- p3 0 0 0 0
    109 ∷ 32 ∷ 49 ∷ 32 ∷ 49 ∷ 32 ∷ 48 ∷ 32 ∷ 48 ∷ 32 ∷ 48 ∷ 32 ∷ 48 ∷ 32 ∷ 48 ∷ 32 ∷ 48 ∷ 10 ∷  -- m 1 1 0 0 0 0 0 0
    111 ∷ 119 ∷ 110 ∷ 32 ∷ 48 ∷ 10 ∷  -- own 0
    []
unfolding digits_of spaced processor_line processor_lines memory_line own_line finished_line lines_of listed
line-one = refl

pub line-two : listed (reply_of (Err (refusal_at (StepRule NotRight) 2)) room) ≡
    114 ∷ 101 ∷ 102 ∷ 117 ∷ 115 ∷ 101 ∷ 100 ∷ 32 ∷ 49 ∷ 53 ∷ 32 ∷ 97 ∷ 116 ∷ 32 ∷ 50 ∷ 10 ∷  -- refused 15 at 2
    []
unfolding digits_of refused_line lines_of listed
line-two = refl

-- the room after line 6: its read of x is served by its own waiting write
pub line-six : own_line (1 ∷ 0 ∷ 0 ∷ 0 ∷ 0 ∷ 0 ∷ 0 ∷ 0 ∷ 0 ∷ 0 ∷ 0 ∷ 0 ∷ 0 ∷ 0 ∷ 0 ∷ 0 ∷ 1 ∷ 2 ∷ 0 ∷ 0 ∷ 0 ∷ 0 ∷ 0 ∷ 0 ∷ 1 ∷ []) ≡
    111 ∷ 119 ∷ 110 ∷ 32 ∷ 49 ∷ 10 ∷  -- own 1
    []
unfolding digits_of own_line
line-six = refl
