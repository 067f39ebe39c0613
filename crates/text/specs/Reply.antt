-- The lines that the listing program prints for a reply (document 01, at the end of "The sheet's worked lines", and document 02, order 3).
use Rattle.std.specs.Prelude.{List, [], ◌∷◌, ◌++◌, ℕ, zero, suc, ◌*◌, take, drop, get_or}
use Rattle.model.specs.Reply.{Reply}
use Rattle.model.specs.Sizes.{processors, registers_each, locations, outcome_cells}
use Rattle.text.specs.Text.{decimal, spaced, line}

-- "finished "
abbrev pub finished_word : List ℕ
finished_word = 102 ∷ 105 ∷ 110 ∷ 105 ∷ 115 ∷ 104 ∷ 101 ∷ 100 ∷ 32 ∷ []

-- "own "
abbrev pub own_word : List ℕ
own_word = 111 ∷ 119 ∷ 110 ∷ 32 ∷ []

-- "refused "
abbrev pub refused_word : List ℕ
refused_word = 114 ∷ 101 ∷ 102 ∷ 117 ∷ 115 ∷ 101 ∷ 100 ∷ 32 ∷ []

-- " at "
abbrev pub at_word : List ℕ
at_word = 32 ∷ 97 ∷ 116 ∷ 32 ∷ []

unfoldable pub finished_line : ℕ → List ℕ
finished_line steps = line (finished_word ++ decimal steps)

-- "p", the processor, and its registers
unfoldable pub processor_line : List ℕ → ℕ → List ℕ
processor_line room p = line ((112 ∷ []) ++ (decimal p ++ spaced (take registers_each (drop (p * registers_each) room))))

-- the first n processors' lines
unfoldable pub processor_lines : List ℕ → ℕ → List ℕ
processor_lines room zero = []
processor_lines room (suc n) = processor_lines room n ++ processor_line room n

-- "m" and the locations
unfoldable pub memory_line : List ℕ → List ℕ
memory_line room = line ((109 ∷ []) ++ spaced (take locations (drop (processors * registers_each) room)))

-- "own" and how many reads own buffers served
unfoldable pub own_line : List ℕ → List ℕ
own_line room = line (own_word ++ decimal (get_or room outcome_cells 0))

unfoldable pub refused_line : ℕ → ℕ → List ℕ
refused_line number place = line (refused_word ++ (decimal number ++ (at_word ++ decimal place)))

-- by the number: 0 is a finished check
unfoldable pub lines_of : ℕ → ℕ → List ℕ → List ℕ
lines_of zero steps room = finished_line steps ++ (processor_lines room processors ++ (memory_line room ++ own_line room))
lines_of (suc n) place room = refused_line (suc n) place

unfoldable pub listed : Reply → List ℕ
unfolding lines_of
listed reply = lines_of reply.number reply.place reply.room
