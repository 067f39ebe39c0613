-- A part of a line as it is shown, and the mark under a place of it.
use Rattle.std.specs.Prelude.{cond, ◌&&◌, List, [], ◌∷◌, ◌++◌, ℕ, zero, suc, ◌+◌, eqb, leb, get_or}
use Rattle.text.specs.Text.{decimal, line}
use Rattle.text.specs.Reply.{refused_word, at_word}

-- one column for each byte: itself, " " for a carriage return, "?" for another that has no sign
abbrev pub sign_of : ℕ → ℕ
sign_of b = cond (eqb b 13) 32 (cond (leb 32 b && leb b 126) b 63)

-- the signs of n bytes, from a place on
unfoldable pub signs : List ℕ → ℕ → ℕ → List ℕ
signs text from zero = []
signs text from (suc n) = signs text from n ++ (sign_of (get_or text (from + n) 0) ∷ [])

unfoldable pub blanks : ℕ → List ℕ
blanks zero = []
blanks (suc n) = blanks n ++ (32 ∷ [])

-- two columns to the right
abbrev pub indented : List ℕ → List ℕ
indented text = (32 ∷ 32 ∷ []) ++ text

-- n bytes, from a place on
unfoldable pub shown_line : List ℕ → ℕ → ℕ → List ℕ
unfolding signs
shown_line text from n = line (indented (signs text from n))

-- "^" under the byte behind k of them
unfoldable pub mark_line : ℕ → List ℕ
unfolding blanks
mark_line k = indented (blanks k ++ (94 ∷ 10 ∷ []))

-- ": line "
abbrev line_word : List ℕ
line_word = 58 ∷ 32 ∷ 108 ∷ 105 ∷ 110 ∷ 101 ∷ 32 ∷ []

-- ", column "
abbrev column_word : List ℕ
column_word = 44 ∷ 32 ∷ 99 ∷ 111 ∷ 108 ∷ 117 ∷ 109 ∷ 110 ∷ 32 ∷ []

unfoldable pub position_words : ℕ → ℕ → List ℕ
position_words row column = line (line_word ++ (decimal row ++ (column_word ++ decimal column)))

-- "refused 19 at 52: line 4, column 3"
unfoldable pub fault_line : ℕ → ℕ → ℕ → ℕ → List ℕ
unfolding position_words
fault_line number place row column = refused_word ++ (decimal number ++ (at_word ++ (decimal place ++ position_words row column)))
