-- Where a place of a text stands: its line and its column, and the part of its line that is shown.
use Rattle.std.specs.Prelude.{◌≡◌, cond, List, [], ◌∷◌, ℕ, zero, suc, ◌+◌, ◌≤◌, eqb, length, drop, get_or}
use Rattle.text_fault.specs.declared.position.Position.{Position}
use Rattle.std.specs.declared.ops.Range.{Range}

-- how many lines end before the place: with byte 10
unfoldable pub ends_before : List ℕ → ℕ → ℕ
ends_before text zero = 0
ends_before text (suc i) = cond (eqb (get_or text i 0) 10) (suc (ends_before text i)) (ends_before text i)

-- how many bytes stand between the last of these ends, or the beginning of the text, and the place
unfoldable pub since : List ℕ → ℕ → ℕ
since text zero = 0
since text (suc i) = cond (eqb (get_or text i 0) 10) 0 (suc (since text i))

pub record Stands (text : List ℕ) (place : ℕ) (p : Position) : Type 0 where
  pub line : p.line ≡ ends_before text place + 1
  pub column : p.column ≡ since text place + 1
  pub inside : p.column ≤ place + 1

-- how many bytes stand before the next end of a line, or the end of the text
unfoldable pub up_to_end : List ℕ → ℕ
up_to_end [] = 0
up_to_end (b ∷ bs) = cond (eqb b 10) 0 (suc (up_to_end bs))

-- where the line ends that the place is on
abbrev pub end_of : List ℕ → ℕ → ℕ
end_of text place = place + up_to_end (drop place text)

-- a part of the bytes from `start` up to `end`, with the place in it or at its end
pub record Within (width start place end : ℕ) (p : Range ℕ) : Type 0 where
  pub begins : start ≤ p.start
  pub before : p.start ≤ place
  pub behind : place ≤ p.end
  pub ends : p.end ≤ end
  pub narrow : p.end ≤ p.start + width

-- a part of the line from `start`: all of it, if it is not too wide
pub record Around (width : ℕ) (text : List ℕ) (start place : ℕ) (p : Range ℕ) : Type 0 where
  pub within : Within width start place (end_of text place) p
  pub inside : p.end ≤ length text
  pub whole : end_of text place ≤ start + width → (p.start ≡ start) × (p.end ≡ end_of text place)
