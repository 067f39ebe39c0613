-- Text as its bytes.
use Rattle.std.specs.Prelude.{◌≡◌, cond, List, [], ◌∷◌, ◌++◌, ℕ, zero, suc, ◌+◌, ◌/◌, ◌%◌, ◌≤◌, ltb, length, take, drop}

-- a buffer before and after a text was put into it, from the place `from` up to the place `to`: nothing else of it is changed
pub record Adds (before : List ℕ) (from : ℕ) (text after : List ℕ) (to : ℕ) : Type 0 where
  pub fits : to ≤ length before
  pub place : to ≡ from + length text
  pub stands : after ≡ take from before ++ (text ++ drop to before)

-- a digit below 10; 48 is "0"
abbrev pub digit : ℕ → ℕ
digit d = 48 + d

-- the decimal digits of n, of which there are at most `most`
unfoldable pub digits_of : ℕ → ℕ → List ℕ
digits_of zero n = []
digits_of (suc most) n = cond (ltb n 10) (digit n ∷ []) (digits_of most (n / 10) ++ (digit (n % 10) ∷ []))

-- a number of 64 bits has at most twenty digits
abbrev pub decimal : ℕ → List ℕ
decimal n = digits_of 20 n

-- each number with a space before it
unfoldable pub spaced : List ℕ → List ℕ
spaced [] = []
spaced (n ∷ ns) = (32 ∷ decimal n) ++ spaced ns

-- a line ends with one byte 10
abbrev pub line : List ℕ → List ℕ
line text = text ++ (10 ∷ [])
