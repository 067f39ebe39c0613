-- Where the tokens of a text lie (document 01, "The litmus text form").
use Rattle.std.specs.Prelude.{◌≡◌, Bool, true, false, List, [], ◌∷◌, ◌++◌, ℕ, zero, suc, ◌+◌, length}
use Rattle.litmus_model.specs.Bytes.{Token, is_blank, in_word, in_name, some, is_number, is_dollar, is_name}
use Rattle.litmus_model.specs.Forms.{not_exists}

-- a token, and the offset of its first byte
pub record Placed : Type 0 where
  pub at : ℕ
  pub token : Token

-- no such byte stands first
abbrev pub Stops : (ℕ → Bool) → List ℕ → Type 0
Stops f [] = Unit {0}
Stops f (b ∷ bs) = f b ≡ false

-- tokens that no letter or digit may follow
pub data Whole : Token → Type 0 where
  -- a word or number
  word : {w : Token} → some in_word w ≡ true → Whole w
  -- a constant in a row, and a negative one in braces
  dollar : {w : Token} → is_dollar w ≡ true → Whole w
  minus : {w : Token} → is_number w ≡ true → Whole (45 ∷ w)
  -- ~exists
  tilde : Whole not_exists

-- the token that stands here, before `rest`: such a one, or else any mark by itself
pub data Piece : Token → List ℕ → Type 0 where
  whole : {w : Token} {rest : List ℕ} → Whole w → Stops in_word rest → Piece w rest
  mark : {b : ℕ} {rest : List ℕ} → is_blank b ≡ false → ((w after : List ℕ) → w ++ after ≡ b ∷ rest → Whole w → ¬ Stops in_word after) → Piece (b ∷ []) rest

-- the second token: the name or, where there is none, the brace
pub data NamePiece : Token → List ℕ → Type 0 where
  name : {w : Token} {rest : List ℕ} → is_name w ≡ true → Stops in_name rest → NamePiece w rest
  brace : {rest : List ℕ} → NamePiece (123 ∷ []) rest

-- behind k tokens
abbrev pub PieceAt : ℕ → Token → List ℕ → Type 0
PieceAt zero w rest = Piece w rest
PieceAt (suc zero) w rest = NamePiece w rest
PieceAt (suc (suc k)) w rest = Piece w rest

-- the tokens of these bytes, the first of which has offset i, behind k tokens
pub data TokensFrom : (k i : ℕ) → List ℕ → List Placed → Type 0 where
  none : {k i : ℕ} → TokensFrom k i [] []
  blank : {k i b : ℕ} {bs : List ℕ} {ts : List Placed} → is_blank b ≡ true → TokensFrom k (suc i) bs ts → TokensFrom k i (b ∷ bs) ts
  token : {k i : ℕ} {w rest : List ℕ} {ts : List Placed} → PieceAt k w rest → TokensFrom (suc k) (i + length w) rest ts → TokensFrom k i (w ++ rest) (record { at = i; token = w } ∷ ts)

abbrev pub Tokens : List ℕ → List Placed → Type 0
Tokens text ts = TokensFrom 0 0 text ts
