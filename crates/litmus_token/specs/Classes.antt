-- Classes of bytes.
use Rattle.std.specs.Prelude.{Bool, ℕ}
use Rattle.litmus_model.specs.Bytes.{is_blank, is_digit, in_word, in_name}
use Rattle.litmus_token.specs.declared.tokens.Class.{Class}
use Rattle.litmus_token.specs.declared.tokens.Class.TheVariants.{Word, Name, Blank, Digit}

-- letters and digits, what a name is made of, blanks, digits
abbrev pub class_of : Class → ℕ → Bool
class_of Word b = in_word b
class_of Name b = in_name b
class_of Blank b = is_blank b
class_of Digit b = is_digit b
