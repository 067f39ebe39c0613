-- The forms of initial cells and of instructions, and what their tokens say (document 01, "The litmus text form").
use Rattle.std.specs.Prelude.{Bool, cond, ◌||◌, List, [], ◌∷◌, ℕ, zero, suc, ◌+◌, ◌-◌, ◌/◌, ◌%◌, get_or, drop, eqb, ltb, ℤ, pos, negsuc}
use Rattle.std.proofs.Math.Option.{Option, none, some}
use Rattle.litmus_model.specs.Bytes.{Token, same, is_number, is_constant, is_dollar, is_location, is_register, value_of, value_from}

-- ---- tokens that stand for themselves

abbrev pub X86 : Token
X86 = 88 ∷ 56 ∷ 54 ∷ []  -- X86

abbrev pub opening : Token
opening = 123 ∷ []  -- {

abbrev pub closing : Token
closing = 125 ∷ []  -- }

abbrev pub equals : Token
equals = 61 ∷ []  -- =

abbrev pub colon : Token
colon = 58 ∷ []  -- :

abbrev pub semicolon : Token
semicolon = 59 ∷ []  -- ;

abbrev pub bar : Token
bar = 124 ∷ []  -- |

abbrev pub bracket : Token
bracket = 91 ∷ []  -- [

abbrev pub unbracket : Token
unbracket = 93 ∷ []  -- ]

abbrev pub comma : Token
comma = 44 ∷ []  -- ,

abbrev pub MFENCE : Token
MFENCE = 77 ∷ 70 ∷ 69 ∷ 78 ∷ 67 ∷ 69 ∷ []  -- MFENCE

abbrev pub MOV : Token
MOV = 77 ∷ 79 ∷ 86 ∷ []  -- MOV

abbrev pub XCHG : Token
XCHG = 88 ∷ 67 ∷ 72 ∷ 71 ∷ []  -- XCHG

abbrev pub XADD : Token
XADD = 88 ∷ 65 ∷ 68 ∷ 68 ∷ []  -- XADD

abbrev pub LOCK : Token
LOCK = 76 ∷ 79 ∷ 67 ∷ 75 ∷ []  -- LOCK

abbrev pub exists : Token
exists = 101 ∷ 120 ∷ 105 ∷ 115 ∷ 116 ∷ 115 ∷ []  -- exists

abbrev pub not_exists : Token
not_exists = 126 ∷ 101 ∷ 120 ∷ 105 ∷ 115 ∷ 116 ∷ 115 ∷ []  -- ~exists

abbrev pub forall : Token
forall = 102 ∷ 111 ∷ 114 ∷ 97 ∷ 108 ∷ 108 ∷ []  -- forall

-- ---- patterns: what may stand at a place of a form

pub data Pattern : Type 0 where
  exactly : Token → Pattern
  location register processor constant dollar : Pattern

unfoldable pub fits : Pattern → Token → Bool
unfolding same is_location is_register is_constant is_dollar Rattle.litmus_model.specs.Bytes.some
fits (exactly w) t = same w t
fits location t = is_location t
fits register t = is_register t
fits processor t = is_number t
fits constant t = is_constant t
fits dollar t = is_dollar t

-- what a token says
pub data Mention : Type 0 where
  nothing : Mention
  a_processor a_register a_location : ℕ → Mention
  a_constant : ℤ → Mention

abbrev pub negated : ℕ → ℤ
negated zero = pos 0
negated (suc n) = negsuc n

-- a minus sign negates the number
unfoldable pub constant_of : Token → ℤ
unfolding value_from
constant_of [] = pos 0
constant_of (b ∷ bs) = cond (eqb b 45) (negated (value_of bs)) (pos (value_of (b ∷ bs)))

unfoldable pub mention : Pattern → Token → Mention
unfolding constant_of value_from
mention (exactly w) t = nothing
mention location t = a_location (get_or t 0 0)
mention register t = a_register (get_or t 1 0 - 65)
mention processor t = a_processor (value_of t)
mention constant t = a_constant (constant_of t)
mention dollar t = a_constant (constant_of (drop 1 t))

-- ---- the table of forms: a kind of table record, and how it is written (0: no record)

pub record Form : Type 0 where
  pub kind : ℕ
  pub patterns : List Pattern

abbrev pub form : ℕ → List Pattern → Form
form kind patterns = record { kind = kind; patterns = patterns }

-- an initial cell, with its semicolon
unfoldable pub cell_forms : List Form
cell_forms =
    form 1 (location ∷ exactly equals ∷ constant ∷ exactly semicolon ∷ [])
    ∷ form 2 (processor ∷ exactly colon ∷ register ∷ exactly equals ∷ constant ∷ exactly semicolon ∷ [])
    ∷ []

-- a cell of a row, with the mark that closes it
unfoldable pub row_forms : Token → List Form
row_forms mark =
    form 0 (exactly mark ∷ [])
    ∷ form 3 (exactly MOV ∷ exactly bracket ∷ location ∷ exactly unbracket ∷ exactly comma ∷ dollar ∷ exactly mark ∷ [])
    ∷ form 4 (exactly MOV ∷ exactly bracket ∷ location ∷ exactly unbracket ∷ exactly comma ∷ register ∷ exactly mark ∷ [])
    ∷ form 5 (exactly MOV ∷ register ∷ exactly comma ∷ exactly bracket ∷ location ∷ exactly unbracket ∷ exactly mark ∷ [])
    ∷ form 6 (exactly MOV ∷ register ∷ exactly comma ∷ dollar ∷ exactly mark ∷ [])
    ∷ form 7 (exactly MFENCE ∷ exactly mark ∷ [])
    ∷ form 8 (exactly XCHG ∷ exactly bracket ∷ location ∷ exactly unbracket ∷ exactly comma ∷ register ∷ exactly mark ∷ [])
    ∷ form 9 (exactly LOCK ∷ exactly XCHG ∷ exactly bracket ∷ location ∷ exactly unbracket ∷ exactly comma ∷ register ∷ exactly mark ∷ [])
    ∷ form 10 (exactly XADD ∷ exactly bracket ∷ location ∷ exactly unbracket ∷ exactly comma ∷ register ∷ exactly mark ∷ [])
    ∷ form 11 (exactly LOCK ∷ exactly XADD ∷ exactly bracket ∷ location ∷ exactly unbracket ∷ exactly comma ∷ register ∷ exactly mark ∷ [])
    ∷ []

-- the mark that closes cell p of n: | or, for the last, ;
unfoldable pub mark_of : ℕ → ℕ → Token
mark_of n p = cond (eqb (suc p) n) semicolon bar

-- ---- what a form's tokens say of its record

pub record Draft : Type 0 where
  pub processor : ℕ
  pub register : ℕ
  pub letter : Option ℕ
  pub value : ℕ

-- nothing said yet, in the column of processor p
abbrev pub blank : ℕ → Draft
blank p = record { processor = p; register = 0; letter = none; value = 0 }

-- a negative constant is stored as its value plus 2^32; negsuc n is -(n + 1)
abbrev pub stored : ℤ → ℕ
stored (pos n) = n
stored (negsuc n) = 4294967296 - suc n

unfoldable pub noted : Draft → Mention → Draft
noted d nothing = d
noted d (a_processor p) = record { processor = p; register = d.register; letter = d.letter; value = d.value }
noted d (a_register r) = record { processor = d.processor; register = r; letter = d.letter; value = d.value }
noted d (a_location x) = record { processor = d.processor; register = d.register; letter = some x; value = d.value }
noted d (a_constant v) = record { processor = d.processor; register = d.register; letter = d.letter; value = stored v }

-- an entry of the table: a kind and what was said
pub record Entry : Type 0 where
  pub kind : ℕ
  pub draft : Draft

unfoldable pub entries : ℕ → Draft → List Entry
entries zero d = []
entries (suc k) d = record { kind = suc k; draft = d } ∷ []

-- ---- headings, names, end words

-- the decimal digits of a number
unfoldable pub decimal_from : ℕ → ℕ → Token → Token
decimal_from zero n behind = behind
decimal_from (suc k) n behind = cond (ltb n 10) ((48 + n) ∷ behind) (decimal_from k (n / 10) ((48 + n % 10) ∷ behind))

unfoldable pub heading : ℕ → Token
unfolding decimal_from
heading n = 80 ∷ decimal_from (suc n) n []

unfoldable pub is_end : Token → Bool
unfolding same
is_end t = same exists t || same not_exists t || same forall t
