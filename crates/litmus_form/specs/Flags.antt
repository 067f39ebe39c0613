-- What the code's table and flags stand for: the forms, and those that are alive.
use Rattle.std.specs.Prelude.{◌≡◌, Bool, true, false, cond, ◌&&◌, List, [], ◌∷◌, ◌++◌, ℕ, ◌<◌, get_or, drop, Option, Some, None}
use Rattle.litmus_model.specs.Bytes.{Token}
use Rattle.litmus_model.specs.Forms.{fits, cell_forms, row_forms}
use Rattle.litmus_model.specs.Forms as model
use Rattle.litmus_form.specs.declared.forms.Form.{Form}
use Rattle.litmus_form.specs.declared.patterns.Pattern.{Pattern}
use Rattle.litmus_form.specs.declared.patterns.Pattern.TheVariants.{Mov, Mfence, Xchg, Xadd, Lock, Location, Register, Processor, Constant, Dollar, Mark, Closing, Past}
use Rattle.litmus_form.specs.Patterns.{pattern_of, numbered}

-- ---- the table

-- the mark that closes a cell, by its number
abbrev pub marked : ℕ → Pattern → Pattern
marked mark Closing = numbered mark
marked mark p = p

abbrev pub form : ℕ → ℕ → Form
form kind length = record { kind = kind; length = length }

-- the forms of initial cells, then those of a row's cells: the kind of the record, and how many tokens
abbrev pub forms : List Form
forms =
    form 1 4
    ∷ form 2 6
    ∷ form 0 1
    ∷ form 3 7
    ∷ form 4 7
    ∷ form 5 7
    ∷ form 6 5
    ∷ form 7 2
    ∷ form 8 7
    ∷ form 9 8
    ∷ form 10 7
    ∷ form 11 8
    ∷ []

-- and what the tokens may be, filled up behind the end
abbrev pub patterns : List (List Pattern)
patterns =
    (Location ∷ Mark 61 ∷ Constant ∷ Mark 59 ∷ Past ∷ Past ∷ Past ∷ Past ∷ [])
    ∷ (Processor ∷ Mark 58 ∷ Register ∷ Mark 61 ∷ Constant ∷ Mark 59 ∷ Past ∷ Past ∷ [])
    ∷ (Closing ∷ Past ∷ Past ∷ Past ∷ Past ∷ Past ∷ Past ∷ Past ∷ [])
    ∷ (Mov ∷ Mark 91 ∷ Location ∷ Mark 93 ∷ Mark 44 ∷ Dollar ∷ Closing ∷ Past ∷ [])
    ∷ (Mov ∷ Mark 91 ∷ Location ∷ Mark 93 ∷ Mark 44 ∷ Register ∷ Closing ∷ Past ∷ [])
    ∷ (Mov ∷ Register ∷ Mark 44 ∷ Mark 91 ∷ Location ∷ Mark 93 ∷ Closing ∷ Past ∷ [])
    ∷ (Mov ∷ Register ∷ Mark 44 ∷ Dollar ∷ Closing ∷ Past ∷ Past ∷ Past ∷ [])
    ∷ (Mfence ∷ Closing ∷ Past ∷ Past ∷ Past ∷ Past ∷ Past ∷ Past ∷ [])
    ∷ (Xchg ∷ Mark 91 ∷ Location ∷ Mark 93 ∷ Mark 44 ∷ Register ∷ Closing ∷ Past ∷ [])
    ∷ (Lock ∷ Xchg ∷ Mark 91 ∷ Location ∷ Mark 93 ∷ Mark 44 ∷ Register ∷ Closing ∷ [])
    ∷ (Xadd ∷ Mark 91 ∷ Location ∷ Mark 93 ∷ Mark 44 ∷ Register ∷ Closing ∷ Past ∷ [])
    ∷ (Lock ∷ Xadd ∷ Mark 91 ∷ Location ∷ Mark 93 ∷ Mark 44 ∷ Register ∷ Closing ∷ [])
    ∷ []

abbrev pub form_at : ℕ → Form
form_at j = get_or forms j (form 0 0)

abbrev pub code_at : ℕ → ℕ → ℕ → Pattern
code_at mark j at = marked mark (get_or (get_or patterns j []) at Past)

-- ---- which are alive

-- form j is alive still, if it was and the token fits it
unfoldable pub alive_on : List Bool → ℕ → ℕ → Token → ℕ → Bool
unfolding pattern_of fits
alive_on alive mark at t j = get_or alive j false && fits (pattern_of (code_at mark j at)) t

-- all of them
pub record Advanced (alive : List Bool) (mark at : ℕ) (t : Token) (next : List Bool) : Type 0 where
  pub each : (j : ℕ) → j < 12 → get_or next j false ≡ alive_on alive mark at t j

-- the forms in that order
unfoldable pub all_forms : ℕ → List model.Form
unfolding cell_forms row_forms
all_forms mark = cell_forms ++ row_forms (mark ∷ [])

-- those alive, behind `at` tokens
unfoldable pub alives : List model.Form → List Bool → ℕ → List model.Form
alives [] alive at = []
alives (f ∷ fs) [] at = []
alives (f ∷ fs) (a ∷ as₁) at = cond a (model.form f.kind (drop at f.patterns) ∷ []) [] ++ alives fs as₁ at

-- the first form that is alive, if one is
pub record First (alive : List Bool) (r : Option ℕ) : Type 0 where
  pub found : (j : ℕ) → r ≡ Some j → (j < 12) × (get_or alive j false ≡ true) × ((k : ℕ) → k < j → get_or alive k false ≡ false)
  pub none : r ≡ None → (k : ℕ) → k < 12 → get_or alive k false ≡ false
