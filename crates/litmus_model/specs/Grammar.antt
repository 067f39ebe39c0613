-- The grammar of litmus texts, as a relation (document 01, "The litmus text form").
use Rattle.std.specs.Prelude.{◌≡◌, true, List, [], ◌∷◌, ◌++◌, map, ℕ, suc}
use Rattle.model.specs.Lists.{In}
use Rattle.litmus_model.specs.Bytes.{Token, is_name}
use Rattle.litmus_model.specs.Forms.{X86, opening, closing, semicolon, bar, Pattern, fits, Mention, nothing, a_processor, mention, Form, cell_forms, row_forms, mark_of, Draft, blank, noted, Entry, entries, heading, is_end}

-- a token as it is read: with what it says where it stands
pub record Said : Type 0 where
  pub token : Token
  pub says : Mention

abbrev pub said : Token → Mention → Said
said t m = record { token = t; says = m }

abbrev pub plain : Token → Said
plain t = said t nothing

-- ---- a form, written out

abbrev pub Fits : List Pattern → List Said → Type 0
Fits [] [] = Unit {0}
Fits [] (s ∷ ss) = ⊥
Fits (p ∷ ps) [] = ⊥
Fits (p ∷ ps) (s ∷ ss) = (fits p s.token ≡ true) × (s.says ≡ mention p s.token) × Fits ps ss

unfoldable pub noted_all : Draft → List Said → Draft
unfolding noted
noted_all d [] = d
noted_all d (s ∷ ss) = noted_all (noted d s.says) ss

-- one of these forms, and the entry that it gives
pub data Phrase (forms : List Form) (d : Draft) : List Said → List Entry → Type 0 where
  phrase : {ss : List Said} (f : Form) → In f forms → Fits f.patterns ss → Phrase forms d ss (entries f.kind (noted_all d ss))

-- ---- the parts of a text

pub data Header : List Said → Type 0 where
  header : {name : Token} → is_name name ≡ true → Header (plain X86 ∷ plain name ∷ plain opening ∷ [])

-- any number of initial cells
pub data Cells : List Said → List Entry → Type 0 where
  none : Cells [] []
  more : {ss us : List Said} {es fs : List Entry} → Cells ss es → Phrase cell_forms (blank 0) us fs → Cells (ss ++ us) (es ++ fs)

-- the headings P0, P1 and so on, n of them
pub data Headings : ℕ → List Said → Type 0 where
  first : Headings 1 (said (heading 0) (a_processor 0) ∷ [])
  more : {n : ℕ} {ss : List Said} → Headings n ss → Headings (suc n) (ss ++ (plain bar ∷ []) ++ (said (heading n) (a_processor n) ∷ []))

-- the first p cells of a row of n
pub data Row (n : ℕ) : ℕ → List Said → List Entry → Type 0 where
  none : Row n 0 [] []
  more : {p : ℕ} {ss us : List Said} {es fs : List Entry} → Row n p ss es → Phrase (row_forms (mark_of n p)) (blank p) us fs → Row n (suc p) (ss ++ us) (es ++ fs)

-- any number of rows, each with a cell for each heading
pub data Rows (n : ℕ) : List Said → List Entry → Type 0 where
  none : Rows n [] []
  more : {ss us : List Said} {es fs : List Entry} → Rows n ss es → Row n n us fs → Rows n (ss ++ us) (es ++ fs)

-- what follows the end word is not looked at
abbrev pub ignored : List Token → List Said
ignored ts = map plain ts

pub data Text : List Said → List Entry → Type 0 where
  text : {h cs hs rs : List Said} {es fs : List Entry} {n : ℕ} (end : Token) (rest : List Token)
      → Header h → Cells cs es → Headings n hs → Rows n rs fs → is_end end ≡ true
      → Text (h ++ cs ++ (plain closing ∷ []) ++ hs ++ (plain semicolon ∷ []) ++ rs ++ (plain end ∷ []) ++ ignored rest) (es ++ fs)
