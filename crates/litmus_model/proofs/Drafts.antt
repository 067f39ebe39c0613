-- What the tokens of a form give: fields in range, and only those that the form's kind uses.
use mathlib.Core.Path.{◌≡◌, refl, sym, ap, ◌∙◌, subst}
use mathlib.Core.Bool.{Bool, true, false, cond, not, ◌&&◌, ◌||◌}
use mathlib.Core.Logic.{◌⊎◌, inl, inr}
use mathlib.Core.List.{List, [], ◌∷◌, ◌++◌}
use Prim.Native.Nat.{ℕ, zero, suc, ◌-◌, ◌≤◌, ◌<◌}
use native.Mathlib.Omega.{arith}
use lib.ListN.{length, get_or}
use lib.Dec.{eqb, ltb}
use borrow.Author.Tests.{eqb-false, ltb-true}
use Rattle.model.specs.declared.record.Record.{Record}
use Rattle.model.specs.Sizes.{processors, registers_each, locations, values}
use Rattle.model.specs.Lists.{All, In}
use Rattle.model.specs.Fields.{Field, column, among, used, Proper}
use Rattle.model.specs.Kinds.{table_uses, table_rows}
use Rattle.model.proofs.Fields.{or_left, or_right}
use Rattle.model.proofs.Bytes.{Small}
use Rattle.litmus_model.specs.Bytes.{Token, same, is_register}
use Rattle.litmus_model.specs.Forms.{Pattern, exactly, fits, Mention, nothing, a_processor, a_register, a_location, a_constant, mention, Form, cell_forms, row_forms, Draft, blank, stored, noted, Entry, entries}
use Rattle.litmus_model.specs.Grammar.{Said, Fits, noted_all, Phrase, phrase}
use Rattle.litmus_model.specs.Answers.{number_in, numbered, record_of}
use Rattle.litmus_model.proofs.Bools.{false-true, and_left, and_right, or_cases, same_true}

-- ---- a draft's fields

-- in its record, where the letters are these
unfoldable pub field_of : List ℕ → Draft → Field → ℕ
unfolding numbered
field_of seen d Field.processor = d.processor
field_of seen d Field.register = d.register
field_of seen d Field.location = numbered seen d.letter
field_of seen d Field.value = d.value

unfoldable pub limit : Field → ℕ
limit Field.processor = processors
limit Field.register = registers_each
limit Field.location = locations
limit Field.value = values

-- every field in range, used or not
abbrev pub Fair : List ℕ → Draft → Type 0
Fair seen d = (f : Field) → field_of seen d f < limit f

-- what a text without fault says, where its letters are these
abbrev pub Good : List ℕ → Mention → Type 0
Good seen nothing = Unit {0}
Good seen (a_processor p) = p < processors
Good seen (a_register r) = Unit {0}
Good seen (a_location x) = In x seen
Good seen (a_constant v) = stored v < values

abbrev pub AllGood : List ℕ → List Said → Type 0
AllGood seen ss = All (λ (s : Said). Good seen s.says) ss

-- ---- what a pattern's token gives

unfoldable pub given : Pattern → List Field
given (exactly w) = []
given Pattern.location = Field.location ∷ []
given Pattern.register = Field.register ∷ []
given Pattern.processor = Field.processor ∷ []
given Pattern.constant = Field.value ∷ []
given Pattern.dollar = Field.value ∷ []

each : (K : Field → Type 0) → K Field.processor → K Field.register → K Field.location → K Field.value → (f : Field) → K f
each K p r x v Field.processor = p
each K p r x v Field.register = r
each K p r x v Field.location = x
each K p r x v Field.value = v

-- it changes no other field
kept : (seen : List ℕ) (d : Draft) (p : Pattern) (t : Token) (f : Field) → among (given p) f ≡ false → field_of seen (noted d (mention p t)) f ≡ field_of seen d f
unfolding field_of noted mention given among
kept seen d (exactly w) t = λ f e. refl
kept seen d Pattern.location t = each _ (λ e. refl) (λ e. refl) (λ e. false-true (sym e)) (λ e. refl)
kept seen d Pattern.register t = each _ (λ e. refl) (λ e. false-true (sym e)) (λ e. refl) (λ e. refl)
kept seen d Pattern.processor t = each _ (λ e. false-true (sym e)) (λ e. refl) (λ e. refl) (λ e. refl)
kept seen d Pattern.constant t = each _ (λ e. refl) (λ e. refl) (λ e. refl) (λ e. false-true (sym e))
kept seen d Pattern.dollar t = each _ (λ e. refl) (λ e. refl) (λ e. refl) (λ e. false-true (sym e))

-- EAX to EDX are 0 to 3
register-small : (t : Token) → is_register t ≡ true → get_or t 1 0 - 65 < registers_each
unfolding is_register
register-small t e = go (or_cases _ _ e)
  where
    of : (w : Token) → get_or w 1 0 - 65 < registers_each → same w t ≡ true → get_or t 1 0 - 65 < registers_each
    of w l s = subst (λ (x : Token). get_or x 1 0 - 65 < registers_each) (same_true w t s) l

    two : (same (69 ∷ 65 ∷ 88 ∷ []) t ≡ true) ⊎ (same (69 ∷ 66 ∷ 88 ∷ []) t ≡ true) → get_or t 1 0 - 65 < registers_each
    two (inl s) = of (69 ∷ 65 ∷ 88 ∷ []) (omega arith) s
    two (inr s) = of (69 ∷ 66 ∷ 88 ∷ []) (omega arith) s

    three : (same (69 ∷ 65 ∷ 88 ∷ []) t || same (69 ∷ 66 ∷ 88 ∷ []) t ≡ true) ⊎ (same (69 ∷ 67 ∷ 88 ∷ []) t ≡ true) → get_or t 1 0 - 65 < registers_each
    three (inl s) = two (or_cases _ _ s)
    three (inr s) = of (69 ∷ 67 ∷ 88 ∷ []) (omega arith) s

    go : (same (69 ∷ 65 ∷ 88 ∷ []) t || same (69 ∷ 66 ∷ 88 ∷ []) t || same (69 ∷ 67 ∷ 88 ∷ []) t ≡ true) ⊎ (same (69 ∷ 68 ∷ 88 ∷ []) t ≡ true) → get_or t 1 0 - 65 < registers_each
    go (inl s) = three (or_cases _ _ s)
    go (inr s) = of (69 ∷ 68 ∷ 88 ∷ []) (omega arith) s

-- a letter that was seen has a number below the letters'
number-below : (seen : List ℕ) (x : ℕ) → In x seen → number_in seen x < length seen
unfolding number_in
number-below [] x i = absurd i
number-below (y ∷ seen) x i = go (eqb y x) refl i (number-below seen x)
  where
    go : (b : Bool) → eqb y x ≡ b → (y ≡ x) ⊎ In x seen → (In x seen → number_in seen x < length seen) → cond b 0 (suc (number_in seen x)) < length (y ∷ seen)
    go true e j on = omega arith
    go false e (inl h) on = absurd (eqb-false y x e h)
    go false e (inr j) on = let l : number_in seen x < length seen = on j in omega arith

-- and what it gives is in range
fair-on : (seen : List ℕ) (d : Draft) (p : Pattern) (t : Token) → length seen ≤ locations → fits p t ≡ true → Good seen (mention p t) → Fair seen d → Fair seen (noted d (mention p t))
unfolding field_of limit noted mention fits numbered
fair-on seen d (exactly w) t few e g h = h
fair-on seen d Pattern.location t few e g h = each _ (h Field.processor) (h Field.register) (let l : number_in seen (get_or t 0 0) < length seen = number-below seen (get_or t 0 0) g in omega arith) (h Field.value)
fair-on seen d Pattern.register t few e g h = each _ (h Field.processor) (register-small t e) (h Field.location) (h Field.value)
fair-on seen d Pattern.processor t few e g h = each _ g (h Field.register) (h Field.location) (h Field.value)
fair-on seen d Pattern.constant t few e g h = each _ (h Field.processor) (h Field.register) (h Field.location) g
fair-on seen d Pattern.dollar t few e g h = each _ (h Field.processor) (h Field.register) (h Field.location) g

-- ---- all the tokens of a form

unfoldable pub given_by : List Pattern → List Field
unfolding given
given_by [] = []
given_by (p ∷ ps) = given p ++ given_by ps

among-append : (gs hs : List Field) (f : Field) → among (gs ++ hs) f ≡ (among gs f || among hs f)
unfolding among
among-append [] hs f = refl
among-append (g ∷ gs) hs f = ap (λ (b : Bool). eqb (column g) (column f) || b) (among-append gs hs f) ∙ or_assoc (eqb (column g) (column f)) (among gs f) (among hs f)
  where
    or_assoc : (a b c : Bool) → (a || (b || c)) ≡ ((a || b) || c)
    or_assoc true b c = refl
    or_assoc false b c = refl

all-kept : (seen : List ℕ) (ps : List Pattern) (ss : List Said) (d : Draft) (f : Field) → Fits ps ss → among (given_by ps) f ≡ false → field_of seen (noted_all d ss) f ≡ field_of seen d f
unfolding noted_all given_by
all-kept seen [] [] d f h e = refl
all-kept seen [] (s ∷ ss) d f h e = absurd h
all-kept seen (p ∷ ps) [] d f h e = absurd h
all-kept seen (p ∷ ps) (s ∷ ss) d f h e =
    let e₁ : (among (given p) f || among (given_by ps) f) ≡ false = sym (among-append (given p) (given_by ps) f) ∙ e in
    all-kept seen ps ss (noted d s.says) f h.2 (or_right (among (given p) f) _ e₁)
    ∙ ap (λ (m : Mention). field_of seen (noted d m) f) h.1
    ∙ kept seen d p s.token f (or_left _ (among (given_by ps) f) e₁)

all_fair : (seen : List ℕ) (ps : List Pattern) (ss : List Said) (d : Draft) → length seen ≤ locations → Fits ps ss → AllGood seen ss → Fair seen d → Fair seen (noted_all d ss)
unfolding noted_all
all_fair seen [] [] d few h g x = x
all_fair seen [] (s ∷ ss) d few h g x = absurd h
all_fair seen (p ∷ ps) [] d few h g x = absurd h
all_fair seen (p ∷ ps) (s ∷ ss) d few h g x =
    all_fair seen ps ss (noted d s.says) few h.2 g.1
    (subst (λ (m : Mention). Fair seen (noted d m)) (sym h.1) (fair-on seen d p s.token few h.0 (subst (Good seen) h.1 g.0) x))

-- ---- the table of forms: each has the fields of its kind; those of initial cells are of kinds 1 and 2, those of rows of kinds above

-- both or neither
unfoldable pub agree : Bool → Bool → Bool
agree a b = cond a b (not b)

pub agree-true : (a b : Bool) → agree a b ≡ true → a ≡ b
unfolding agree
agree-true true true e = refl
agree-true true false e = sym e
agree-true false true e = e
agree-true false false e = refl

unfoldable same_fields : List Field → List Field → Bool
unfolding among agree
same_fields gs us =
    agree (among gs Field.processor) (among us Field.processor) && agree (among gs Field.register) (among us Field.register)
    && agree (among gs Field.location) (among us Field.location) && agree (among gs Field.value) (among us Field.value)

same-fields : (gs us : List Field) → same_fields gs us ≡ true → (f : Field) → among gs f ≡ among us f
unfolding same_fields
same-fields gs us e =
    let p : Bool = agree (among gs Field.processor) (among us Field.processor) in
    let r : Bool = agree (among gs Field.register) (among us Field.register) in
    let x : Bool = agree (among gs Field.location) (among us Field.location) in
    let v : Bool = agree (among gs Field.value) (among us Field.value) in
    let prx : p && r && x ≡ true = and_left (p && r && x) v e in
    let pr : p && r ≡ true = and_left (p && r) x prx in
    each _ (agree-true _ _ (and_left p r pr)) (agree-true _ _ (and_right p r pr)) (agree-true _ _ (and_right (p && r) x prx)) (agree-true _ _ (and_right (p && r && x) v e))

-- the field that a cell has before its first token: its column's processor
abbrev column-has : Bool → List Field
column-has true = []
column-has false = Field.processor ∷ []

-- what is said here of a form of kind k with these patterns; kind 0 gives no record
unfoldable clean : Bool → ℕ → List Pattern → Bool
unfolding agree same_fields given_by table_uses
clean initial zero ps = true
clean initial (suc k) ps = ltb (suc k) table_rows && agree (ltb (suc k) 3) initial && same_fields (column-has initial ++ given_by ps) (get_or table_uses (suc k) [])

unfoldable all_clean : Bool → List Form → Bool
unfolding clean
all_clean initial [] = true
all_clean initial (f ∷ fs) = clean initial f.kind f.patterns && all_clean initial fs

cells-clean : all_clean true cell_forms ≡ true
unfolding all_clean cell_forms
cells-clean = refl

rows-clean : (mark : Token) → all_clean false (row_forms mark) ≡ true
unfolding all_clean row_forms
rows-clean mark = refl

clean-in : (initial : Bool) (fs : List Form) (f : Form) → all_clean initial fs ≡ true → In f fs → clean initial f.kind f.patterns ≡ true
unfolding all_clean
clean-in initial [] f e i = absurd i
clean-in initial (g ∷ fs) f e (inl h) = ap (λ (x : Form). clean initial x.kind x.patterns) (sym h) ∙ and_left _ (all_clean initial fs) e
clean-in initial (g ∷ fs) f e (inr i) = clean-in initial fs f (and_right (clean initial g.kind g.patterns) _ e) i

-- ---- so the record of a phrase is proper

-- kinds 1 and 2
abbrev pub is_initial : Record → Bool
is_initial r = ltb r.kind 3

pub record Sound (initial : Bool) (r : Record) : Type 0 where
  pub proper : Proper table_uses r
  pub small : Small r
  pub kind : is_initial r ≡ initial

abbrev pub AllSound : Bool → List ℕ → List Entry → Type 0
AllSound initial seen es = All (λ (e : Entry). Sound initial (record_of seen e)) es

record-sound : (initial : Bool) (seen : List ℕ) (k : ℕ) (d : Draft) → suc k < table_rows → ltb (suc k) 3 ≡ initial → Fair seen d
    → ((f : Field) → among (get_or table_uses (suc k) []) f ≡ false → field_of seen d f ≡ 0) → Sound initial (record_of seen (record { kind = suc k; draft = d }))
unfolding record_of used field_of limit
record-sound initial seen k d known early fair unused = record {
  proper = record {
    known = (omega arith, known);
    in_range = record { processor = λ u. fair Field.processor; register = λ u. fair Field.register; location = λ u. fair Field.location };
    unused_zero = record { processor = unused Field.processor; register = unused Field.register; location = unused Field.location; value = unused Field.value };
  };
  small = fair Field.value;
  kind = early;
}

-- where a cell's draft has no other field before its first token
form-sound : (initial : Bool) (seen : List ℕ) (k : ℕ) (ps : List Pattern) (ss : List Said) (d : Draft) → clean initial k ps ≡ true → length seen ≤ locations → Fair seen d
    → ((f : Field) → among (column-has initial) f ≡ false → field_of seen d f ≡ 0)
    → Fits ps ss → AllGood seen ss → AllSound initial seen (entries k (noted_all d ss))
unfolding entries clean
form-sound initial seen zero ps ss d c few fair zeros h g = tt
form-sound initial seen (suc k) ps ss d c few fair zeros h g =
    let a : Bool = ltb (suc k) table_rows in
    let b : Bool = agree (ltb (suc k) 3) initial in
    let gs = column-has initial ++ given_by ps in
    let ab : a && b ≡ true = and_left (a && b) (same_fields gs (get_or table_uses (suc k) [])) c in
    let fields = same-fields gs (get_or table_uses (suc k) []) (and_right (a && b) _ c) in (
      record-sound initial seen k (noted_all d ss) (ltb-true (suc k) table_rows (and_left a b ab)) (agree-true (ltb (suc k) 3) initial (and_right a b ab)) (all_fair seen ps ss d few h g fair)
          (λ f u. unused f (sym (among-append (column-has initial) (given_by ps) f) ∙ fields f ∙ u)),
      tt,
    )
  where
    unused : (f : Field) → (among (column-has initial) f || among (given_by ps) f) ≡ false → field_of seen (noted_all d ss) f ≡ 0
    unused f e = all-kept seen ps ss d f h (or_right (among (column-has initial) f) _ e) ∙ zeros f (or_left _ (among (given_by ps) f) e)

blank-fair : (seen : List ℕ) (p : ℕ) → p < processors → Fair seen (blank p)
unfolding field_of limit numbered
blank-fair seen p l = each _ l (omega arith) (omega arith) (omega arith)

-- an initial cell, and a cell of processor p
pub cell-sound : {ss : List Said} {es : List Entry} (seen : List ℕ) → length seen ≤ locations → AllGood seen ss → Phrase cell_forms (blank 0) ss es → AllSound true seen es
unfolding field_of numbered
cell-sound {ss} seen few g (phrase f i h) =
    form-sound true seen f.kind f.patterns ss (blank 0) (clean-in true cell_forms f cells-clean i) few (blank-fair seen 0 (omega arith)) (each _ (λ e. refl) (λ e. refl) (λ e. refl) (λ e. refl)) h g

pub row-cell-sound : {ss : List Said} (seen : List ℕ) (mark : Token) (p : ℕ) {es : List Entry} → length seen ≤ locations → p < processors → AllGood seen ss
    → Phrase (row_forms mark) (blank p) ss es → AllSound false seen es
unfolding field_of numbered among
row-cell-sound {ss} seen mark p few l g (phrase f i h) =
    form-sound false seen f.kind f.patterns ss (blank p) (clean-in false (row_forms mark) f (rows-clean mark) i) few (blank-fair seen p l)
    (each _ (λ e. false-true (sym e)) (λ e. refl) (λ e. refl) (λ e. refl)) h g
