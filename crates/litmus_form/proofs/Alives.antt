-- What the code's array of flags stands for: the forms that can still be meant.
use mathlib.Core.Path.{◌≡◌, refl, ap, sym, ◌∙◌}
use mathlib.Core.Bool.{Bool, true, false, cond, ◌&&◌}
use mathlib.Core.List.{List, [], ◌∷◌, ◌++◌, map}
use Prim.Native.Nat.{ℕ, zero, suc, ◌-◌, ◌<◌}
use native.Mathlib.Omega.{arith}
use lib.ListN.{length, get_or, drop, replicate}
use Rattle.litmus_model.specs.Bytes.{Token, same}
use Rattle.litmus_model.specs.Forms.{Pattern, exactly, fits, Form, form, cell_forms, row_forms}
use Rattle.litmus_model.specs.Reader.{onward, advance}
use Rattle.litmus_form.specs.declared.patterns.Pattern as code
use Rattle.litmus_form.specs.declared.patterns.Pattern.TheVariants.{Past}
use Rattle.litmus_form.specs.declared.forms.Form as table
use Rattle.litmus_form.specs.Patterns.{pattern_of}
use Rattle.litmus_form.specs.Flags as flags
use Rattle.litmus_form.specs.Flags.{marked, forms, patterns, form_at, code_at, alive_on, Advanced, all_forms, alives}

abbrev pub head_fits : List Pattern → Token → Bool
head_fits [] t = false
head_fits (p ∷ ps) t = fits p t

abbrev pub none : Form
none = form 0 []

-- ---- one token

drop_more : (n : ℕ) (ps : List Pattern) (p : Pattern) (qs : List Pattern) → drop n ps ≡ p ∷ qs → drop (suc n) ps ≡ qs
drop_more zero [] p qs e = let z : ◌≡◌ {A = ℕ} 0 1 = cc in absurd (omega arith)
drop_more zero (x ∷ ps) p qs e = cc
drop_more (suc n) [] p qs e = let z : ◌≡◌ {A = ℕ} 0 1 = cc in absurd (omega arith)
drop_more (suc n) (x ∷ ps) p qs e = drop_more n ps p qs e

one_form : (k : ℕ) (ps : List Pattern) (at : ℕ) (t : Token) → onward k (drop at ps) t ≡ cond (head_fits (drop at ps) t) (form k (drop (suc at) ps) ∷ []) []
unfolding onward
one_form k ps at t = go (drop at ps) refl
  where
    go : (qs : List Pattern) → drop at ps ≡ qs → onward k qs t ≡ cond (head_fits qs t) (form k (drop (suc at) ps) ∷ []) []
    go [] e = refl
    go (q ∷ qs) e = ap (λ (l : List Pattern). cond (fits q t) (form k l ∷ []) []) (sym (drop_more at ps q qs e))

pub advance-alives : (fs : List Form) (alive next : List Bool) (at : ℕ) (t : Token) → length alive ≡ length fs → length next ≡ length fs
    → ((j : ℕ) → j < length fs → get_or next j false ≡ get_or alive j false && head_fits (drop at (get_or fs j none).patterns) t)
    → advance (alives fs alive at) t ≡ alives fs next (suc at)
unfolding alives advance
advance-alives [] alive next at t a n h = refl
advance-alives (f ∷ fs) [] next at t a n h = absurd (omega arith)
advance-alives (f ∷ fs) (x ∷ alive) [] at t a n h = absurd (omega arith)
advance-alives (f ∷ fs) (x ∷ alive) (y ∷ next) at t a n h = go x (h 0 (omega arith)) (advance-alives fs alive next at t (omega arith) (omega arith) (λ j b. h (suc j) (omega arith)))
  where
    go : (b : Bool) → y ≡ b && head_fits (drop at f.patterns) t → advance (alives fs alive at) t ≡ alives fs next (suc at)
        → advance (cond b (form f.kind (drop at f.patterns) ∷ []) [] ++ alives fs alive at) t ≡ cond y (form f.kind (drop (suc at) f.patterns) ∷ []) [] ++ alives fs next (suc at)
    go true e r = (λ i. one_form f.kind f.patterns at t i ++ r i) ∙ ap (λ (z : Bool). cond z (form f.kind (drop (suc at) f.patterns) ∷ []) [] ++ alives fs next (suc at)) (sym e)
    go false e r = r ∙ ap (λ (z : Bool). cond z (form f.kind (drop (suc at) f.patterns) ∷ []) [] ++ alives fs next (suc at)) (sym e)

-- ---- the table

abbrev pub padded : Form → List Pattern
padded f = f.patterns ++ replicate (8 - length f.patterns) (exactly [])

abbrev pub row-of : ℕ → List code.Pattern → List Pattern
row-of mark cs = map (λ (c : code.Pattern). pattern_of (marked mark c)) cs

pub table-semicolon : map (row-of 59) patterns ≡ map padded (all_forms 59)
unfolding pattern_of all_forms
table-semicolon = refl

pub table-bar : map (row-of 124) patterns ≡ map padded (all_forms 124)
unfolding pattern_of all_forms
table-bar = refl

-- padding fits no token
head-padded : (ps : List Pattern) (n at : ℕ) (b : ℕ) (t : Token) → fits (get_or (ps ++ replicate n (exactly [])) at (exactly [])) (b ∷ t) ≡ head_fits (drop at ps) (b ∷ t)
unfolding fits same
head-padded [] zero zero b t = refl
head-padded [] zero (suc at) b t = refl
head-padded [] (suc n) zero b t = refl
head-padded [] (suc n) (suc at) b t = head-padded [] n at b t ∙ ap (λ (l : List Pattern). head_fits l (b ∷ t)) (drop-nothing at)
  where
    drop-nothing : (k : ℕ) → ◌≡◌ {A = List Pattern} (drop k []) []
    drop-nothing zero = refl
    drop-nothing (suc k) = refl
head-padded (p ∷ ps) n zero b t = refl
head-padded (p ∷ ps) n (suc at) b t = head-padded ps n at b t

row_at : (mark : ℕ) (cs : List code.Pattern) (at : ℕ) → get_or (row-of mark cs) at (exactly []) ≡ pattern_of (marked mark (get_or cs at Past))
unfolding pattern_of
row_at mark [] at = refl
row_at mark (c ∷ cs) zero = refl
row_at mark (c ∷ cs) (suc at) = row_at mark cs at

rows_at : {A B : Type 0} (f : A → B) (l : List A) (d : A) (e : B) (j : ℕ) → j < length l → get_or (map f l) j e ≡ f (get_or l j d)
rows_at f [] d e j h = absurd (omega arith)
rows_at f (x ∷ l) d e zero h = refl
rows_at f (x ∷ l) d e (suc j) h = rows_at f l d e j (omega arith)

pub twelve : (mark : ℕ) → length (all_forms mark) ≡ 12
unfolding all_forms
twelve mark = refl

-- pattern `at` of form j, in the code's table and in that of forms
pub pattern-at : (mark j at : ℕ) → map (row-of mark) patterns ≡ map padded (all_forms mark) → j < 12 → get_or (padded (get_or (all_forms mark) j none)) at (exactly []) ≡ pattern_of (code_at mark j at)
pattern-at mark j at e h =
    let w = twelve mark in
    sym (sym (row_at mark (get_or patterns j []) at)
    ∙ ap (λ (l : List Pattern). get_or l at (exactly [])) (sym (rows_at (row-of mark) patterns [] [] j h) ∙ ap (λ (l : List (List Pattern)). get_or l j []) e ∙ rows_at padded (all_forms mark) none [] j (omega arith)))

-- and its kind and length
pub same-in-table : {A : Type 0} (f : table.Form → A) (g : Form → A) (mark j : ℕ) → map f forms ≡ map g (all_forms mark) → j < 12 → f (form_at j) ≡ g (get_or (all_forms mark) j none)
same-in-table f g mark j e h =
    let w = twelve mark in
    let d = g none in
    sym (rows_at f forms (flags.form 0 0) d j h) ∙ ap (λ l. get_or l j d) e ∙ rows_at g (all_forms mark) none d j (omega arith)

table_at : (mark j at : ℕ) (b : ℕ) (t : Token) → map (row-of mark) patterns ≡ map padded (all_forms mark) → j < 12
    → fits (pattern_of (code_at mark j at)) (b ∷ t) ≡ head_fits (drop at (get_or (all_forms mark) j none).patterns) (b ∷ t)
table_at mark j at b t e h =
    let f = get_or (all_forms mark) j none in
    ap (λ (p : Pattern). fits p (b ∷ t)) (sym (pattern-at mark j at e h)) ∙ head-padded f.patterns (8 - length f.patterns) at b t

-- the code's array goes as the forms go
pub alive-forms : (alive next : List Bool) (mark at : ℕ) (b : ℕ) (t : Token) → map (row-of mark) patterns ≡ map padded (all_forms mark) → length alive ≡ 12 → length next ≡ 12
    → Advanced alive mark at (b ∷ t) next → advance (alives (all_forms mark) alive at) (b ∷ t) ≡ alives (all_forms mark) next (suc at)
unfolding alive_on
alive-forms alive next mark at b t e la ln x =
    let w = twelve mark in
    advance-alives (all_forms mark) alive next at (b ∷ t) (omega arith) (omega arith)
    (λ j h. x.each j (omega arith) ∙ ap (λ (y : Bool). get_or alive j false && y) (table_at mark j at b t e (omega arith)))

-- where a form may begin
pub begin-braces : (mark : ℕ) → alives (all_forms mark) (true ∷ true ∷ replicate 10 false) 0 ≡ cell_forms
unfolding alives all_forms
begin-braces mark = refl

pub begin-row : (mark : ℕ) → alives (all_forms mark) (false ∷ false ∷ replicate 10 true) 0 ≡ row_forms (mark ∷ [])
unfolding alives all_forms
begin-row mark = refl
