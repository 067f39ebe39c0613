-- The automaton from token to token; every text of the grammar leads it to its end.
use mathlib.Core.Path.{◌≡◌, refl, ap, sym, ◌∙◌, subst}
use mathlib.Core.Bool.{Bool, true, false, cond, ◌||◌}
use mathlib.Core.Option.{none, some}
use mathlib.Core.Logic.{◌⊎◌, inl, inr}
use mathlib.Core.List.{List, [], ◌∷◌, ◌++◌, append_assoc, append-nil}
use Prim.Native.Nat.{ℕ, zero, suc, ◌<◌}
use native.Mathlib.Omega.{arith}
use lib.Dec.{eqb}
use borrow.Author.Tests.{eq-eqb, ne_eqb}
use Rattle.litmus_model.specs.Bytes.{Token, same, is_name}
use Rattle.litmus_model.specs.Forms.{X86, opening, closing, semicolon, bar, exists, not_exists, forall, Pattern, fits, Mention, nothing, a_processor, Form, form, cell_forms, row_forms, mark_of, Draft, blank, noted, Entry, entries, heading, is_end}
use Rattle.model.specs.Lists.{In}
use Rattle.litmus_model.specs.Grammar.{Said, plain, Fits, noted_all, Phrase, phrase, Header, header, Cells, Headings, Row, Rows, ignored, Text, text}
use Rattle.litmus_model.specs.Reader.{advance, Context, braces, row, forms_in, draft_in, next, Control, at_start, at_name, at_opening, at_end, beginning, within, at_heading, behind_heading, went, leaves, on_with, step}
use Rattle.litmus_model.proofs.Bools.{false-true, or_cases, same_true, same_refl}
use Rattle.litmus_model.proofs.Forms.{Separate, advance-in, separate-on, complete-some}
use Rattle.litmus_model.proofs.Progress.{progress-last, progress-more, forms-separate, forms-unfinished}

pub data Runs : Control → List Said → List Entry → Control → Type 0 where
  done : {c : Control} → Runs c [] [] c
  more : {c c₁ c₂ : Control} {s : Said} {ss : List Said} {es fs : List Entry} → step c s.token ≡ went c₁ s.says es → Runs c₁ ss fs c₂ → Runs c (s ∷ ss) (es ++ fs) c₂

pub runs_append : {a b c : Control} {ss us : List Said} {es fs : List Entry} → Runs a ss es b → Runs b us fs c → Runs a (ss ++ us) (es ++ fs) c
runs_append done r = r
runs_append {a} {b} {c} {us = us} {fs = fs} (more {s = s} {ss = ss} {es = es} {fs = gs} e q) r = subst (λ (l : List Entry). Runs a (s ∷ (ss ++ us)) l c) (sym (append_assoc es gs fs)) (more e (runs_append q r))

pub single : {c c₁ : Control} {s : Said} {es : List Entry} → step c s.token ≡ went c₁ s.says es → Runs c (s ∷ []) es c₁
single {c} {c₁} {s} {es} e = subst (λ (l : List Entry). Runs c (s ∷ []) l c₁) (append-nil es) (more e done)

-- ---- a form

pub within-runs : (c : Context) (fs : List Form) (d : Draft) (k : ℕ) (p : Pattern) (ps : List Pattern) (ss : List Said)
    → Separate fs → In (form k (p ∷ ps)) fs → Fits (p ∷ ps) ss → Runs (within c fs d) ss (entries k (noted_all d ss)) (beginning (next c))
unfolding step on_with noted_all
within-runs c fs d k p ps [] s i f = absurd f
within-runs c fs d k p [] (x ∷ []) s i f =
    single (ap (on_with c) (progress-last fs d x.token k p s i f.0) ∙ ap (λ (m : Mention). went (beginning (next c)) m (entries k (noted d m))) (sym f.1))
within-runs c fs d k p [] (x ∷ y ∷ ss) s i f = absurd f.2
within-runs c fs d k p (q ∷ ps) (x ∷ ss) s i f =
    more {es = []}
    (ap (on_with c) (progress-more fs d x.token k p q ps s i f.0) ∙ ap (λ (m : Mention). went (within c (advance fs x.token) (noted d m)) m []) (sym f.1))
    (within-runs c (advance fs x.token) (noted d x.says) k q ps ss (separate-on fs x.token s) (advance-in fs x.token k p (q ∷ ps) i f.0) f.2)

-- ---- no form begins with a token that ends the cells or the rows

at-exists : (b : Bool) → advance (row_forms (cond b semicolon bar)) exists ≡ []
unfolding advance row_forms
at-exists true = refl
at-exists false = refl

at-not-exists : (b : Bool) → advance (row_forms (cond b semicolon bar)) not_exists ≡ []
unfolding advance row_forms
at-not-exists true = refl
at-not-exists false = refl

at-forall : (b : Bool) → advance (row_forms (cond b semicolon bar)) forall ≡ []
unfolding advance row_forms
at-forall true = refl
at-forall false = refl

at-closing : advance cell_forms closing ≡ []
unfolding advance cell_forms
at-closing = refl

row_ends : (b : Bool) (t : Token) → is_end t ≡ true → advance (row_forms (cond b semicolon bar)) t ≡ []
unfolding is_end
row_ends b t e = go (or_cases _ _ e)
  where
    of : (w : Token) → advance (row_forms (cond b semicolon bar)) w ≡ [] → same w t ≡ true → advance (row_forms (cond b semicolon bar)) t ≡ []
    of w h s = ap (advance (row_forms (cond b semicolon bar))) (sym (same_true w t s)) ∙ h

    two : (same exists t ≡ true) ⊎ (same not_exists t ≡ true) → advance (row_forms (cond b semicolon bar)) t ≡ []
    two (inl s) = of exists (at-exists b) s
    two (inr s) = of not_exists (at-not-exists b) s

    go : (same exists t || same not_exists t ≡ true) ⊎ (same forall t ≡ true) → advance (row_forms (cond b semicolon bar)) t ≡ []
    go (inl s) = two (or_cases _ _ s)
    go (inr s) = of forall (at-forall b) s

leaving : (c : Context) (t : Token) → leaves c t ≡ true → advance (forms_in c) t ≡ []
unfolding leaves forms_in mark_of
leaving braces t e = ap (advance cell_forms) (sym (same_true closing t e)) ∙ at-closing
leaving (row n zero) t e = row_ends (eqb 1 n) t e
leaving (row n (suc p)) t e = false-true e

staying : (c : Context) (t : Token) (k : ℕ) (p : Pattern) (ps : List Pattern) → In (form k (p ∷ ps)) (forms_in c) → fits p t ≡ true → leaves c t ≡ false
staying c t k p ps i h = go (leaves c t) refl
  where
    go : (b : Bool) → leaves c t ≡ b → b ≡ false
    go true e = absurd (subst (λ (l : List Form). In (form k ps) l) (leaving c t e) (advance-in (forms_in c) t k p ps i h))
    go false e = refl

begun : (c : Context) (t : Token) → leaves c t ≡ false → step (beginning c) t ≡ step (within c (forms_in c) (draft_in c)) t
unfolding step
begun c t e = rw e

-- the first step is like one from within
begun-runs : (c : Context) (s : Said) (ss : List Said) (es : List Entry) (b : Control) → leaves c s.token ≡ false → Runs (within c (forms_in c) (draft_in c)) (s ∷ ss) es b → Runs (beginning c) (s ∷ ss) es b
begun-runs c s ss es b l (more e r) = more (begun c s.token l ∙ e) r

form-runs : (c : Context) (k : ℕ) (ps : List Pattern) (ss : List Said) → In (form k ps) (forms_in c) → Fits ps ss → Runs (beginning c) ss (entries k (noted_all (draft_in c) ss)) (beginning (next c))
form-runs c k [] ss i f = let h : none ≡ some k = sym (forms-unfinished c) ∙ complete-some (forms_in c) k (forms-separate c) i in let z : ◌≡◌ {A = ℕ} 0 1 = cc in absurd (omega arith)
form-runs c k (p ∷ ps) [] i f = absurd f
form-runs c k (p ∷ ps) (s ∷ ss) i f = begun-runs c s ss _ _ (staying c s.token k p ps i f.0) (within-runs c (forms_in c) (draft_in c) k p ps (s ∷ ss) (forms-separate c) i f)

pub phrase-runs : (c : Context) {ss : List Said} {es : List Entry} → Phrase (forms_in c) (draft_in c) ss es → Runs (beginning c) ss es (beginning (next c))
phrase-runs c {ss} (phrase f i h) = form-runs c f.kind f.patterns ss i h

-- ---- the parts of a text

pub at_name_step : (t : Token) → is_name t ≡ true → step at_name t ≡ went at_opening nothing []
unfolding step
at_name_step t e = rw e

header-steps : {name : Token} → is_name name ≡ true → Runs at_start (plain X86 ∷ plain name ∷ plain opening ∷ []) [] (beginning braces)
unfolding step
header-steps {name} h = more {es = []} refl (more {es = []} (at_name_step name h) (more {es = []} refl done))

pub at-heading : (n : ℕ) → step (at_heading n) (heading n) ≡ went (behind_heading (suc n)) (a_processor n) []
unfolding step
at-heading n = rw (same_refl (heading n))

pub at-bar : (n : ℕ) → step (behind_heading n) bar ≡ went (at_heading n) nothing []
unfolding step
at-bar n = refl

pub at-semicolon : (n : ℕ) → step (behind_heading n) semicolon ≡ went (beginning (row n 0)) nothing []
unfolding step
at-semicolon n = refl

pub at-closing-step : step (beginning braces) closing ≡ went (at_heading 0) nothing []
unfolding step
at-closing-step = refl

pub at-end : (n : ℕ) (t : Token) → is_end t ≡ true → step (beginning (row n 0)) t ≡ went at_end nothing []
unfolding step leaves
at-end n t e = rw e

pub to-next : (n p : ℕ) {ss : List Said} {es : List Entry} → suc p < n → Runs (beginning (row n p)) ss es (beginning (next (row n p))) → Runs (beginning (row n p)) ss es (beginning (row n (suc p)))
unfolding next
to-next n p {ss} {es} l r = subst (λ (b : Bool). Runs (beginning (row n p)) ss es (beginning (cond b (row n 0) (row n (suc p))))) (ne_eqb (suc p) n (λ e. omega arith)) r

pub to-first : (n p : ℕ) {ss : List Said} {es : List Entry} → suc p ≡ n → Runs (beginning (row n p)) ss es (beginning (next (row n p))) → Runs (beginning (row n p)) ss es (beginning (row n 0))
unfolding next
to-first n p {ss} {es} l r = subst (λ (b : Bool). Runs (beginning (row n p)) ss es (beginning (cond b (row n 0) (row n (suc p))))) (eq-eqb (suc p) n l) r

pub phrase-in-row : {n p : ℕ} {ss : List Said} {es : List Entry} → Phrase (row_forms (mark_of n p)) (blank p) ss es → Runs (beginning (row n p)) ss es (beginning (next (row n p)))
unfolding forms_in draft_in
phrase-in-row {n} {p} x = phrase-runs (row n p) x

runs_same : {a b : Control} {ss : List Said} {es fs : List Entry} → es ≡ fs → Runs a ss es b → Runs a ss fs b
runs_same {a} {b} {ss} e r = subst (λ (l : List Entry). Runs a ss l b) e r

tidy : (es fs : List Entry) → [] ++ es ++ [] ++ [] ++ [] ++ fs ++ [] ++ [] ≡ es ++ fs
tidy es fs = simp append-nil

pub header-runs : {ss : List Said} → Header ss → Runs at_start ss [] (beginning braces)
header-runs (header h) = header-steps h

pub cells-run : {ss : List Said} {es : List Entry} → Cells ss es → Runs (beginning braces) ss es (beginning braces)
unfolding next forms_in draft_in
cells-run Cells.none = done
cells-run (Cells.more r p) = runs_append (cells-run r) (phrase-runs braces p)

pub headings-run : {n : ℕ} {ss : List Said} → Headings n ss → Runs (at_heading 0) ss [] (behind_heading n)
headings-run Headings.first = single (at-heading 0)
headings-run (Headings.more {n = n} h) = runs_append (runs_append (headings-run h) (single (at-bar n))) (single (at-heading n))

pub row-runs : {n p : ℕ} {ss : List Said} {es : List Entry} → Row n p ss es → p < n → Runs (beginning (row n 0)) ss es (beginning (row n p))
row-runs Row.none l = done
row-runs {n} (Row.more {p = p} r x) l = runs_append (row-runs r (omega arith)) (to-next n p l (phrase-in-row x))

rows_whole : {n p : ℕ} {ss : List Said} {es : List Entry} → Row n p ss es → p ≡ n → Runs (beginning (row n 0)) ss es (beginning (row n 0))
rows_whole Row.none e = done
rows_whole {n} (Row.more {p = p} r x) e = runs_append (row-runs r (omega arith)) (to-first n p e (phrase-in-row x))

pub rows_run : {n : ℕ} {ss : List Said} {es : List Entry} → Rows n ss es → Runs (beginning (row n 0)) ss es (beginning (row n 0))
rows_run Rows.none = done
rows_run (Rows.more r x) = runs_append (rows_run r) (rows_whole x refl)

pub ignored-runs : (ts : List Token) → Runs at_end (ignored ts) [] at_end
unfolding step
ignored-runs [] = done
ignored-runs (t ∷ ts) = more {es = []} refl (ignored-runs ts)

pub text-runs : {ss : List Said} {es : List Entry} → Text ss es → Runs at_start ss es at_end
text-runs (text {es = es} {fs = fs} {n = n} end rest h cs hs rs e) =
    runs_same (tidy es fs)
    (runs_append (runs_append (runs_append (runs_append (runs_append (runs_append (runs_append (header-runs h) (cells-run cs)) (single at-closing-step)) (headings-run hs)) (single (at-semicolon n))) (rows_run rs)) (single (at-end n end e))) (ignored-runs rest))
