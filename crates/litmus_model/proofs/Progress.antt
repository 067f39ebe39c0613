-- One token inside a form, both ways.
use mathlib.Core.Path.{◌≡◌, refl, ap, sym, ◌∙◌, subst}
use mathlib.Core.Bool.{Bool, true, false, cond}
use mathlib.Core.Option.{Option, none, some}
use mathlib.Core.Logic.{inl}
use mathlib.Core.List.{List, [], ◌∷◌}
use Prim.Native.Nat.{ℕ, suc}
use native.Mathlib.Omega.{arith}
use lib.Dec.{eqb}
use Rattle.litmus_model.specs.Bytes.{Token}
use Rattle.litmus_model.specs.Forms.{Pattern, fits, Mention, mention, Form, form, Draft, noted, Entry, entries, cell_forms, row_forms, mark_of, semicolon, bar}
use Rattle.model.specs.Lists.{In}
use Rattle.litmus_model.specs.Reader.{advance, mention_in, complete, going, closed, finishing, judged, progress, Context, braces, row, forms_in}
use Rattle.litmus_model.proofs.Apart.{separate}
use Rattle.litmus_model.proofs.Forms.{Separate, separate-true, separate-on, advance-in, mention-in, complete-some, complete-none}

-- ---- what a token that fits does

judged-in : (gs : List Form) (d : Draft) (m : Mention) (g : Form) → In g gs → judged gs d m ≡ finishing (complete gs) gs d m
unfolding judged
judged-in [] d m g i = absurd i
judged-in (f ∷ gs) d m g i = refl

-- the last token of a form
pub progress-last : (fs : List Form) (d : Draft) (t : Token) (k : ℕ) (p : Pattern) → Separate fs → In (form k (p ∷ [])) fs → fits p t ≡ true
    → progress fs d t ≡ closed (mention p t) (entries k (noted d (mention p t)))
unfolding progress finishing
progress-last fs d t k p s i h =
    let gs = advance fs t in
    let j : In (form k []) gs = advance-in fs t k p [] i h in
    ap (λ (m : Mention). judged gs (noted d m) m) (mention-in fs t k p [] s i h)
    ∙ judged-in gs (noted d (mention p t)) (mention p t) (form k []) j
    ∙ ap (λ (o : Option ℕ). finishing o gs (noted d (mention p t)) (mention p t)) (complete-some gs k (separate-on fs t s) j)

-- any other
pub progress-more : (fs : List Form) (d : Draft) (t : Token) (k : ℕ) (p q : Pattern) (ps : List Pattern) → Separate fs → In (form k (p ∷ q ∷ ps)) fs → fits p t ≡ true
    → progress fs d t ≡ going (advance fs t) (noted d (mention p t)) (mention p t)
unfolding progress finishing
progress-more fs d t k p q ps s i h =
    let gs = advance fs t in
    let j : In (form k (q ∷ ps)) gs = advance-in fs t k p (q ∷ ps) i h in
    ap (λ (m : Mention). judged gs (noted d m) m) (mention-in fs t k p (q ∷ ps) s i h)
    ∙ judged-in gs (noted d (mention p t)) (mention p t) (form k (q ∷ ps)) j
    ∙ ap (λ (o : Option ℕ). finishing o gs (noted d (mention p t)) (mention p t)) (complete-none gs k q ps (separate-on fs t s) j)

-- ---- what is known of a token that was taken

pub record Went (fs : List Form) (d : Draft) (t : Token) (gs : List Form) (e : Draft) (m : Mention) : Type 0 where
  pub forms : advance fs t ≡ gs
  pub draft : noted d (mention_in fs t) ≡ e
  pub says : mention_in fs t ≡ m
  pub unfinished : complete gs ≡ none
  pub some_left : (g : Form) × In g gs

judged-going : (gs : List Form) (d : Draft) (m : Mention) (hs : List Form) (e : Draft) (n : Mention) → judged gs d m ≡ going hs e n
    → (gs ≡ hs) × (d ≡ e) × (m ≡ n) × (complete gs ≡ none) × ((g : Form) × In g gs)
unfolding judged finishing
judged-going [] d m hs e n h = let z : ◌≡◌ {A = ℕ} 0 1 = cc in absurd (omega arith)
judged-going (f ∷ gs) d m hs e n h = go (complete (f ∷ gs)) refl h
  where
    go : (o : Option ℕ) → complete (f ∷ gs) ≡ o → finishing o (f ∷ gs) d m ≡ going hs e n
        → (f ∷ gs ≡ hs) × (d ≡ e) × (m ≡ n) × (complete (f ∷ gs) ≡ none) × ((g : Form) × In g (f ∷ gs))
    go none c k = (cc, cc, cc, c, (f, inl refl))
    go (some j) c k = let z : ◌≡◌ {A = ℕ} 0 1 = cc in absurd (omega arith)

pub went_on : (fs : List Form) (d : Draft) (t : Token) (gs : List Form) (e : Draft) (m : Mention) → progress fs d t ≡ going gs e m → Went fs d t gs e m
unfolding progress
went_on fs d t gs e m h =
    let j = judged-going (advance fs t) (noted d (mention_in fs t)) (mention_in fs t) gs e m h in
    record {
      forms = j.0;
      draft = j.1;
      says = j.2;
      unfinished = ap complete (sym j.0) ∙ j.3;
      some_left = (j.4.0, subst (λ (l : List Form). In j.4.0 l) j.0 j.4.1);
    }

pub record Closed (fs : List Form) (d : Draft) (t : Token) (m : Mention) (es : List Entry) : Type 0 where
  pub kind : ℕ
  pub ends : complete (advance fs t) ≡ some kind
  pub says : mention_in fs t ≡ m
  pub gives : entries kind (noted d (mention_in fs t)) ≡ es

judged-closed : (gs : List Form) (d : Draft) (m n : Mention) (es : List Entry) → judged gs d m ≡ closed n es → (k : ℕ) × (complete gs ≡ some k) × (m ≡ n) × (entries k d ≡ es)
unfolding judged finishing
judged-closed [] d m n es h = let z : ◌≡◌ {A = ℕ} 0 1 = cc in absurd (omega arith)
judged-closed (f ∷ gs) d m n es h = go (complete (f ∷ gs)) refl h
  where
    go : (o : Option ℕ) → complete (f ∷ gs) ≡ o → finishing o (f ∷ gs) d m ≡ closed n es → (k : ℕ) × (complete (f ∷ gs) ≡ some k) × (m ≡ n) × (entries k d ≡ es)
    go none c k = let z : ◌≡◌ {A = ℕ} 0 1 = cc in absurd (omega arith)
    go (some j) c k = (j, c, cc, cc)

pub closed-by : (fs : List Form) (d : Draft) (t : Token) (m : Mention) (es : List Entry) → progress fs d t ≡ closed m es → Closed fs d t m es
unfolding progress
closed-by fs d t m es h =
    let j = judged-closed (advance fs t) (noted d (mention_in fs t)) (mention_in fs t) m es h in
    record { kind = j.0; ends = j.1; says = j.2; gives = j.3 }

-- ---- the tables

row-separate : (b : Bool) → separate (row_forms (cond b semicolon bar)) ≡ true
unfolding row_forms separate
row-separate true = refl
row-separate false = refl

cells-separate : separate cell_forms ≡ true
unfolding cell_forms separate
cells-separate = refl

pub forms-separate : (c : Context) → Separate (forms_in c)
unfolding forms_in mark_of
forms-separate braces = separate-true cell_forms cells-separate
forms-separate (row n p) = separate-true (row_forms (mark_of n p)) (row-separate (eqb (suc p) n))

-- no form is at its end before its first token
rows-unfinished : (b : Bool) → complete (row_forms (cond b semicolon bar)) ≡ none
unfolding row_forms complete
rows-unfinished true = refl
rows-unfinished false = refl

pub forms-unfinished : (c : Context) → complete (forms_in c) ≡ none
unfolding forms_in cell_forms complete mark_of
forms-unfinished braces = refl
forms-unfinished (row n p) = rows-unfinished (eqb (suc p) n)
