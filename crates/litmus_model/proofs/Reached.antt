-- Wherever the automaton comes to, what it read is the beginning of a text of the grammar; at its end it is one.
use mathlib.Core.Path.{◌≡◌, refl, ap, sym, ◌∙◌, subst}
use mathlib.Core.Bool.{Bool, true, false, cond}
use mathlib.Core.Option.{none}
use mathlib.Core.List.{List, [], ◌∷◌, ◌++◌, append_assoc, append-nil}
use Prim.Native.Nat.{ℕ, zero, suc, ◌<◌}
use native.Mathlib.Omega.{arith}
use lib.Dec.{eqb}
use borrow.Author.Tests.{eqb-true, eqb-false}
use Rattle.litmus_model.specs.Bytes.{Token, same, is_name}
use Rattle.litmus_model.specs.Forms.{X86, opening, closing, semicolon, bar, Pattern, fits, Mention, nothing, a_processor, mention, Form, form, row_forms, mark_of, Draft, blank, noted, Entry, entries, heading, is_end}
use Rattle.model.specs.Lists.{In}
use Rattle.litmus_model.specs.Grammar.{Said, said, plain, Fits, noted_all, Phrase, phrase, Header, header, Cells, Headings, Row, Rows, ignored, Text, text}
use Rattle.litmus_model.specs.Reader.{advance, mention_in, complete, Progress, halted, going, closed, progress, Context, braces, row, forms_in, draft_in, next}
use Rattle.litmus_model.specs.Reader.{Control, at_start, at_name, at_opening, at_end, beginning, within, at_heading, behind_heading, Stepped, stuck, went, leaves, left, on_with, step}
use Rattle.litmus_model.proofs.Bools.{false-true, same_true}
use Rattle.litmus_model.proofs.Forms.{Separate, advance-out, separate-on, complete-in, mention-in}
use Rattle.litmus_model.proofs.Progress.{Went, went_on, Closed, closed-by, forms-separate}
use Rattle.litmus_model.proofs.Runs.{Runs}

-- ---- a part of a form

-- g is left of one of these forms, behind us
pub record Kept (forms : List Form) (us : List Said) (g : Form) : Type 0 where
  pub whole : Form
  pub listed : In whole forms
  pub front : List Pattern
  pub parts : whole.patterns ≡ front ++ g.patterns
  pub kind : whole.kind ≡ g.kind
  pub fit : Fits front us

pub record Part (forms : List Form) (d : Draft) (us : List Said) (fs : List Form) (e : Draft) : Type 0 where
  pub kept : (g : Form) → In g fs → Kept forms us g
  pub draft : noted_all d us ≡ e
  pub separate : Separate fs

fits_snoc : (ps : List Pattern) (us : List Said) (p : Pattern) (s : Said) → Fits ps us → fits p s.token ≡ true → s.says ≡ mention p s.token → Fits (ps ++ (p ∷ [])) (us ++ (s ∷ []))
fits_snoc [] [] p s f h e = (h, e, tt)
fits_snoc [] (u ∷ us) p s f h e = absurd f
fits_snoc (q ∷ ps) [] p s f h e = absurd f
fits_snoc (q ∷ ps) (u ∷ us) p s f h e = (f.0, f.1, fits_snoc ps us p s f.2 h e)

noted-snoc : (d : Draft) (us : List Said) (s : Said) → noted_all d (us ++ (s ∷ [])) ≡ noted (noted_all d us) s.says
unfolding noted_all
noted-snoc d [] s = refl
noted-snoc d (u ∷ us) s = noted-snoc (noted d u.says) us s

pub part_none : (c : Context) → Part (forms_in c) (draft_in c) [] (forms_in c) (draft_in c)
unfolding noted_all
part_none c = record { kept = λ g i. record { whole = g; listed = i; front = []; parts = refl; kind = refl; fit = tt }; draft = refl; separate = forms-separate c }

-- one token more
kept_on : (forms : List Form) (us : List Said) (fs : List Form) (t : Token) → Separate fs → ((g : Form) → In g fs → Kept forms us g)
    → (g : Form) → In g (advance fs t) → Kept forms (us ++ (said t (mention_in fs t) ∷ [])) g
kept_on forms us fs t s k g i =
    let o = advance-out fs t g i in
    let w = k _ o.1 in
    record {
      whole = w.whole;
      listed = w.listed;
      front = w.front ++ (o.0 ∷ []);
      parts = w.parts ∙ sym (append_assoc w.front (o.0 ∷ []) g.patterns);
      kind = w.kind;
      fit = fits_snoc w.front us o.0 (said t (mention_in fs t)) w.fit o.2 (mention-in fs t g.kind o.0 g.patterns s o.1 o.2);
    }

pub part-on : (forms : List Form) (d : Draft) (us : List Said) (fs : List Form) (e : Draft) (t : Token) (gs : List Form) (b : Draft) (m : Mention)
    → Part forms d us fs e → Went fs e t gs b m → Part forms d (us ++ (said t m ∷ [])) gs b
part-on forms d us fs e t gs b m p w = record {
  kept = λ g i. subst (λ (n : Mention). Kept forms (us ++ (said t n ∷ [])) g) w.says (kept_on forms us fs t p.separate p.kept g (subst (λ (l : List Form). In g l) (sym w.forms) i));
  draft = noted-snoc d us (said t m) ∙ ap (λ (x : Draft). noted x m) p.draft ∙ ap (noted e) (sym w.says) ∙ w.draft;
  separate = subst (λ (l : List Form). Separate l) w.forms (separate-on fs t p.separate);
}

-- the last
pub part-closed : (forms : List Form) (d : Draft) (us : List Said) (fs : List Form) (e : Draft) (t : Token) (m : Mention) (es : List Entry)
    → Part forms d us fs e → Closed fs e t m es → Phrase forms d (us ++ (said t m ∷ [])) es
part-closed forms d us fs e t m es p c =
    let k = kept_on forms us fs t p.separate p.kept (form c.kind []) (complete-in (advance fs t) c.kind c.ends) in
    let f : Fits k.whole.patterns (us ++ (said t (mention_in fs t) ∷ [])) = subst (λ (l : List Pattern). Fits l (us ++ (said t (mention_in fs t) ∷ []))) (sym (k.parts ∙ append-nil k.front)) k.fit in
    let same-draft : noted_all d (us ++ (said t (mention_in fs t) ∷ [])) ≡ noted e (mention_in fs t) = noted-snoc d us (said t (mention_in fs t)) ∙ ap (λ (x : Draft). noted x (mention_in fs t)) p.draft in
    let q : Phrase forms d (us ++ (said t (mention_in fs t) ∷ [])) (entries k.whole.kind (noted_all d (us ++ (said t (mention_in fs t) ∷ [])))) = phrase k.whole k.listed f in
    let r : Phrase forms d (us ++ (said t (mention_in fs t) ∷ [])) es = subst (λ (l : List Entry). Phrase forms d (us ++ (said t (mention_in fs t) ∷ [])) l) (ap (λ (n : ℕ). entries n (noted_all d (us ++ (said t (mention_in fs t) ∷ [])))) k.kind ∙ ap (entries c.kind) same-draft ∙ c.gives) q in
    subst (λ (n : Mention). Phrase forms d (us ++ (said t n ∷ [])) es) c.says r

-- ---- what was read

-- up to the brace that closes the cells
pub data Top : List Said → List Entry → Type 0 where
  top : {h cs : List Said} {es : List Entry} → Header h → Cells cs es → Top (h ++ cs ++ (plain closing ∷ [])) es

-- where a form may begin
pub data Before : Context → List Said → List Entry → Type 0 where
  cells : {h cs : List Said} {es : List Entry} → Header h → Cells cs es → Before braces (h ++ cs) es
  rows : {a hs rs ws : List Said} {es fs gs : List Entry} {n p : ℕ} → Top a es → Headings n hs → Rows n rs fs → Row n p ws gs → p < n
      → Before (row n p) (a ++ hs ++ (plain semicolon ∷ []) ++ rs ++ ws) (es ++ fs ++ gs)

pub data Reached : Control → List Said → List Entry → Type 0 where
  start : Reached at_start [] []
  named : Reached at_name (plain X86 ∷ []) []
  opened : {t : Token} → is_name t ≡ true → Reached at_opening (plain X86 ∷ plain t ∷ []) []
  begun : {c : Context} {ss : List Said} {es : List Entry} → Before c ss es → Reached (beginning c) ss es
  inside : {c : Context} {ss us : List Said} {es : List Entry} {fs : List Form} {d : Draft}
      → Before c ss es → Part (forms_in c) (draft_in c) us fs d → complete fs ≡ none → (g : Form) × In g fs → Reached (within c fs d) (ss ++ us) es
  closed-cells : {a : List Said} {es : List Entry} → Top a es → Reached (at_heading 0) a es
  barred : {a hs : List Said} {es : List Entry} {n : ℕ} → Top a es → Headings n hs → Reached (at_heading n) (a ++ hs ++ (plain bar ∷ [])) es
  headed : {a hs : List Said} {es : List Entry} {n : ℕ} → Top a es → Headings n hs → Reached (behind_heading n) (a ++ hs) es
  ended : {ss : List Said} {es : List Entry} → Text ss es → Reached at_end ss es

-- ---- one step

-- where a step went, in its own words
land : {a c : Control} {m n : Mention} {fs gs : List Entry} (t : Token) (ss : List Said) (es : List Entry)
    → went a m fs ≡ went c n gs → Reached a (ss ++ (said t m ∷ [])) (es ++ fs) → Reached c (ss ++ (said t n ∷ [])) (es ++ gs)
land {a} {c} {m} {n} {fs} {gs} t ss es e r =
    let p : a ≡ c = cc in
    let q : m ≡ n = cc in
    let u : fs ≡ gs = cc in
    move p q u
  where
    move : a ≡ c → m ≡ n → fs ≡ gs → Reached c (ss ++ (said t n ∷ [])) (es ++ gs)
    move p q u = subst (λ (x : Control). Reached x (ss ++ (said t n ∷ [])) (es ++ gs)) p (subst (λ (x : Mention). Reached a (ss ++ (said t x ∷ [])) (es ++ gs)) q (subst (λ (x : List Entry). Reached a (ss ++ (said t m ∷ [])) (es ++ x)) u r))

-- and gave nothing
land-none : {a c : Control} {m n : Mention} {gs : List Entry} (t : Token) (ss : List Said) (es : List Entry)
    → went a m [] ≡ went c n gs → Reached a (ss ++ (said t m ∷ [])) es → Reached c (ss ++ (said t n ∷ [])) (es ++ gs)
land-none {a} {m = m} t ss es e r = land t ss es e (subst (λ (x : List Entry). Reached a (ss ++ (said t m ∷ [])) x) (sym (append-nil es)) r)

never : {B : Type 0} {c : Control} {m : Mention} {gs : List Entry} → stuck ≡ went c m gs → B
never {B} {c} {m} {gs} e = let z : ◌≡◌ {A = ℕ} 0 1 = cc in absurd (omega arith)

-- a test that a step makes
tested : {B : Type 0} (b : Bool) {x : Stepped} {c : Control} {m : Mention} {gs : List Entry} → cond b x stuck ≡ went c m gs → (b ≡ true → x ≡ went c m gs → B) → B
tested true e f = f refl e
tested false e f = never e

reached-same : {c : Control} {ss us : List Said} {es fs : List Entry} → ss ≡ us → es ≡ fs → Reached c ss es → Reached c us fs
reached-same {c} {ss} {us} {es} {fs} p q r = subst (λ (x : List Said). Reached c x fs) p (subst (λ (x : List Entry). Reached c ss x) q r)

before_same : {c : Context} {ss us : List Said} {es fs : List Entry} → ss ≡ us → es ≡ fs → Before c ss es → Before c us fs
before_same {c} {ss} {us} {es} {fs} p q r = subst (λ (x : List Said). Before c x fs) p (subst (λ (x : List Entry). Before c ss x) q r)

-- ---- a form is over

row-over : {a hs rs ws vs : List Said} {es fs gs ks : List Entry} (n p : ℕ) (b : Bool) → eqb (suc p) n ≡ b
    → Top a es → Headings n hs → Rows n rs fs → Row n p ws gs → p < n → Phrase (row_forms (mark_of n p)) (blank p) vs ks
    → Before (cond b (row n 0) (row n (suc p))) ((a ++ hs ++ (plain semicolon ∷ []) ++ rs ++ ws) ++ vs) ((es ++ fs ++ gs) ++ ks)
row-over {a} {hs} {rs} {ws} {vs} {es} {fs} {gs} {ks} n p true e t h r w l x =
    before_same
    (simp (append_assoc, append-nil))
    (simp (append_assoc, append-nil))
    (rows t h (Rows.more r (subst (λ (k : ℕ). Row n k (ws ++ vs) (gs ++ ks)) (eqb-true (suc p) n e) (Row.more w x))) Row.none (omega arith))
row-over n p false e t h r w l x =
    before_same
    (simp append_assoc)
    (simp append_assoc)
    (rows t h r (Row.more w x) (let d : suc p ≡ n → ⊥ = eqb-false (suc p) n e in above d l))
  where
    above : {i j : ℕ} → (suc i ≡ j → ⊥) → i < j → suc i < j
    above d l = omega (arith, d)

over : {c : Context} {ss vs : List Said} {es fs : List Entry} → Before c ss es → Phrase (forms_in c) (draft_in c) vs fs → Before (next c) (ss ++ vs) (es ++ fs)
unfolding forms_in draft_in next
over (cells h cs) x = before_same (simp append_assoc) refl (cells h (Cells.more cs x))
over (rows {n = n} {p = p} t h r w l) x = row-over n p (eqb (suc p) n) refl t h r w l x

-- ---- inside a form

inside-step : {c : Context} {ss us : List Said} {es : List Entry} {fs : List Form} {d : Draft} (t : Token) {c₁ : Control} {m : Mention} {gs : List Entry}
    → Before c ss es → Part (forms_in c) (draft_in c) us fs d → on_with c (progress fs d t) ≡ went c₁ m gs → Reached c₁ ((ss ++ us) ++ (said t m ∷ [])) (es ++ gs)
unfolding on_with
inside-step {c} {ss} {us} {es} {fs} {d} t {c₁} {m} {gs} b p e = go (progress fs d t) refl e
  where
    go : (x : Progress) → progress fs d t ≡ x → on_with c x ≡ went c₁ m gs → Reached c₁ ((ss ++ us) ++ (said t m ∷ [])) (es ++ gs)
    go halted h f = never f
    go (going hs a n) h f =
        let w = went_on fs d t hs a n h in
        land-none t (ss ++ us) es f (reached-same (sym (append_assoc ss us (said t n ∷ []))) refl (inside b (part-on (forms_in c) (draft_in c) us fs d t hs a n p w) w.unfinished w.some_left))
    go (closed n ks) h f =
        let x = part-closed (forms_in c) (draft_in c) us fs d t n ks p (closed-by fs d t n ks h) in
        land t (ss ++ us) es f (reached-same (sym (append_assoc ss us (said t n ∷ []))) refl (begun (over b x)))

-- ---- at its beginning

no_cell : {n p : ℕ} {ws : List Said} {gs : List Entry} → Row n p ws gs → p ≡ 0 → (ws ≡ []) × (gs ≡ [])
no_cell Row.none e = (refl, refl)
no_cell (Row.more r x) e = absurd (omega arith)

leave-rows : {a hs rs ws : List Said} {es fs gs : List Entry} {n : ℕ} (t : Token) → Top a es → Headings n hs → Rows n rs fs → Row n 0 ws gs → is_end t ≡ true
    → Reached at_end ((a ++ hs ++ (plain semicolon ∷ []) ++ rs ++ ws) ++ (plain t ∷ [])) (es ++ fs ++ gs)
leave-rows {hs = hs} {rs = rs} t (top {h = h} {cs = cs} {es = es} hd ce) hh r w e =
    let z = no_cell w refl in
    reached-same (simp (z.0, append_assoc, append-nil)) (simp (z.1, append-nil)) (ended (text t [] hd ce hh r e))

leave : {c : Context} {ss : List Said} {es : List Entry} (t : Token) → Before c ss es → leaves c t ≡ true → Reached (left c) (ss ++ (plain t ∷ [])) es
unfolding leaves
leave {ss = ss} {es = es} t (cells {h = h} {cs = cs} hd ce) e = subst (λ (w : Token). Reached (at_heading 0) (h ++ cs ++ (plain w ∷ [])) es) (same_true closing t e) (closed-cells (top hd ce))
leave t (rows {n = n} {p = zero} a h r w l) e = leave-rows t a h r w e
leave t (rows {n = n} {p = suc p} a h r w l) e = false-true e

begun-step : {c : Context} {ss : List Said} {es : List Entry} (t : Token) {c₁ : Control} {m : Mention} {gs : List Entry}
    → Before c ss es → step (beginning c) t ≡ went c₁ m gs → Reached c₁ (ss ++ (said t m ∷ [])) (es ++ gs)
unfolding step
begun-step {c} {ss} {es} t {c₁} {m} {gs} b e = go (leaves c t) refl e
  where
    go : (x : Bool) → leaves c t ≡ x → cond x (went (left c) nothing []) (on_with c (progress (forms_in c) (draft_in c) t)) ≡ went c₁ m gs → Reached c₁ (ss ++ (said t m ∷ [])) (es ++ gs)
    go true h f = land-none t ss es f (leave t b h)
    go false h f = reached-same (ap (λ (l : List Said). l ++ (said t m ∷ [])) (append-nil ss)) refl (inside-step t b (part_none c) f)

-- ---- elsewhere

ignored-snoc : (ts : List Token) (t : Token) → ignored (ts ++ (t ∷ [])) ≡ ignored ts ++ (plain t ∷ [])
ignored-snoc [] t = refl
ignored-snoc (u ∷ ts) t = ap (λ (l : List Said). plain u ∷ l) (ignored-snoc ts t)

text_same : {ss us : List Said} {es : List Entry} → ss ≡ us → Text ss es → Text us es
text_same {es = es} p r = subst (λ (x : List Said). Text x es) p r

text-longer : {ss : List Said} {es : List Entry} (t : Token) → Text ss es → Text (ss ++ (plain t ∷ [])) es
text-longer t (text end rest h cs hs rs e) = text_same (rw ignored-snoc (simp append_assoc)) (text end (rest ++ (t ∷ [])) h cs hs rs e)

pub some-headings : {n : ℕ} {hs : List Said} → Headings n hs → 0 < n
some-headings Headings.first = omega arith
some-headings (Headings.more h) = omega arith

headed-step : {a hs : List Said} {es : List Entry} {n : ℕ} (t : Token) {c₁ : Control} {m : Mention} {gs : List Entry}
    → Top a es → Headings n hs → step (behind_heading n) t ≡ went c₁ m gs → Reached c₁ (a ++ hs ++ (said t m ∷ [])) (es ++ gs)
unfolding step
headed-step {a} {hs} {es} {n} t {c₁} {m} {gs} tp hd e = go (same bar t) refl e
  where
    go : (x : Bool) → same bar t ≡ x → cond x (went (at_heading n) nothing []) (cond (same semicolon t) (went (beginning (row n 0)) nothing []) stuck) ≡ went c₁ m gs → Reached c₁ (a ++ hs ++ (said t m ∷ [])) (es ++ gs)
    go true h f = land-none t (a ++ hs) es f (subst (λ (w : Token). Reached (at_heading n) (a ++ hs ++ (plain w ∷ [])) es) (same_true bar t h) (barred tp hd))
    go false h f =
        tested (same semicolon t) f λ k g. land-none t (a ++ hs) es g
        (subst (λ (w : Token). Reached (beginning (row n 0)) (a ++ hs ++ (plain w ∷ [])) es) (same_true semicolon t k)
        (reached-same (simp append-nil) (simp append-nil) (begun (rows tp hd Rows.none Row.none (some-headings hd)))))

pub step-reached : {c : Control} {ss : List Said} {es : List Entry} (t : Token) {c₁ : Control} {m : Mention} {gs : List Entry}
    → Reached c ss es → step c t ≡ went c₁ m gs → Reached c₁ (ss ++ (said t m ∷ [])) (es ++ gs)
unfolding step
step-reached t start e = tested (same X86 t) e λ h f. land-none t [] [] f (subst (λ (w : Token). Reached at_name (plain w ∷ []) []) (same_true X86 t h) named)
step-reached t named e = tested (is_name t) e λ h f. land-none t (plain X86 ∷ []) [] f (opened h)
step-reached t (opened {t = w} n) e =
    tested (same opening t) e λ h f. land-none t (plain X86 ∷ plain w ∷ []) [] f
    (subst (λ (x : Token). Reached (beginning braces) (plain X86 ∷ plain w ∷ plain x ∷ []) []) (same_true opening t h) (begun (cells {cs = []} (header n) Cells.none)))
step-reached t (begun b) e = begun-step t b e
step-reached t (inside b p u g) e = inside-step t b p e
step-reached {ss = ss} {es = es} t (closed-cells a) e =
    tested (same (heading 0) t) e λ h f. land-none t ss es f
    (subst (λ (x : Token). Reached (behind_heading 1) (ss ++ (said x (a_processor 0) ∷ [])) es) (same_true (heading 0) t h) (headed a Headings.first))
step-reached {es = es} t (barred {a = a} {hs = hs} {n = n} tp hd) e =
    tested (same (heading n) t) e λ h f. land-none t (a ++ hs ++ (plain bar ∷ [])) es f
    (subst (λ (x : Token). Reached (behind_heading (suc n)) (a ++ hs ++ (plain bar ∷ []) ++ (said x (a_processor n) ∷ [])) es) (same_true (heading n) t h)
    (reached-same (simp append_assoc) refl (headed tp (Headings.more hd))))
step-reached {ss = ss} {es = es} t (headed {a = a} {hs = hs} {n = n} tp hd) e = headed-step t tp hd e
step-reached {ss = ss} {es = es} t (ended x) e = land-none t ss es e (ended (text-longer t x))

-- ---- a run

pub runs-reached : {b c : Control} {ss us : List Said} {es fs : List Entry} → Reached b ss es → Runs b us fs c → Reached c (ss ++ us) (es ++ fs)
runs-reached {ss = ss} {es = es} r Runs.done = reached-same (sym (append-nil ss)) (sym (append-nil es)) r
runs-reached {ss = ss} {es = es} r (Runs.more {s = s} {ss = us} {es = gs} {fs = fs} e q) =
    reached-same (append_assoc ss (s ∷ []) us) (append_assoc es gs fs) (runs-reached (step-reached s.token r e) q)

reached-end : {c : Control} {ss : List Said} {es : List Entry} → Reached c ss es → c ≡ at_end → Text ss es
reached-end start e = let z : ◌≡◌ {A = ℕ} 0 1 = cc in absurd (omega arith)
reached-end named e = let z : ◌≡◌ {A = ℕ} 0 1 = cc in absurd (omega arith)
reached-end (opened n) e = let z : ◌≡◌ {A = ℕ} 0 1 = cc in absurd (omega arith)
reached-end (begun {c = c} b) e = let z : ◌≡◌ {A = ℕ} 0 1 = cc in absurd (omega arith)
reached-end (inside {c = c} {fs = fs} {d = d} b p u g) e = let z : ◌≡◌ {A = ℕ} 0 1 = cc in absurd (omega arith)
reached-end (closed-cells a) e = let z : ◌≡◌ {A = ℕ} 0 1 = cc in absurd (omega arith)
reached-end (barred {n = n} a h) e = let z : ◌≡◌ {A = ℕ} 0 1 = cc in absurd (omega arith)
reached-end (headed {n = n} a h) e = let z : ◌≡◌ {A = ℕ} 0 1 = cc in absurd (omega arith)
reached-end (ended x) e = x

-- what leads the automaton to its end is a text of the grammar
pub runs-text : {ss : List Said} {es : List Entry} → Runs at_start ss es at_end → Text ss es
runs-text r = reached-end (runs-reached start r) refl
