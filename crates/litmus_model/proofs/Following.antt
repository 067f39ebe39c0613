-- Reading with the letters seen and the records given so far: a location keeps its number.
use mathlib.Core.Path.{◌≡◌, refl, ap, sym, ◌∙◌, subst}
use mathlib.Core.Bool.{Bool, true, false, cond}
use mathlib.Core.Option.{Option, none, some}
use mathlib.Core.Logic.{inl, inr}
use mathlib.Core.List.{List, [], ◌∷◌, ◌++◌, map, map-append}
use Prim.Native.Nat.{ℕ, zero, suc}
use native.Mathlib.Omega.{arith}
use lib.Dec.{eqb}
use borrow.Author.Tests.{eq-eqb}
use Rattle.model.specs.declared.record.Record.{Record}
use Rattle.litmus_model.specs.Bytes.{Token, same, is_name}
use Rattle.litmus_model.specs.Tokens.{Placed}
use Rattle.litmus_model.specs.Forms.{X86, opening, semicolon, bar, Mention, nothing, a_processor, a_register, a_location, a_constant, Form, Draft, noted, Entry, entries, heading}
use Rattle.model.specs.Lists.{In}
use Rattle.litmus_model.specs.Grammar.{Said, said}
use Rattle.model.specs.Tests.{passed, refused, unless}
use Rattle.litmus_model.specs.Answers.{among, letters, seen_on, seen_all, number_in, numbered, record_of, records_of}
use Rattle.litmus_model.specs.Reader.{Progress, halted, going, closed, progress, Context, braces, row, forms_in, draft_in}
use Rattle.litmus_model.specs.Reader.{Control, at_start, at_name, at_opening, at_end, beginning, within, at_heading, behind_heading, Stepped, stuck, went, leaves, left, on_with, step, fault, is_at_end, read_from, read_tokens, carried}
use Rattle.litmus_model.proofs.Forms.{in_left, in_right}
use Rattle.litmus_model.proofs.Progress.{went_on, closed-by}
use Rattle.litmus_model.proofs.Faults.{among_in}
use Rattle.litmus_model.proofs.Answers.{read-end, read-stuck, read-went, letters-on}

-- ---- letters that were seen

abbrev LetterIn : List ℕ → Option ℕ → Type 0
LetterIn seen none = Unit {0}
LetterIn seen (some x) = In x seen

abbrev AllIn : List ℕ → List Entry → Type 0
AllIn seen [] = Unit {0}
AllIn seen (e ∷ es) = LetterIn seen e.draft.letter × AllIn seen es

abbrev ControlIn : List ℕ → Control → Type 0
ControlIn seen at_start = Unit {0}
ControlIn seen at_name = Unit {0}
ControlIn seen at_opening = Unit {0}
ControlIn seen at_end = Unit {0}
ControlIn seen (beginning c) = Unit {0}
ControlIn seen (within c fs d) = LetterIn seen d.letter
ControlIn seen (at_heading n) = Unit {0}
ControlIn seen (behind_heading n) = Unit {0}

pub keeps : (seen : List ℕ) (m : Mention) (x : ℕ) → In x seen → In x (seen_on seen m)
unfolding seen_on
keeps seen nothing x i = i
keeps seen (a_processor p) x i = i
keeps seen (a_register r) x i = i
keeps seen (a_location y) x i = go (among y seen)
  where
    go : (b : Bool) → In x (cond b seen (seen ++ (y ∷ [])))
    go true = i
    go false = in_left x seen (y ∷ []) i
keeps seen (a_constant v) x i = i

pub has : (seen : List ℕ) (x : ℕ) → In x (seen_on seen (a_location x))
unfolding seen_on
has seen x = go (among x seen) refl
  where
    go : (b : Bool) → among x seen ≡ b → In x (cond b seen (seen ++ (x ∷ [])))
    go true e = among_in x seen e
    go false e = in_right x seen (x ∷ []) (inl refl)

letter-keeps : (seen : List ℕ) (m : Mention) (o : Option ℕ) → LetterIn seen o → LetterIn (seen_on seen m) o
letter-keeps seen m none i = tt
letter-keeps seen m (some x) i = keeps seen m x i

noted_in : (seen : List ℕ) (d : Draft) (m : Mention) → LetterIn seen d.letter → LetterIn (seen_on seen m) (noted d m).letter
unfolding noted
noted_in seen d nothing i = letter-keeps seen nothing d.letter i
noted_in seen d (a_processor p) i = letter-keeps seen (a_processor p) d.letter i
noted_in seen d (a_register r) i = letter-keeps seen (a_register r) d.letter i
noted_in seen d (a_location x) i = has seen x
noted_in seen d (a_constant v) i = letter-keeps seen (a_constant v) d.letter i

all-keeps : (seen : List ℕ) (m : Mention) (es : List Entry) → AllIn seen es → AllIn (seen_on seen m) es
all-keeps seen m [] a = tt
all-keeps seen m (e ∷ es) a = (letter-keeps seen m e.draft.letter a.0, all-keeps seen m es a.1)

all_append : (seen : List ℕ) (es fs : List Entry) → AllIn seen es → AllIn seen fs → AllIn seen (es ++ fs)
all_append seen [] fs a b = b
all_append seen (e ∷ es) fs a b = (a.0, all_append seen es fs a.1 b)

-- ---- and numbers that stay

number_same : (seen : List ℕ) (y x : ℕ) → In x seen → number_in (seen ++ (y ∷ [])) x ≡ number_in seen x
unfolding number_in
number_same [] y x i = absurd i
number_same (z ∷ seen) y x (inl e) = rw (eq-eqb z x e)
number_same (z ∷ seen) y x (inr i) = ap (λ (n : ℕ). cond (eqb z x) 0 (suc n)) (number_same seen y x i)

number-stays : (seen : List ℕ) (m : Mention) (x : ℕ) → In x seen → number_in (seen_on seen m) x ≡ number_in seen x
unfolding seen_on
number-stays seen nothing x i = refl
number-stays seen (a_processor p) x i = refl
number-stays seen (a_register r) x i = refl
number-stays seen (a_location y) x i = go (among y seen)
  where
    go : (b : Bool) → number_in (cond b seen (seen ++ (y ∷ []))) x ≡ number_in seen x
    go true = refl
    go false = number_same seen y x i
number-stays seen (a_constant v) x i = refl

numbered-stays : (seen : List ℕ) (m : Mention) (o : Option ℕ) → LetterIn seen o → numbered (seen_on seen m) o ≡ numbered seen o
unfolding numbered
numbered-stays seen m none i = refl
numbered-stays seen m (some x) i = number-stays seen m x i

record-stays : (seen : List ℕ) (m : Mention) (e : Entry) → LetterIn seen e.draft.letter → record_of (seen_on seen m) e ≡ record_of seen e
unfolding record_of
record-stays seen m e i = λ j. record { kind = e.kind; processor = e.draft.processor; register = e.draft.register; location = numbered-stays seen m e.draft.letter i j; value = e.draft.value }

records-stay : (seen : List ℕ) (m : Mention) (es : List Entry) → AllIn seen es → map (record_of (seen_on seen m)) es ≡ map (record_of seen) es
records-stay seen m [] a = refl
records-stay seen m (e ∷ es) a = λ j. record-stays seen m e a.0 j ∷ records-stay seen m es a.1 j

records-more : (ss : List Said) (es fs : List Entry) (s : Said) → AllIn (letters ss) es
    → records_of (ss ++ (s ∷ [])) (es ++ fs) ≡ records_of ss es ++ map (record_of (seen_on (letters ss) s.says)) fs
unfolding records_of
records-more ss es fs s a =
    ap (λ (l : List ℕ). map (record_of l) (es ++ fs)) (letters-on ss s)
    ∙ map-append (record_of (seen_on (letters ss) s.says)) es fs
    ∙ ap (λ (l : List Record). l ++ map (record_of (seen_on (letters ss) s.says)) fs) (records-stay (letters ss) s.says es a)

-- ---- one step

entries-in : (seen : List ℕ) (k : ℕ) (d : Draft) → LetterIn seen d.letter → AllIn seen (entries k d)
unfolding entries
entries-in seen zero d i = tt
entries-in seen (suc k) d i = (i, tt)

pub record Lands (seen : List ℕ) (c : Control) (m : Mention) (fs : List Entry) : Type 0 where
  pub control : ControlIn (seen_on seen m) c
  pub given : AllIn (seen_on seen m) fs

lands : {seen : List ℕ} {c : Control} {m : Mention} {fs : List Entry} → ControlIn (seen_on seen m) c → AllIn (seen_on seen m) fs → Lands seen c m fs
lands a b = record { control = a; given = b }

landed : {seen : List ℕ} {a c : Control} {m n : Mention} {es fs : List Entry} → went a m es ≡ went c n fs → Lands seen a m es → Lands seen c n fs
landed {seen} {a} {c} {m} {n} {es} {fs} e x =
    let p : a ≡ c = cc in
    let q : m ≡ n = cc in
    let u : es ≡ fs = cc in
    move p q u
  where
    move : a ≡ c → m ≡ n → es ≡ fs → Lands seen c n fs
    move p q u = subst (λ (k : Control). Lands seen k n fs) p (subst (λ (k : Mention). Lands seen a k fs) q (subst (λ (k : List Entry). Lands seen a m k) u x))

never : {B : Type 0} {c : Control} {m : Mention} {gs : List Entry} → stuck ≡ went c m gs → B
never {B} {c} {m} {gs} e = let z : ◌≡◌ {A = ℕ} 0 1 = cc in absurd (omega arith)

tested : (b : Bool) {seen : List ℕ} {a c : Control} {m n : Mention} {fs : List Entry} → cond b (went a m []) stuck ≡ went c n fs → Lands seen a m [] → Lands seen c n fs
tested true e x = landed e x
tested false e x = never e

phrase-in : (seen : List ℕ) (c : Context) (fs : List Form) (d : Draft) (t : Token) {c₁ : Control} {m : Mention} {gs : List Entry} → LetterIn seen d.letter → on_with c (progress fs d t) ≡ went c₁ m gs → Lands seen c₁ m gs
unfolding on_with
phrase-in seen c fs d t {c₁} {m} {gs} i e = go (progress fs d t) refl e
  where
    go : (x : Progress) → progress fs d t ≡ x → on_with c x ≡ went c₁ m gs → Lands seen c₁ m gs
    go halted h f = never f
    go (going hs a n) h f =
        let w = went_on fs d t hs a n h in
        landed f (lands (subst (λ (k : Draft). LetterIn (seen_on seen n) k.letter) (ap (noted d) (sym w.says) ∙ w.draft) (noted_in seen d n i)) tt)
    go (closed n ks) h f =
        let w = closed-by fs d t n ks h in
        landed f (lands tt (subst (λ (k : List Entry). AllIn (seen_on seen n) k) (ap (λ (k : Mention). entries w.kind (noted d k)) (sym w.says) ∙ w.gives) (entries-in (seen_on seen n) w.kind (noted d n) (noted_in seen d n i))))

draft-in : (seen : List ℕ) (c : Context) → LetterIn seen (draft_in c).letter
unfolding draft_in
draft-in seen braces = tt
draft-in seen (row n p) = tt

left_in : (seen : List ℕ) (c : Context) → ControlIn seen (left c)
left_in seen braces = tt
left_in seen (row n p) = tt

pub step_in : (seen : List ℕ) (c : Control) (t : Token) {c₁ : Control} {m : Mention} {fs : List Entry} → ControlIn seen c → step c t ≡ went c₁ m fs → Lands seen c₁ m fs
unfolding step
step_in seen at_start t i e = tested (same X86 t) e (lands tt tt)
step_in seen at_name t i e = tested (is_name t) e (lands tt tt)
step_in seen at_opening t i e = tested (same opening t) e (lands tt tt)
step_in seen at_end t i e = landed e (lands tt tt)
step_in seen (beginning c) t {c₁} {m} {fs} i e = go (leaves c t) e
  where
    go : (b : Bool) → cond b (went (left c) nothing []) (on_with c (progress (forms_in c) (draft_in c) t)) ≡ went c₁ m fs → Lands seen c₁ m fs
    go true f = landed f (lands (left_in (seen_on seen nothing) c) tt)
    go false f = phrase-in seen c (forms_in c) (draft_in c) t (draft-in seen c) f
step_in seen (within c fs d) t i e = phrase-in seen c fs d t i e
step_in seen (at_heading n) t i e = tested (same (heading n) t) e (lands tt tt)
step_in seen (behind_heading n) t {c₁} {m} {fs} i e = go (same bar t) e
  where
    go : (b : Bool) → cond b (went (at_heading n) nothing []) (cond (same semicolon t) (went (beginning (row n 0)) nothing []) stuck) ≡ went c₁ m fs → Lands seen c₁ m fs
    go true f = landed f (lands tt tt)
    go false f = tested (same semicolon t) f (lands tt tt)

-- ---- the two readings

pub follow-end : (size : ℕ) (c : Control) (seen : List ℕ) (rs : List Record) → carried size c seen rs [] ≡ cond (is_at_end c) (passed rs) (refused 19 size)
unfolding carried
follow-end size c seen rs = refl

pub follow-stuck : (size : ℕ) (c : Control) (seen : List ℕ) (rs : List Record) (t : Placed) (ts : List Placed) → step c t.token ≡ stuck → carried size c seen rs (t ∷ ts) ≡ refused 19 t.at
unfolding carried
follow-stuck size c seen rs t ts e = rw (e, carried)

pub follow-went : (size : ℕ) (c : Control) (seen : List ℕ) (rs : List Record) (t : Placed) (ts : List Placed) (c₁ : Control) (m : Mention) (fs : List Entry) → step c t.token ≡ went c₁ m fs
    → carried size c seen rs (t ∷ ts) ≡ unless (fault seen m) t.at (carried size c₁ (seen_on seen m) (rs ++ map (record_of (seen_on seen m)) fs) ts)
unfolding carried
follow-went size c seen rs t ts c₁ m fs e = rw (e, carried)

pub both : (size : ℕ) (c : Control) (ss : List Said) (es : List Entry) (ts : List Placed) → ControlIn (letters ss) c → AllIn (letters ss) es
    → carried size c (letters ss) (records_of ss es) ts ≡ read_from size c ss es ts
both size c ss es [] i a = follow-end size c (letters ss) (records_of ss es) ∙ sym (read-end size c ss es)
both size c ss es (t ∷ ts) i a = go (step c t.token) refl (λ c₁ m fs. both size c₁ (ss ++ (said t.token m ∷ [])) (es ++ fs) ts)
  where
    go : (x : Stepped) → step c t.token ≡ x
        → ((c₁ : Control) (m : Mention) (fs : List Entry) → ControlIn (letters (ss ++ (said t.token m ∷ []))) c₁ → AllIn (letters (ss ++ (said t.token m ∷ []))) (es ++ fs)
        → carried size c₁ (letters (ss ++ (said t.token m ∷ []))) (records_of (ss ++ (said t.token m ∷ [])) (es ++ fs)) ts ≡ read_from size c₁ (ss ++ (said t.token m ∷ [])) (es ++ fs) ts)
        → carried size c (letters ss) (records_of ss es) (t ∷ ts) ≡ read_from size c ss es (t ∷ ts)
    go stuck e on = follow-stuck size c (letters ss) (records_of ss es) t ts e ∙ sym (read-stuck size c ss es t ts e)
    go (went c₁ m fs) e on =
        let s = said t.token m in
        let l : seen_on (letters ss) m ≡ letters (ss ++ (s ∷ [])) = sym (letters-on ss s) in
        let r : records_of ss es ++ map (record_of (seen_on (letters ss) m)) fs ≡ records_of (ss ++ (s ∷ [])) (es ++ fs) = sym (records-more ss es fs s a) in
        let x = step_in (letters ss) c t.token i e in
        follow-went size c (letters ss) (records_of ss es) t ts c₁ m fs e
        ∙ ap (unless (fault (letters ss) m) t.at)
        ((λ j. carried size c₁ (l j) (r j) ts)
        ∙ on c₁ m fs (subst (λ (k : List ℕ). ControlIn k c₁) l x.control) (subst (λ (k : List ℕ). AllIn k (es ++ fs)) l (all_append (seen_on (letters ss) m) es fs (all-keeps (letters ss) m es a) x.given)))
        ∙ sym (read-went size c ss es t ts c₁ m fs e)

pub carried-reads : (size : ℕ) (ts : List Placed) → carried size at_start [] [] ts ≡ read_tokens size ts
unfolding read_tokens records_of seen_all
carried-reads size ts = both size at_start [] [] ts tt tt
