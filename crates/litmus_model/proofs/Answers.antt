-- The reader answers exactly what the definitions say.
use mathlib.Core.Path.{◌≡◌, refl, ap, sym, ◌∙◌, subst}
use mathlib.Core.Bool.{Bool, true, false, cond}
use mathlib.Core.Option.{Option, none, some}
use mathlib.Core.Logic.{◌↔◌}
use mathlib.Core.List.{List, [], ◌∷◌, ◌++◌, append_assoc, append-nil}
use Prim.Native.Nat.{ℕ}
use native.Mathlib.Omega.{arith}
use Rattle.litmus_model.specs.Tokens.{Placed}
use Rattle.litmus_model.specs.Forms.{Mention, Entry}
use Rattle.litmus_model.specs.Grammar.{Said, said, Text}
use Rattle.model.specs.declared.record.Record.{Record}
use Rattle.model.specs.Tests.{Tested, passed, refused, unless}
use Rattle.litmus_model.specs.Answers.{letters, seen_all, seen_on, records_of, Gives, Wrong, Faultless, Spells, Begins, Fine, Answers, inside, outside, unended, wrong}
use Rattle.litmus_model.specs.Reader.{Control, at_start, at_name, at_opening, at_end, beginning, within, at_heading, behind_heading, Stepped, stuck, went, step, fault, is_at_end, read_from, read_tokens, read_text}
use Rattle.litmus_model.specs.Splitting.{tokens}
use lib.ListN.{length}
use Rattle.litmus_model.proofs.Bools.{false-true}
use Rattle.litmus_model.proofs.Splitting.{tokens-exactly}
use Rattle.litmus_model.proofs.Runs.{Runs, done, more, runs_append, single, text-runs}
use Rattle.litmus_model.proofs.Reached.{runs-text}
use Rattle.litmus_model.proofs.Faults.{fault-wrong, wrong-fault, faultless-none, none-faultless, seen-append, faultless-append}
use Rattle.litmus_model.proofs.Determined.{runs-split, begins-starts, starts-begins, runs-one, runs-next}

-- ---- the end

at-end-true : (c : Control) → is_at_end c ≡ true → c ≡ at_end
unfolding is_at_end
at-end-true at_start e = false-true e
at-end-true at_name e = false-true e
at-end-true at_opening e = false-true e
at-end-true at_end e = refl
at-end-true (beginning c) e = false-true e
at-end-true (within c fs d) e = false-true e
at-end-true (at_heading n) e = false-true e
at-end-true (behind_heading n) e = false-true e

end-at-end : is_at_end at_end ≡ true
unfolding is_at_end
end-at-end = refl

-- ---- what the function does, step by step

pub read-end : (size : ℕ) (c : Control) (ss : List Said) (es : List Entry) → read_from size c ss es [] ≡ cond (is_at_end c) (passed (records_of ss es)) (refused 19 size)
unfolding read_from
read-end size c ss es = refl

pub read-stuck : (size : ℕ) (c : Control) (ss : List Said) (es : List Entry) (t : Placed) (ts : List Placed) → step c t.token ≡ stuck → read_from size c ss es (t ∷ ts) ≡ refused 19 t.at
unfolding read_from
read-stuck size c ss es t ts e = rw (e, read_from)

pub read-went : (size : ℕ) (c : Control) (ss : List Said) (es : List Entry) (t : Placed) (ts : List Placed) (c₁ : Control) (m : Mention) (fs : List Entry) → step c t.token ≡ went c₁ m fs
    → read_from size c ss es (t ∷ ts) ≡ unless (fault (letters ss) m) t.at (read_from size c₁ (ss ++ (said t.token m ∷ [])) (es ++ fs) ts)
unfolding read_from
read-went size c ss es t ts c₁ m fs e = rw (e, read_from)

unless-none : (o : Option ℕ) (i : ℕ) (a : Tested (List Record)) → o ≡ none → unless o i a ≡ a
unfolding unless
unless-none o i a e = rw e

unless-some : (o : Option ℕ) (n i : ℕ) (a : Tested (List Record)) → o ≡ some n → unless o i a ≡ refused n i
unfolding unless
unless-some o n i a e = rw e

-- ---- the function's answer is one

fine : {c : Control} {ss : List Said} {es : List Entry} {before : List Placed} → Runs at_start ss es c → Spells ss before → Faultless [] ss → Fine ss before
fine r s f = record { spells = s; begins = starts-begins r; faultless = f }

spells-snoc : (ss : List Said) (ts : List Placed) (s : Said) (t : Placed) → Spells ss ts → s.token ≡ t.token → Spells (ss ++ (s ∷ [])) (ts ++ (t ∷ []))
spells-snoc [] [] s t p e = (e, tt)
spells-snoc [] (u ∷ ts) s t p e = absurd p
spells-snoc (u ∷ ss) [] s t p e = absurd p
spells-snoc (u ∷ ss) (v ∷ ts) s t p e = (p.0, spells-snoc ss ts s t p.1 e)

-- no beginning goes on with a token at which the automaton is stuck
none-begins : {c : Control} {ss : List Said} {es : List Entry} (before : List Placed) (t : Placed) → Runs at_start ss es c → Spells ss before → step c t.token ≡ stuck
    → (us : List Said) → Spells us (before ++ t ∷ []) → ¬ Begins us
none-begins before t r s e us q b =
    let x = begins-starts b in
    let n = runs-next before t [] r x.run s q in
    let h : stuck ≡ went n.control n.says n.gives = sym e ∙ n.steps in
    apart-steps h
  where
    apart-steps : {c : Control} {m : Mention} {fs : List Entry} → stuck ≡ went c m fs → ⊥
    apart-steps {c} {m} {fs} h = let z : ◌≡◌ {A = ℕ} 0 1 = cc in omega arith

none-whole : {c : Control} {ss : List Said} {es : List Entry} (ts : List Placed) → Runs at_start ss es c → Spells ss ts → is_at_end c ≡ false → (us : List Said) (fs : List Entry) → Spells us ts → ¬ Text us fs
none-whole {c} ts r s e us fs q x = let o = runs-one ts r (text-runs x) s q in false-true (sym e ∙ ap is_at_end o.0 ∙ end-at-end)

at-the-end : (size : ℕ) (c : Control) (ss : List Said) (es : List Entry) (ts : List Placed) (b : Bool) → is_at_end c ≡ b → Runs at_start ss es c → Spells ss ts → Faultless [] ss
    → Answers size ts (cond b (passed (records_of ss es)) (refused 19 size))
at-the-end size c ss es ts true e r s f = inside (fine r s f) (runs-text (subst (λ (x : Control). Runs at_start ss es x) (at-end-true c e) r))
at-the-end size c ss es ts false e r s f = unended (fine r s f) (none-whole ts r s e)

pub along : (size : ℕ) (c : Control) (ss : List Said) (es : List Entry) (before ts : List Placed) → Runs at_start ss es c → Spells ss before → Faultless [] ss
    → Answers size (before ++ ts) (read_from size c ss es ts)
along size c ss es before [] r s f =
    subst (λ (a : Tested (List Record)). Answers size (before ++ []) a) (sym (read-end size c ss es))
    (at-the-end size c ss es (before ++ []) (is_at_end c) refl r (subst (λ (l : List Placed). Spells ss l) (sym (append-nil before)) s) f)
along size c ss es before (t ∷ ts) r s f = go (step c t.token) refl (λ c₁ m fs. along size c₁ (ss ++ (said t.token m ∷ [])) (es ++ fs) (before ++ (t ∷ [])) ts)
  where
    next-token : (c₁ : Control) (m : Mention) (fs : List Entry) (o : Option ℕ) → step c t.token ≡ went c₁ m fs → fault (letters ss) m ≡ o
        → (Runs at_start (ss ++ (said t.token m ∷ [])) (es ++ fs) c₁ → Spells (ss ++ (said t.token m ∷ [])) (before ++ (t ∷ [])) → Faultless [] (ss ++ (said t.token m ∷ []))
        → Answers size (before ++ (t ∷ []) ++ ts) (read_from size c₁ (ss ++ (said t.token m ∷ [])) (es ++ fs) ts))
        → Answers size (before ++ t ∷ ts) (read_from size c ss es (t ∷ ts))
    next-token c₁ m fs none e h on =
        let on₁ = on (runs_append r (single e)) (spells-snoc ss before (said t.token m) t s refl) (faultless-append [] ss (said t.token m ∷ []) f (none-faultless (letters ss) m h, tt)) in
        subst (λ (a : Tested (List Record)). Answers size (before ++ t ∷ ts) a) (sym (read-went size c ss es t ts c₁ m fs e ∙ unless-none (fault (letters ss) m) t.at _ h))
        (subst (λ (l : List Placed). Answers size l (read_from size c₁ (ss ++ (said t.token m ∷ [])) (es ++ fs) ts)) (append_assoc before (t ∷ []) ts) on₁)
    next-token c₁ m fs (some n) e h on =
        subst (λ (a : Tested (List Record)). Answers size (before ++ t ∷ ts) a) (sym (read-went size c ss es t ts c₁ m fs e ∙ unless-some (fault (letters ss) m) n t.at _ h))
        (wrong before ts t refl (fine r s f) (starts-begins (runs_append r (single {s = said t.token m} e))) (fault-wrong (letters ss) m n h))

    go : (x : Stepped) → step c t.token ≡ x
        → ((c₁ : Control) (m : Mention) (fs : List Entry) → Runs at_start (ss ++ (said t.token m ∷ [])) (es ++ fs) c₁ → Spells (ss ++ (said t.token m ∷ [])) (before ++ (t ∷ [])) → Faultless [] (ss ++ (said t.token m ∷ []))
        → Answers size (before ++ (t ∷ []) ++ ts) (read_from size c₁ (ss ++ (said t.token m ∷ [])) (es ++ fs) ts))
        → Answers size (before ++ t ∷ ts) (read_from size c ss es (t ∷ ts))
    go stuck e on = subst (λ (a : Tested (List Record)). Answers size (before ++ t ∷ ts) a) (sym (read-stuck size c ss es t ts e)) (outside before ts t refl (fine r s f) (none-begins before t r s e))
    go (went c₁ m fs) e on = next-token c₁ m fs (fault (letters ss) m) e refl (on c₁ m fs)

pub reader-answers : (size : ℕ) (ts : List Placed) → Answers size ts (read_tokens size ts)
unfolding read_tokens
reader-answers size ts = along size at_start [] [] [] ts done tt tt

-- ---- there is no other

reading-same : (size : ℕ) (c : Control) {ss us : List Said} {es fs : List Entry} (ts : List Placed) → ss ≡ us → es ≡ fs → read_from size c ss es ts ≡ read_from size c us fs ts
reading-same size c ts p q = λ i. read_from size c (p i) (q i) ts

pub letters-on : (os : List Said) (s : Said) → letters (os ++ (s ∷ [])) ≡ seen_on (letters os) s.says
unfolding seen_all
letters-on os s = seen-append [] os (s ∷ [])

-- a token in which nothing is wrong
read-fine : (size : ℕ) (c : Control) (os : List Said) (ds : List Entry) (s : Said) (t : Placed) (ts : List Placed) (c₁ : Control) (es : List Entry)
    → step c s.token ≡ went c₁ s.says es → s.token ≡ t.token → ((n : ℕ) → ¬ Wrong (letters os) s.says n)
    → read_from size c os ds (t ∷ ts) ≡ read_from size c₁ (os ++ (s ∷ [])) (ds ++ es) ts
read-fine size c os ds s t ts c₁ es e p f =
    read-went size c os ds t ts c₁ s.says es (ap (step c) (sym p) ∙ e)
    ∙ unless-none (fault (letters os) s.says) t.at _ (faultless-none (letters os) s.says f)
    ∙ reading-same size c₁ ts (λ i. os ++ (said (sym p i) s.says ∷ [])) refl

-- the function follows a run in which nothing is wrong
follows : (size : ℕ) {a b : Control} (os : List Said) (ds : List Entry) {ss : List Said} {es : List Entry} (before after : List Placed) → Runs a ss es b → Spells ss before → Faultless (letters os) ss
    → read_from size a os ds (before ++ after) ≡ read_from size b (os ++ ss) (ds ++ es) after
follows size {a} os ds [] after done p f = reading-same size a after (sym (append-nil os)) (sym (append-nil ds))
follows size os ds [] after (more e r) p f = absurd p
follows size os ds (t ∷ before) after done p f = absurd p
follows size {a} {b} os ds (t ∷ before) after (more {c₁ = c₁} {s = s} {ss = ss} {es = es} {fs = fs} e r) p f =
    read-fine size a os ds s t (before ++ after) c₁ es e p.0 f.0
    ∙ follows size (os ++ (s ∷ [])) (ds ++ es) before after r p.1 (subst (λ (l : List ℕ). Faultless l ss) (sym (letters-on os s)) f.1)
    ∙ reading-same size b after (append_assoc os (s ∷ []) ss) (append_assoc ds es fs)

-- up to the token where something is wrong
read-to : (size : ℕ) {b : Control} {ss : List Said} {es : List Entry} (ts before after : List Placed) → ts ≡ before ++ after → Runs at_start ss es b → Spells ss before → Faultless [] ss
    → read_tokens size ts ≡ read_from size b ss es after
unfolding read_tokens seen_all
read-to size ts before after e r p f = ap (read_from size at_start [] []) e ∙ follows size [] [] before after r p f

stuck_at : (size : ℕ) (c : Control) (ss : List Said) (es : List Entry) (before after : List Placed) (t : Placed) → Runs at_start ss es c → Spells ss before
    → ((us : List Said) → Spells us (before ++ t ∷ []) → ¬ Begins us) → read_from size c ss es (t ∷ after) ≡ refused 19 t.at
stuck_at size c ss es before after t r s n = go (step c t.token) refl
  where
    go : (x : Stepped) → step c t.token ≡ x → read_from size c ss es (t ∷ after) ≡ refused 19 t.at
    go stuck e = read-stuck size c ss es t after e
    go (went c₁ m fs) e = absurd (n (ss ++ (said t.token m ∷ [])) (spells-snoc ss before (said t.token m) t s refl) (starts-begins (runs_append r (single {s = said t.token m} e))))

unended-at : (size : ℕ) (c : Control) (ss : List Said) (es : List Entry) (ts : List Placed) → Runs at_start ss es c → Spells ss ts
    → ((us : List Said) (es : List Entry) → Spells us ts → ¬ Text us es) → read_from size c ss es [] ≡ refused 19 size
unended-at size c ss es ts r s n = read-end size c ss es ∙ go (is_at_end c) refl
  where
    go : (b : Bool) → is_at_end c ≡ b → cond b (passed (records_of ss es)) (refused 19 size) ≡ refused 19 size
    go true e = absurd (n ss es s (runs-text (subst (λ (x : Control). Runs at_start ss es x) (at-end-true c e) r)))
    go false e = refl

wrong-at : (size : ℕ) (c : Control) (ss : List Said) (es : List Entry) (before after : List Placed) (t : Placed) (m : Mention) (n : ℕ) → Runs at_start ss es c → Spells ss before
    → Begins (ss ++ (said t.token m ∷ [])) → Wrong (letters ss) m n → read_from size c ss es (t ∷ after) ≡ refused n t.at
wrong-at size c ss es before after t m n r s b w =
    let x = begins-starts b in
    let y = runs-split ss (said t.token m ∷ []) x.run in
    let o = runs-one before r y.first s s in
    from-run (subst (λ (k : Control). Runs k (said t.token m ∷ []) y.gives x.control) (sym o.0) y.second)
  where
    from-run : {d : Control} {fs : List Entry} → Runs c (said t.token m ∷ []) fs d → read_from size c ss es (t ∷ after) ≡ refused n t.at
    from-run (more {c₁ = c₁} {es = fs} e q) = read-went size c ss es t after c₁ m fs e ∙ unless-some (fault (letters ss) m) n t.at _ (wrong-fault w)

pub answers-read : (size : ℕ) (ts : List Placed) {a : Tested (List Record)} → Answers size ts a → read_tokens size ts ≡ a
answers-read size ts (inside {ss = ss} {es = es} f x) =
    read-to size ts ts [] (sym (append-nil ts)) (text-runs x) f.spells f.faultless ∙ read-end size at_end ss es ∙ ap (λ (b : Bool). cond b (passed (records_of ss es)) (refused 19 size)) end-at-end
answers-read size ts (outside {ss = ss} before after t e f n) =
    let x = begins-starts f.begins in
    read-to size ts before (t ∷ after) e x.run f.spells f.faultless ∙ stuck_at size x.control ss x.gives before after t x.run f.spells n
answers-read size ts (unended {ss = ss} f n) =
    let x = begins-starts f.begins in
    read-to size ts ts [] (sym (append-nil ts)) x.run f.spells f.faultless ∙ unended-at size x.control ss x.gives ts x.run f.spells n
answers-read size ts (wrong {ss = ss} {m = m} {n = n} before after t e f b w) =
    let x = begins-starts f.begins in
    read-to size ts before (t ∷ after) e x.run f.spells f.faultless ∙ wrong-at size x.control ss x.gives before after t m n x.run f.spells b w

-- for any tokens there is exactly one answer, and the reader gives it
pub answers-exactly : (size : ℕ) (ts : List Placed) (a : Tested (List Record)) → (read_tokens size ts ≡ a) ↔ Answers size ts a
answers-exactly size ts a = (λ e. subst (λ (x : Tested (List Record)). Answers size ts x) e (reader-answers size ts), λ x. answers-read size ts x)

-- for any text there is exactly one answer, and the reader gives it
pub reads-exactly : (text : List ℕ) (a : Tested (List Record)) → (read_text text ≡ a) ↔ Gives text a
unfolding read_text
reads-exactly text a = (
  λ e. record { split = tokens text; tokens = (tokens-exactly text (tokens text)).0 refl; answer = (answers-exactly (length text) (tokens text) a).0 e },
  λ r. ap (read_tokens (length text)) ((tokens-exactly text r.split).1 r.tokens) ∙ (answers-exactly (length text) r.split a).1 r.answer,
)
