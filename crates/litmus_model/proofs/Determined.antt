-- The tokens determine the run.
use mathlib.Core.Path.{◌≡◌, refl, ap, sym, ◌∙◌, subst}
use mathlib.Core.List.{List, [], ◌∷◌, ◌++◌}
use Rattle.litmus_model.specs.Bytes.{Token}
use Rattle.litmus_model.specs.Tokens.{Placed}
use Rattle.litmus_model.specs.Forms.{Mention, Entry}
use Rattle.litmus_model.specs.Grammar.{Said, said}
use Rattle.litmus_model.specs.Answers.{Spells, Begins}
use Rattle.litmus_model.specs.Reader.{Control, at_start, went, step}
use Rattle.litmus_model.proofs.Runs.{Runs, done, more, runs_append, text-runs}
use Rattle.litmus_model.proofs.Reached.{start, runs-reached, runs-text}
use Rattle.litmus_model.proofs.Viable.{reached-ends}

-- ---- a run in two parts

pub record Split (a : Control) (ss us : List Said) (c : Control) : Type 0 where
  pub middle : Control
  pub given : List Entry
  pub gives : List Entry
  pub first : Runs a ss given middle
  pub second : Runs middle us gives c

pub runs-split : {a c : Control} {es : List Entry} (ss us : List Said) → Runs a (ss ++ us) es c → Split a ss us c
runs-split {a} {es = es} [] us r = record { middle = a; given = []; gives = es; first = done; second = r }
runs-split (s ∷ ss) us (more {es = es} e q) =
    let x = runs-split ss us q in
    record { middle = x.middle; given = es ++ x.given; gives = x.gives; first = more e x.first; second = x.second }

-- ---- beginnings

pub record Starts (ss : List Said) : Type 0 where
  pub control : Control
  pub gives : List Entry
  pub run : Runs at_start ss gives control

-- what the automaton reads is what texts of the grammar begin with
pub begins-starts : {ss : List Said} → Begins ss → Starts ss
begins-starts {ss} b = let x = runs-split ss b.rest (text-runs b.whole) in record { control = x.middle; gives = x.given; run = x.first }

pub starts-begins : {ss : List Said} {es : List Entry} {c : Control} → Runs at_start ss es c → Begins ss
starts-begins {es = es} r =
    let x = reached-ends (runs-reached start r) in
    record { rest = x.rest; entries = es ++ x.gives; whole = runs-text (runs_append r x.run) }

-- ---- the same tokens

step_same : (c : Control) {c₁ c₂ : Control} {t u : Token} {m n : Mention} {es fs : List Entry} → t ≡ u → step c t ≡ went c₁ m es → step c u ≡ went c₂ n fs → (c₁ ≡ c₂) × (m ≡ n) × (es ≡ fs)
step_same c {c₁} {c₂} {t} {u} {m} {n} {es} {fs} e p q = let h : went c₁ m es ≡ went c₂ n fs = sym p ∙ ap (step c) e ∙ q in (cc, cc, cc)

-- where two runs of the same tokens come to
pub runs-one : {a b c : Control} {ss us : List Said} {es fs : List Entry} (ts : List Placed) → Runs a ss es b → Runs a us fs c → Spells ss ts → Spells us ts → (b ≡ c) × (ss ≡ us) × (es ≡ fs)
runs-one [] done done p q = (refl, refl, refl)
runs-one [] done (more e r) p q = absurd q
runs-one [] (more e r) s p q = absurd p
runs-one (t ∷ ts) done s p q = absurd p
runs-one (t ∷ ts) (more e r) done p q = absurd q
runs-one {a} {b} {c} (t ∷ ts) (more {c₁ = c₁} {s = s} {ss = ss} {es = es} {fs = fs} e r) (more {c₁ = c₂} {s = u} {ss = us} {es = ds} {fs = gs} f q) p o =
    let k = step_same a (p.0 ∙ sym o.0) e f in
    let r₂ : Runs c₂ ss fs b = subst (λ (x : Control). Runs x ss fs b) k.0 r in
    let i = runs-one ts r₂ q p.1 o.1 in
    (i.0, (λ x. said ((p.0 ∙ sym o.0) x) (k.1 x) ∷ i.1 x), λ x. k.2 x ++ i.2 x)

-- the next token of a longer run
pub record Next (c : Control) (t : Token) : Type 0 where
  pub control : Control
  pub says : Mention
  pub gives : List Entry
  pub steps : step c t ≡ went control says gives

pub runs-next : {a b c : Control} {ss us : List Said} {es fs : List Entry} (ts : List Placed) (t : Placed) (after : List Placed)
    → Runs a ss es b → Runs a us fs c → Spells ss ts → Spells us (ts ++ t ∷ after) → Next b t.token
runs-next {a} [] t after done (more {c₁ = c₁} {s = s} {es = es} e r) p q = record { control = c₁; says = s.says; gives = es; steps = ap (step a) (sym q.0) ∙ e }
runs-next [] t after done done p q = absurd q
runs-next [] t after (more e r) s p q = absurd p
runs-next (x ∷ ts) t after done s p q = absurd p
runs-next (x ∷ ts) t after (more e r) done p q = absurd q
runs-next {a} {b} (x ∷ ts) t after (more {c₁ = c₁} {s = s} {ss = ss} {es = es} {fs = fs} e r) (more {c₁ = c₂} {s = u} {ss = us} {es = ds} {fs = gs} f q) p o =
    let k = step_same a (p.0 ∙ sym o.0) e f in
    runs-next ts t after (subst (λ (y : Control). Runs y ss fs b) k.0 r) q p.1 o.1
