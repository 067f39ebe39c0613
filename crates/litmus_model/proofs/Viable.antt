-- Wherever the automaton comes to, it can be led on to its end.
use mathlib.Core.Path.{◌≡◌, refl, sym, ◌∙◌}
use mathlib.Core.Bool.{Bool, true, false, cond}
use mathlib.Core.Option.{none, some}
use mathlib.Core.Logic.{inl}
use mathlib.Core.List.{List, [], ◌∷◌, ◌++◌}
use Prim.Native.Nat.{ℕ, zero, suc, ◌<◌, ◌+◌, ◌-◌}
use native.Mathlib.Omega.{arith}
use lib.Dec.{eqb}
use borrow.Author.Tests.{eqb-false}
use Rattle.litmus_model.specs.Bytes.{Token, is_name, in_name}
use Rattle.litmus_model.specs.Forms.{X86, opening, closing, semicolon, exists, Pattern, exactly, location, register, processor, constant, dollar, fits, nothing, a_processor, mention, is_end, Form, form, row_forms, mark_of, Draft, blank, Entry, entries, heading}
use Rattle.model.specs.Lists.{In}
use Rattle.litmus_model.specs.Grammar.{Said, said, plain, Fits, noted_all, Phrase, phrase}
use Rattle.litmus_model.specs.Reader.{complete, Context, braces, row, next, Control, at_start, at_name, at_opening, at_end, beginning, within, at_heading, behind_heading, step}
use Rattle.litmus_model.proofs.Bools.{same_refl}
use Rattle.litmus_model.proofs.Forms.{Separate, complete-some}
use Rattle.litmus_model.proofs.Runs.{Runs, done, runs_append, single, within-runs, to-next, to-first, phrase-in-row, at-heading, at-semicolon, at-closing-step, at-end, at_name_step}
use Rattle.litmus_model.proofs.Reached.{Before, cells, rows, Reached, start, named, opened, begun, inside, closed-cells, barred, headed, ended}

pub record Ends (c : Control) : Type 0 where
  pub rest : List Said
  pub gives : List Entry
  pub run : Runs c rest gives at_end

lead : {b c : Control} {ss : List Said} {es : List Entry} → Runs b ss es c → Ends c → Ends b
lead {ss = ss} {es = es} r e = record { rest = ss ++ e.rest; gives = es ++ e.gives; run = runs_append r e.run }

-- ---- a token for each pattern

example : Pattern → Token
example (exactly w) = w
example location = 97 ∷ []
example register = 69 ∷ 65 ∷ 88 ∷ []
example processor = 48 ∷ []
example constant = 48 ∷ []
example dollar = 36 ∷ 48 ∷ []

example-fits : (p : Pattern) → fits p (example p) ≡ true
unfolding example fits
example-fits (exactly w) = same_refl w
example-fits location = refl
example-fits register = refl
example-fits processor = refl
example-fits constant = refl
example-fits dollar = refl

examples : List Pattern → List Said
examples [] = []
examples (p ∷ ps) = said (example p) (mention p (example p)) ∷ examples ps

examples-fit : (ps : List Pattern) → Fits ps (examples ps)
unfolding examples
examples-fit [] = tt
examples-fit (p ∷ ps) = (example-fits p, refl, examples-fit ps)

-- ---- rows

same-refl-fits : (w : Token) → fits (exactly w) w ≡ true
unfolding fits
same-refl-fits w = same_refl w

mention-exactly : (w t : Token) → nothing ≡ mention (exactly w) t
unfolding mention
mention-exactly w t = refl

-- an empty cell
empty-cell : (n p : ℕ) → Phrase (row_forms (mark_of n p)) (blank p) (plain (mark_of n p) ∷ []) []
unfolding row_forms noted_all entries
empty-cell n p = phrase (form 0 (exactly (mark_of n p) ∷ [])) (inl refl) (exactly-fits (mark_of n p))
  where
    exactly-fits : (w : Token) → Fits (exactly w ∷ []) (plain w ∷ [])
    exactly-fits w = (same-refl-fits w, mention-exactly w w, tt)

exists-ends : is_end exists ≡ true
unfolding is_end
exists-ends = refl

rows_end : (n : ℕ) → Ends (beginning (row n 0))
rows_end n = record { rest = plain exists ∷ []; gives = []; run = single (at-end n exists exists-ends) }

-- k cells are left behind cell p
row-end : (n p k : ℕ) → suc p + k ≡ n → Ends (beginning (row n p))
row-end n p zero e = lead (to-first n p (omega arith) (phrase-in-row (empty-cell n p))) (rows_end n)
row-end n p (suc k) e = lead (to-next n p (omega arith) (phrase-in-row (empty-cell n p))) (row-end n (suc p) k (omega arith))

row_ends : (n p : ℕ) → p < n → Ends (beginning (row n p))
row_ends n p l = row-end n p (n - suc p) (omega arith)

-- ---- the rest

headed-ends : (n : ℕ) → Ends (behind_heading n)
headed-ends n = lead (single {s = plain semicolon} (at-semicolon n)) (rows_end n)

heading-ends : (n : ℕ) → Ends (at_heading n)
heading-ends n = lead (single {s = said (heading n) (a_processor n)} (at-heading n)) (headed-ends (suc n))

braces-end : Ends (beginning braces)
braces-end = lead (single {s = plain closing} at-closing-step) (heading-ends 0)

before-ends : {c : Context} {ss : List Said} {es : List Entry} → Before c ss es → Ends (beginning c)
before-ends (cells h cs) = braces-end
before-ends (rows {n = n} {p = p} t h r w l) = row_ends n p l

next-ends : {c : Context} {ss : List Said} {es : List Entry} → Before c ss es → Ends (beginning (next c))
unfolding next
next-ends (cells h cs) = braces-end
next-ends (rows {n = n} {p = p} t h r w l) = go (eqb (suc p) n) refl
  where
    go : (b : Bool) → eqb (suc p) n ≡ b → Ends (beginning (cond b (row n 0) (row n (suc p))))
    go true e = rows_end n
    go false e = row_ends n (suc p) (let d = eqb-false (suc p) n e in omega (arith, d))

-- the first form that is left
form-ends : (c : Context) (fs : List Form) (d : Draft) (k : ℕ) (ps : List Pattern) → Separate fs → complete fs ≡ none → In (form k ps) fs → Ends (beginning (next c)) → Ends (within c fs d)
form-ends c fs d k [] s u i n = let h : none ≡ some k = sym u ∙ complete-some fs k s i in let z : ◌≡◌ {A = ℕ} 0 1 = cc in absurd (omega arith)
form-ends c fs d k (p ∷ ps) s u i n = lead (within-runs c fs d k p ps (examples (p ∷ ps)) s i (examples-fit (p ∷ ps))) n

at-opening : step at_opening opening ≡ Rattle.litmus_model.specs.Reader.went (beginning braces) nothing []
unfolding step
at-opening = refl

at-X86 : step at_start X86 ≡ Rattle.litmus_model.specs.Reader.went at_name nothing []
unfolding step
at-X86 = refl

a-name : is_name (97 ∷ []) ≡ true
unfolding Rattle.litmus_model.specs.Bytes.some in_name
a-name = refl

opening-ends : Ends at_opening
opening-ends = lead (single {s = plain opening} {es = []} at-opening) braces-end

name-ends : Ends at_name
name-ends = lead (single {s = plain (97 ∷ [])} (at_name_step (97 ∷ []) a-name)) opening-ends

pub reached-ends : {c : Control} {ss : List Said} {es : List Entry} → Reached c ss es → Ends c
reached-ends start = lead (single {s = plain X86} at-X86) name-ends
reached-ends named = name-ends
reached-ends (opened n) = opening-ends
reached-ends (begun b) = before-ends b
reached-ends (inside {c = c} {fs = fs} {d = d} b p u g) = form-ends c fs d g.0.kind g.0.patterns p.separate u g.1 (next-ends b)
reached-ends (closed-cells a) = heading-ends 0
reached-ends (barred {n = n} a h) = heading-ends n
reached-ends (headed {n = n} a h) = headed-ends n
reached-ends (ended x) = record { rest = []; gives = []; run = done }
