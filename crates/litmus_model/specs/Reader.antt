-- The reader, as a function: an automaton, token by token.
use Rattle.std.specs.Prelude.{Bool, true, false, cond, List, [], ◌∷◌, ◌++◌, map, ℕ, zero, suc, length, eqb, leb, ltb, ℤ, pos, negsuc}
use Rattle.std.proofs.Math.Option.{Option, none, some}
use Rattle.model.specs.declared.record.Record.{Record}
use Rattle.model.specs.Sizes.{processors, locations}
use Rattle.model.specs.Tests.{Tested, passed, refused, unless}
use Rattle.litmus_model.specs.Bytes.{Token, same, is_name}
use Rattle.litmus_model.specs.Tokens.{Placed}
use Rattle.litmus_model.specs.Forms.{X86, opening, closing, semicolon, bar, Pattern, fits, Mention, nothing, a_processor, a_register, a_location, a_constant, mention, Form, form, cell_forms, row_forms, mark_of, Draft, blank, noted, Entry, entries, heading, is_end}
use Rattle.litmus_model.specs.Grammar.{Said, said}
use Rattle.litmus_model.specs.Answers.{among, letters, seen_on, seen_all, record_of, records_of}
use Rattle.litmus_model.specs.Splitting.{tokens}

-- ---- inside a form: what is left of those that can still be meant

-- what is left of a form, if the token fits
unfoldable pub onward : ℕ → List Pattern → Token → List Form
unfolding fits
onward k [] t = []
onward k (p ∷ ps) t = cond (fits p t) (form k ps ∷ []) []

unfoldable pub advance : List Form → Token → List Form
unfolding onward
advance [] t = []
advance (f ∷ fs) t = onward f.kind f.patterns t ++ advance fs t

-- what the token says in the first form that it fits
unfoldable pub saying : List Pattern → Token → Mention → Mention
unfolding fits mention
saying [] t m = m
saying (p ∷ ps) t m = cond (fits p t) (mention p t) m

unfoldable pub mention_in : List Form → Token → Mention
unfolding saying
mention_in [] t = nothing
mention_in (f ∷ fs) t = saying f.patterns t (mention_in fs t)

-- the kind of the first form that is at its end
unfoldable pub ending : List Pattern → ℕ → Option ℕ → Option ℕ
ending [] k o = some k
ending (p ∷ ps) k o = o

unfoldable pub complete : List Form → Option ℕ
unfolding ending
complete [] = none
complete (f ∷ fs) = ending f.patterns f.kind (complete fs)

pub data Progress : Type 0 where
  halted : Progress
  going : List Form → Draft → Mention → Progress
  closed : Mention → List Entry → Progress

unfoldable pub finishing : Option ℕ → List Form → Draft → Mention → Progress
unfolding entries
finishing none fs d m = going fs d m
finishing (some k) fs d m = closed m (entries k d)

unfoldable pub judged : List Form → Draft → Mention → Progress
unfolding finishing complete
judged [] d m = halted
judged (f ∷ fs) d m = finishing (complete (f ∷ fs)) (f ∷ fs) d m

unfoldable pub progress : List Form → Draft → Token → Progress
unfolding judged advance mention_in noted
progress fs d t = judged (advance fs t) (noted d (mention_in fs t)) (mention_in fs t)

-- ---- where forms stand: in braces, or cell p of a row of n

pub data Context : Type 0 where
  braces : Context
  row : (n p : ℕ) → Context

unfoldable pub forms_in : Context → List Form
unfolding cell_forms row_forms mark_of
forms_in braces = cell_forms
forms_in (row n p) = row_forms (mark_of n p)

unfoldable pub draft_in : Context → Draft
draft_in braces = blank 0
draft_in (row n p) = blank p

unfoldable pub next : Context → Context
next braces = braces
next (row n p) = cond (eqb (suc p) n) (row n 0) (row n (suc p))

-- ---- the automaton

pub data Control : Type 0 where
  at_start at_name at_opening at_end : Control
  -- where a form may begin, and within one
  beginning : Context → Control
  within : Context → List Form → Draft → Control
  -- before heading n, and behind n headings
  at_heading behind_heading : ℕ → Control

pub data Stepped : Type 0 where
  stuck : Stepped
  went : Control → Mention → List Entry → Stepped

-- the token that ends the cells, or the rows
unfoldable pub leaves : Context → Token → Bool
unfolding same is_end
leaves braces t = same closing t
leaves (row n zero) t = is_end t
leaves (row n (suc p)) t = false

abbrev pub left : Context → Control
left braces = at_heading 0
left (row n p) = at_end

unfoldable pub on_with : Context → Progress → Stepped
unfolding next
on_with c halted = stuck
on_with c (going fs d m) = went (within c fs d) m []
on_with c (closed m es) = went (beginning (next c)) m es

abbrev pub goes : Control → Mention → Stepped
goes c m = went c m []

unfoldable pub step : Control → Token → Stepped
unfolding same Rattle.litmus_model.specs.Bytes.some Rattle.litmus_model.specs.Bytes.in_name heading leaves on_with progress forms_in draft_in
step at_start t = cond (same X86 t) (goes at_name nothing) stuck
step at_name t = cond (is_name t) (goes at_opening nothing) stuck
step at_opening t = cond (same opening t) (goes (beginning braces) nothing) stuck
step (beginning c) t = cond (leaves c t) (goes (left c) nothing) (on_with c (progress (forms_in c) (draft_in c) t))
step (within c fs d) t = on_with c (progress fs d t)
step (at_heading n) t = cond (same (heading n) t) (goes (behind_heading (suc n)) (a_processor n)) stuck
step (behind_heading n) t = cond (same bar t) (goes (at_heading n) nothing) (cond (same semicolon t) (goes (beginning (row n 0)) nothing) stuck)
step at_end t = goes at_end nothing

-- ---- reading

unfoldable pub in_range : ℤ → Bool
in_range (pos n) = leb n 4294967295
in_range (negsuc n) = ltb n 2147483648

-- what is wrong with a mention: 20, 21 or nothing
unfoldable pub fault : List ℕ → Mention → Option ℕ
unfolding among in_range
fault seen nothing = none
fault seen (a_processor p) = cond (leb processors p) (some 20) none
fault seen (a_register r) = none
fault seen (a_location x) = cond (among x seen) none (cond (leb locations (length seen)) (some 20) none)
fault seen (a_constant v) = cond (in_range v) none (some 21)

unfoldable pub is_at_end : Control → Bool
is_at_end at_start = false
is_at_end at_name = false
is_at_end at_opening = false
is_at_end at_end = true
is_at_end (beginning c) = false
is_at_end (within c fs d) = false
is_at_end (at_heading n) = false
is_at_end (behind_heading n) = false

-- a text of that size: where the automaton is, what it read and what that gave, and the tokens ahead
unfoldable pub read_from : ℕ → Control → List Said → List Entry → List Placed → Tested (List Record)
unfolding step fault seen_all records_of is_at_end unless
read_from size c ss es [] = cond (is_at_end c) (passed (records_of ss es)) (refused 19 size)
read_from size c ss es (t ∷ ts) =
    elim (step c t.token) [
      | stuck ↦ refused 19 t.at
      | went c₁ m fs ↦ unless (fault (letters ss) m) t.at (read_from size c₁ (ss ++ (said t.token m ∷ [])) (es ++ fs) ts)
    ]

unfoldable pub read_tokens : ℕ → List Placed → Tested (List Record)
unfolding read_from
read_tokens size ts = read_from size at_start [] [] ts

unfoldable pub read_text : List ℕ → Tested (List Record)
unfolding read_tokens tokens
read_text text = read_tokens (length text) (tokens text)

-- ---- the same with constant memory but for the records: the letters seen, and the records given so far

unfoldable pub carried : ℕ → Control → List ℕ → List Record → List Placed → Tested (List Record)
unfolding step fault seen_on record_of is_at_end unless
carried size c seen rs [] = cond (is_at_end c) (passed rs) (refused 19 size)
carried size c seen rs (t ∷ ts) =
    elim (step c t.token) [
      | stuck ↦ refused 19 t.at
      | went c₁ m fs ↦ unless (fault seen m) t.at (carried size c₁ (seen_on seen m) (rs ++ map (record_of (seen_on seen m)) fs) ts)
    ]
