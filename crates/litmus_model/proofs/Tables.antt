-- The records of a text: each is proper and can be written in bytes, and initial ones come first.
use mathlib.Core.Path.{◌≡◌, refl, sym, ◌∙◌, subst}
use mathlib.Core.Bool.{Bool, true, false, cond}
use mathlib.Core.List.{List, [], ◌∷◌, ◌++◌, map, map-append}
use Prim.Native.Nat.{ℕ, suc, ◌-◌, ◌≤◌, ◌<◌}
use native.Mathlib.Omega.{arith}
use lib.ListN.{length, length-append}
use lib.IntN.{ℤ, pos, negsuc}
use Rattle.model.specs.declared.record.Record.{Record}
use Rattle.model.specs.Sizes.{processors, locations, values}
use Rattle.model.specs.Lists.{All, In}
use Rattle.model.specs.Fields.{Proper}
use Rattle.model.specs.Kinds.{table_uses}
use Rattle.model.specs.Tests.{Tested, passed}
use Rattle.model.proofs.Tests.{passed-inj, passed-refused}
use Rattle.model.proofs.Lists.{all_append}
use Rattle.model.proofs.Bytes.{Small}
use Rattle.litmus_model.specs.Tokens.{Placed}
use Rattle.litmus_model.specs.Forms.{Mention, nothing, a_processor, a_register, a_location, a_constant, stored, closing, semicolon, bar, heading, mark_of, Entry}
use Rattle.litmus_model.specs.Grammar.{Said, said, plain, Cells, Headings, Row, Rows, ignored, Text}
use Rattle.litmus_model.specs.Answers.{among, letters, seen_on, seen_all, record_of, records_of, InRange, Wrong, processor_above, ninth, out_of_range, Faultless, Answers, inside, outside, unended, wrong, Gives}
use Rattle.litmus_model.proofs.Bools.{false-true}
use Rattle.litmus_model.specs.Reader.{in_range}
use Rattle.litmus_model.proofs.Faults.{in-among, range-in, in-range}
use Rattle.litmus_model.proofs.Following.{keeps, has}
use Rattle.litmus_model.proofs.Drafts.{Good, AllGood, is_initial, Sound, AllSound, cell-sound, row-cell-sound}

-- ---- lists

all_left : {A : Type 0} (K : A → Type 0) (l m : List A) → All K (l ++ m) → All K l
all_left K [] m a = tt
all_left K (x ∷ l) m a = (a.0, all_left K l m a.1)

all_right : {A : Type 0} (K : A → Type 0) (l m : List A) → All K (l ++ m) → All K m
all_right K [] m a = a
all_right K (x ∷ l) m a = all_right K l m a.1

-- ---- what a text without fault says

-- there are at most eight letters
few-more : (seen : List ℕ) (m : Mention) → length seen ≤ locations → ((n : ℕ) → ¬ Wrong seen m n) → length (seen_on seen m) ≤ locations
unfolding seen_on
few-more seen nothing l w = l
few-more seen (a_processor p) l w = l
few-more seen (a_register r) l w = l
few-more seen (a_constant v) l w = l
few-more seen (a_location x) l w = go (among x seen) refl
  where
    go : (b : Bool) → among x seen ≡ b → length (cond b seen (seen ++ (x ∷ []))) ≤ locations
    go true e = l
    go false e =
        let n : ¬ (8 ≤ length seen) = λ h. w 20 (ninth (λ i. false-true (sym e ∙ in-among x seen i)) h) in
        simp length-append (omega arith)

few : (seen : List ℕ) (ss : List Said) → length seen ≤ locations → Faultless seen ss → length (seen_all seen ss) ≤ locations
unfolding seen_all
few seen [] l f = l
few seen (s ∷ ss) l f = few (seen_on seen s.says) ss (few-more seen s.says l f.0) f.1

all-keeps : (seen : List ℕ) (ss : List Said) (x : ℕ) → In x seen → In x (seen_all seen ss)
unfolding seen_all
all-keeps seen [] x i = i
all-keeps seen (s ∷ ss) x i = all-keeps (seen_on seen s.says) ss x (keeps seen s.says x i)

stored-small : (v : ℤ) → InRange v → stored v < values
stored-small (pos n) r = let l : n < values = omega arith in l
stored-small (negsuc n) r = let l : values - suc n < values = omega arith in l

not-out : (v : ℤ) → ¬ ¬ InRange v → InRange v
not-out v w = go (in_range v) refl
  where
    go : (b : Bool) → in_range v ≡ b → InRange v
    go true e = range-in v e
    go false e = absurd (w (λ r. false-true (sym e ∙ in-range v r)))

good : (seen : List ℕ) (ss : List Said) (m : Mention) → ((n : ℕ) → ¬ Wrong seen m n) → Good (seen_all (seen_on seen m) ss) m
good seen ss nothing w = tt
good seen ss (a_processor p) w = let h : ¬ (4 ≤ p) = λ l. w 20 (processor_above l) in omega arith
good seen ss (a_register r) w = tt
good seen ss (a_location x) w = all-keeps (seen_on seen (a_location x)) ss x (has seen x)
good seen ss (a_constant v) w = stored-small v (not-out v (λ o. w 21 (out_of_range o)))

all-good : (seen : List ℕ) (ss : List Said) → Faultless seen ss → AllGood (seen_all seen ss) ss
unfolding seen_all
all-good seen [] f = tt
all-good seen (s ∷ ss) f = (good seen ss s.says f.0, all-good (seen_on seen s.says) ss f.1)

-- ---- the parts of a text

module _ (seen : List ℕ) (few-seen : length seen ≤ locations) where
  abbrev K : Said → Type 0
  K s = Good seen s.says

  join : (initial : Bool) (es fs : List Entry) → AllSound initial seen es → AllSound initial seen fs → AllSound initial seen (es ++ fs)
  join initial es fs a b = all_append (λ (e : Entry). Sound initial (record_of seen e)) es fs a b

  cells-sound : {ss : List Said} {es : List Entry} → Cells ss es → AllGood seen ss → AllSound true seen es
  cells-sound Cells.none g = tt
  cells-sound (Cells.more {ss = ss} {us = us} {es = es} {fs = fs} c x) g = join true es fs (cells-sound c (all_left K ss us g)) (cell-sound seen few-seen (all_right K ss us g) x)

  headings-few : {n : ℕ} {ss : List Said} → Headings n ss → AllGood seen ss → n ≤ processors
  headings-few Headings.first g = omega arith
  headings-few (Headings.more {n = n} {ss = ss} h) g = let l : n < processors = (all_right K (ss ++ (plain bar ∷ [])) (said (heading n) (a_processor n) ∷ []) g).0 in omega arith

  row-sound : {n p : ℕ} {ss : List Said} {es : List Entry} → Row n p ss es → p ≤ processors → AllGood seen ss → AllSound false seen es
  row-sound Row.none l g = tt
  row-sound {n} (Row.more {p = p} {ss = ss} {us = us} {es = es} {fs = fs} r x) l g =
      join false es fs (row-sound r (omega arith) (all_left K ss us g)) (row-cell-sound seen (mark_of n p) p few-seen (omega arith) (all_right K ss us g) x)

  rows-sound : {n : ℕ} {ss : List Said} {es : List Entry} → Rows n ss es → n ≤ processors → AllGood seen ss → AllSound false seen es
  rows-sound Rows.none l g = tt
  rows-sound (Rows.more {ss = ss} {us = us} {es = es} {fs = fs} r x) l g = join false es fs (rows-sound r l (all_left K ss us g)) (row-sound x l (all_right K ss us g))

-- ---- initial records first

-- behind an instruction there are instructions only
abbrev pub InitialFirst : List Record → Type 0
InitialFirst [] = Unit {0}
InitialFirst (r ∷ rs) = (is_initial r ≡ false → All (λ (q : Record). is_initial q ≡ false) rs) × InitialFirst rs

instructions-in-order : (rs : List Record) → All (λ (q : Record). is_initial q ≡ false) rs → InitialFirst rs
instructions-in-order [] a = tt
instructions-in-order (r ∷ rs) a = (λ e. a.1, instructions-in-order rs a.1)

in_order : (initial rs : List Record) → All (λ (q : Record). is_initial q ≡ true) initial → All (λ (q : Record). is_initial q ≡ false) rs → InitialFirst (initial ++ rs)
in_order [] rs a b = instructions-in-order rs b
in_order (r ∷ initial) rs a b = (λ e. false-true (sym e ∙ a.0), in_order initial rs a.1 b)

-- ---- all of them

pub record Table (rs : List Record) : Type 0 where
  pub proper : All (Proper table_uses) rs
  pub small : All Small rs
  pub initial_first : InitialFirst rs

of-entries : (K : Record → Type 0) (initial : Bool) (seen : List ℕ) (es : List Entry) → ((r : Record) → Sound initial r → K r) → AllSound initial seen es → All K (map (record_of seen) es)
of-entries K initial seen [] f a = tt
of-entries K initial seen (e ∷ es) f a = (f (record_of seen e) a.0, of-entries K initial seen es f a.1)

of_parts : (seen : List ℕ) (es fs : List Entry) → AllSound true seen es → AllSound false seen fs → Table (map (record_of seen) es ++ map (record_of seen) fs)
of_parts seen es fs a b = record {
  proper = all_append (Proper table_uses) (map (record_of seen) es) (map (record_of seen) fs) (of-entries _ true seen es (λ r s. s.proper) a) (of-entries _ false seen fs (λ r s. s.proper) b);
  small = all_append Small (map (record_of seen) es) (map (record_of seen) fs) (of-entries _ true seen es (λ r s. s.small) a) (of-entries _ false seen fs (λ r s. s.small) b);
  initial_first = in_order (map (record_of seen) es) (map (record_of seen) fs) (of-entries _ true seen es (λ r s. s.kind) a) (of-entries _ false seen fs (λ r s. s.kind) b);
}

text-table : {ss : List Said} {es : List Entry} → Text ss es → Faultless [] ss → Table (records_of ss es)
unfolding records_of
text-table {ss} (Text.text {h = h} {cs = cs} {hs = hs} {rs = rs} {es = es} {fs = fs} {n = n} end rest hd ce he ro e) f =
    let seen = letters ss in
    let l : length seen ≤ locations = few [] ss (omega arith) f in
    let K : Said → Type 0 = λ s. Good seen s.says in
    let top = h ++ cs ++ (plain closing ∷ []) in
    let head = top ++ hs ++ (plain semicolon ∷ []) in
    let body : AllGood seen (head ++ rs) = all_left K (head ++ rs) (plain end ∷ []) (all_left K (head ++ rs ++ (plain end ∷ [])) (ignored rest) (all-good [] ss f)) in
    let upper : AllGood seen (top ++ hs) = all_left K (top ++ hs) (plain semicolon ∷ []) (all_left K head rs body) in
    let braces : AllGood seen cs = all_right K h cs (all_left K (h ++ cs) (plain closing ∷ []) (all_left K top hs upper)) in
    let columns : n ≤ processors = headings-few seen l he (all_right K top hs upper) in
    subst Table (sym (map-append (record_of seen) es fs)) (of_parts seen es fs (cells-sound seen l ce braces) (rows-sound seen l ro columns (all_right K head rs body)))

answer-table : {size : ℕ} {ts : List Placed} {a : Tested (List Record)} (rs : List Record) → Answers size ts a → a ≡ passed rs → Table rs
answer-table rs (inside f x) e = subst Table (passed-inj e) (text-table x f.faultless)
answer-table rs (outside before after t q f n) e = passed-refused (sym e)
answer-table rs (unended f n) e = passed-refused (sym e)
answer-table rs (wrong before after t q f b w) e = passed-refused (sym e)

-- the records of a text are a table, but for cells given twice and too many instructions
pub gives-table : (text : List ℕ) (rs : List Record) → Gives text (passed rs) → Table rs
gives-table text rs g = answer-table rs g.answer refl
