-- The reply to the records of a text, from the first of them: a table that has more than 88 is refused within its first 89.
use mathlib.Core.Path.{◌≡◌, refl, sym, ap, ◌∙◌}
use mathlib.Core.Bool.{Bool, true, false}
use mathlib.Core.Logic.{⊎_elim}
use mathlib.Core.List.{List, [], ◌∷◌, ◌++◌, append_assoc}
use Prim.Native.Nat.{ℕ, zero, suc, ◌*◌, ◌≤◌, ◌<◌, min}
use native.Mathlib.Omega.{arith}
use lib.ListN.{length, take, drop, length-take, take-append-drop, length-map}
use lib.Seq.{take_all, length-take-le}
use lib.Dec.{leb}
use borrow.Author.Tests.{leb-true, leb-false}
use Rattle.std.specs.Prelude.{Ok, Err}
use Rattle.model.specs.declared.answer.Refused.{Refused}
use Rattle.model.specs.declared.answer.Refusal.TheVariants.{RoomTooSmall}
use Rattle.model.specs.declared.record.Record.{Record}
use Rattle.model.specs.Sizes.{record_size}
use Rattle.model.specs.Lists.{All}
use Rattle.model.specs.Record.{records, file_of}
use Rattle.model.specs.Kinds.{Entry, entry_of}
use Rattle.model.specs.Tests.{Tested, passed, refused, in_order}
use Rattle.model.specs.Reading.{read_record, reading}
use Rattle.model.specs.Reply.{Reply, done, refuse, number_of, refusal_at}
use Rattle.model.specs.Calls.{replied}
use Rattle.model.specs.Code.{Verdict, tested_of}
use Rattle.model.proofs.Bytes.{Small, records-file}
use Rattle.model.proofs.InOrder.{in-order-refused, in-order-at, file-whole}
use Rattle.model.proofs.Readable.{readable-sound}
use Rattle.model.proofs.Reading.{readable-exactly}
use Rattle.model.proofs.Records.{most-records}
use Rattle.model.proofs.Replies.{written-fits, written-not}
use Rattle.model.proofs.Tests.{passed-refused, and-then-passed, and-then-refused, then-passed, then-refused}
use Rattle.model.proofs.Words.{file-length}
use Rattle.record.specs.Words.{records_in}
use Rattle.litmus_model.specs.Call.{tabled, placed}
use Rattle.litmus_reader.specs.declared.records.Records.{Records}
use Rattle.litmus_reader.specs.Keeping.{most, Keeps}
use Rattle.litmus.specs.Tabled.{judged, Tabled}

-- ---- lists

all_take : {A : Type 0} (K : A → Type 0) (n : ℕ) (l : List A) → All K l → All K (take n l)
all_take K zero l a = tt
all_take K (suc n) [] a = tt
all_take K (suc n) (x ∷ l) a = (a.0, all_take K n l a.1)

-- ---- a table

-- what refuses the first records refuses them all
refuses-all : {A : Type 0} (f : ℕ → A → Record → Tested A) (i : ℕ) (a : A) (k : ℕ) (rs : List Record) (n j : ℕ) → in_order f i a (take k rs) ≡ refused n j → in_order f i a rs ≡ refused n j
refuses-all f i a k rs n j h =
    let x = in-order-refused f i a (take k rs) n j h in
    let parts = sym (take-append-drop k rs) ∙ ap (λ (l : List Record). l ++ drop k rs) x.found ∙ append_assoc x.before (x.r ∷ x.after) (drop k rs) in
    ap (in_order f i a) parts ∙ in-order-at f i a x.given x.before x.r (x.after ++ drop k rs) n j x.passes x.refuses

few : (rs : List Record) (entries : List Entry) → All Small rs → in_order read_record 0 [] rs ≡ passed entries → length rs ≤ 88
unfolding reading
few rs entries small h =
    let l = file-length rs in
    let readable = (readable-exactly (file_of rs) entries).0 (file-whole 1 read_record [] (file_of rs) (omega arith) ∙ ap (in_order read_record 0 []) (records-file rs small) ∙ h) in
    let m = most-records (file_of rs) entries readable in
    let many = ap length (readable-sound (file_of rs) entries readable).given ∙ length-map (records (file_of rs)) entry_of ∙ ap length (records-file rs small) in
    omega arith

-- ---- the records that are kept

take-least : {A : Type 0} (m n : ℕ) (l : List A) → length l ≡ m → take (min m n) l ≡ take n l
take-least m n l e = go (leb m n) refl
  where
    go : (b : Bool) → leb m n ≡ b → take (min m n) l ≡ take n l
    go true t = let h = leb-true m n t in take_all (min m n) l (omega arith) ∙ sym (take_all n l (omega arith))
    go false t = let h = leb-false m n t in let least : min m n ≡ n = omega arith in ap (λ (i : ℕ). take i l) least

module _ (all_kept : Records) (k : ℕ) (long : length all_kept.words ≡ most) (cut : k ≡ min all_kept.count most) where
  abbrev words : List ℕ
  words = all_kept.words

  abbrev n : ℕ
  n = all_kept.count

  abbrev kept : List Record
  kept = records_in (take k words)

  pub words_long : length (take k words) ≡ k
  words_long = length-take-le k words (omega arith)

  pub words-fit : (m : ℕ) → record_size * k ≤ m → length (take k words) * record_size ≤ m
  words-fit m l = omega (arith, words_long)

  module _ (room : List ℕ) (rs : List Record) (keeps : Keeps all_kept rs) (small : All Small rs) where
    abbrev reply : Reply
    reply = replied room (tabled rs) (placed room)

    first : kept ≡ take most rs
    first = let c : k ≡ min most n = omega arith in ap (λ (i : ℕ). records_in (take i words)) c ∙ ap records_in (take-least most n words long) ∙ keeps.first

    -- 1 to 7
    refuses : (m i : ℕ) → refused m i ≡ judged kept → refuse m i room ≡ reply
    unfolding replied tabled
    refuses m i h =
        ap (λ (t : Tested (List Record)). replied room t (placed room))
        (sym (then-refused (in_order read_record 0 [] rs) (λ es. passed rs) m i (refuses-all read_record 0 [] most rs m i (ap (in_order read_record 0 []) (sym first) ∙ here))))
      where
        here : in_order read_record 0 [] kept ≡ refused m i
        here = ⊎_elim (λ e. e) (λ e. passed-refused e.2) (and-then-refused (in_order read_record 0 [] kept) (λ es. passed tt) m i (sym h))

    module _ (p : passed tt ≡ judged kept) where
      given : (entries : List Entry) × (in_order read_record 0 [] (take most rs) ≡ passed entries)
      given = let e = and-then-passed (in_order read_record 0 [] kept) (λ es. passed tt) tt (sym p) in (e.0, ap (in_order read_record 0 []) (sym first) ∙ e.1)

      -- then they are all of them
      fewer : length rs < most
      fewer = let e = given in let f = few (take most rs) e.0 (all_take Small most rs small) e.1 in omega (arith, length-take most rs)

      same : take most rs ≡ rs
      same = take_all most rs (let f = fewer in omega arith)

      many : k ≡ length rs
      many = let c = keeps.count-is in let f = fewer in omega arith

      end : record_size * k ≡ record_size * length rs
      end = ap (λ (i : ℕ). record_size * i) many

      passes : placed room rs ≡ reply
      unfolding replied tabled
      passes =
          ap (λ (t : Tested (List Record)). replied room t (placed room))
          (sym (then-passed (in_order read_record 0 [] rs) (λ es. passed rs) given.0 (ap (in_order read_record 0 []) (sym same) ∙ given.1)))

      -- 13
      too_small : length room < record_size * k → refuse 13 (record_size * k) room ≡ reply
      unfolding placed
      too_small l = ap (λ (i : ℕ). refuse 13 i room) end ∙ sym (written-not (length rs) (record_size * length rs) (file_of rs) room (let m = many in omega arith)) ∙ passes

      -- 0
      fills : record_size * k ≤ length room → (after : List ℕ) → after ≡ file_of kept ++ drop (length (take k words) * record_size) room → done n after ≡ reply
      unfolding placed
      fills l after e =
          (λ i. done (keeps.count-is i) ((e ∙ (λ j. file_of ((first ∙ same) j) ++ drop (behind j) room)) i))
          ∙ sym (written-fits (length rs) (record_size * length rs) (file_of rs) room (let m = many in omega arith)) ∙ passes
        where
          behind : length (take k words) * record_size ≡ record_size * length rs
          behind = let m = many in omega (arith, words_long)

  -- ---- so the answer is right

  module _ (room : List ℕ) (v : Verdict) (says : tested_of v tt ≡ judged kept) where
    pub refused-table : (r : Refused) → v ≡ Err r → Tabled all_kept room (Err r) room
    refused-table r e =
        record { each = λ rs keeps small. refuses room rs keeps small (number_of r.why) r.place (ap (λ (w : Verdict). tested_of {A = Unit {0}} w tt) (sym e) ∙ says) }

    passing : v ≡ Ok tt → passed tt ≡ judged kept
    passing e = ap (λ (w : Verdict). tested_of {A = Unit {0}} w tt) (sym e) ∙ says

    pub room-too-small : v ≡ Ok tt → length room < record_size * k → Tabled all_kept room (Err (refusal_at RoomTooSmall (record_size * k))) room
    room-too-small e l = record { each = λ rs keeps small. too_small room rs keeps small (passing e) l }

    pub room-filled : v ≡ Ok tt → record_size * k ≤ length room → (after : List ℕ) → after ≡ file_of kept ++ drop (length (take k words) * record_size) room → Tabled all_kept room (Ok n) after
    room-filled e l after a = record { each = λ rs keeps small. fills room rs keeps small (passing e) l after a }
