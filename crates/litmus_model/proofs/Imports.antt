-- The call gives exactly the replies of specs/Imports.antt: one for every text and room.
use mathlib.Core.Path.{◌≡◌, refl, sym, ap, ◌∙◌, subst}
use mathlib.Core.Logic.{◌↔◌}
use mathlib.Core.List.{List, [], ◌∷◌, ◌++◌}
use Prim.Native.Nat.{ℕ, ◌+◌, ◌*◌}
use native.Mathlib.Nat.{zero-add}
use lib.ListN.{length}
use Rattle.model.specs.declared.record.Record.{Record}
use Rattle.model.specs.Sizes.{record_size}
use Rattle.model.specs.Record.{file_of}
use Rattle.model.specs.Kinds.{Entry}
use Rattle.model.specs.Table.{Refuses, Reads}
use Rattle.model.specs.Tests.{Tested, passed, refused, and_then, in_order}
use Rattle.model.specs.Reading.{read_record}
use Rattle.model.specs.Reply.{Reply, refuse}
use Rattle.model.specs.Calls.{replied}
use Rattle.model.proofs.Tests.{then-passed, then-refused}
use Rattle.model.proofs.InOrder.{in-order-refused, in-order-at}
use Rattle.model.proofs.Reading.{read-refused, read-refuses, reads, reads-back}
use Rattle.model.proofs.Replies.{written-fits, written-not, written_is}
use Rattle.litmus_model.specs.Answers.{Gives}
use Rattle.litmus_model.specs.Imports.{Imports, text_refused, table_refused, too_small}
use Rattle.litmus_model.specs.Reader.{read_text}
use Rattle.litmus_model.specs.Call.{tabled, placed, imported}
use Rattle.litmus_model.proofs.Answers.{reads-exactly}

-- ---- the function's reply is one

fits-or-not : (text room : List ℕ) (entries : List Entry) (rs : List Record) → Gives text (passed rs) → Reads [] rs entries → Imports text room (placed room rs)
unfolding placed
fits-or-not text room entries rs g x =
    written_is (Imports text room) (length rs) (record_size * length rs) (file_of rs) room (λ l. Imports.imported entries rs g x l) (λ l. too_small entries rs g x l)

of-records : (text room : List ℕ) (rs : List Record) → Gives text (passed rs) → Imports text room (replied room (tabled rs) (placed room))
unfolding tabled and_then replied
of-records text room rs g = go (in_order read_record 0 [] rs) refl
  where
    go : (o : Tested (List Entry)) → in_order read_record 0 [] rs ≡ o → Imports text room (replied room (and_then o (λ entries. passed rs)) (placed room))
    go (passed entries) e = fits-or-not text room entries rs g (reads 0 [] entries rs e)
    go (refused n i) e =
        let x = in-order-refused read_record 0 [] rs n i e in
        let w = read-refused (0 + length x.before) x.given x.r n i x.refuses in
        subst (λ (j : ℕ). Imports text room (refuse n j room)) (sym (zero-add (length x.before)) ∙ w.1)
        (table_refused x.given x.before x.after (subst (λ (l : List Record). Gives text (passed l)) x.found g) (reads 0 [] x.given x.before x.passes) w.0)

imports : (text room : List ℕ) → Imports text room (imported text room)
unfolding imported and_then replied
imports text room = go (read_text text) refl
  where
    go : (a : Tested (List Record)) → read_text text ≡ a → Imports text room (replied room (and_then a tabled) (placed room))
    go (passed rs) e = of-records text room rs ((reads-exactly text (passed rs)).0 e)
    go (refused n i) e = text_refused ((reads-exactly text (refused n i)).0 e)

-- ---- there is no other

with-records : (text room : List ℕ) (rs : List Record) → Gives text (passed rs) → imported text room ≡ replied room (tabled rs) (placed room)
unfolding imported
with-records text room rs g = ap (λ (t : Tested (List Record)). replied room t (placed room)) (then-passed (read_text text) tabled rs ((reads-exactly text (passed rs)).1 g))

without-records : (text room : List ℕ) (n i : ℕ) → Gives text (refused n i) → imported text room ≡ refuse n i room
unfolding imported replied
without-records text room n i g = ap (λ (t : Tested (List Record)). replied room t (placed room)) (then-refused (read_text text) tabled n i ((reads-exactly text (refused n i)).1 g))

with-table : (room : List ℕ) (entries : List Entry) (rs : List Record) → Reads [] rs entries → replied room (tabled rs) (placed room) ≡ placed room rs
unfolding tabled replied
with-table room entries rs x = ap (λ (t : Tested (List Record)). replied room t (placed room)) (then-passed (in_order read_record 0 [] rs) (λ es. passed rs) entries (reads-back 0 [] entries rs x))

without-table : (room : List ℕ) (entries : List Entry) (before after : List Record) (r : Record) (n : ℕ) → Reads [] before entries → Refuses entries r n
    → replied room (tabled (before ++ r ∷ after)) (placed room) ≡ refuse n (length before) room
unfolding tabled replied
without-table room entries before after r n x w =
    ap (λ (t : Tested (List Record)). replied room t (placed room))
    (then-refused (in_order read_record 0 [] (before ++ r ∷ after)) (λ es. passed (before ++ r ∷ after)) n (length before)
    (in-order-at read_record 0 [] entries before r after n (length before) (reads-back 0 [] entries before x)
    (ap (λ (k : ℕ). read_record k entries r) (zero-add (length before)) ∙ read-refuses (length before) entries r n w)))

imports-back : (text room : List ℕ) (r : Reply) → Imports text room r → imported text room ≡ r
unfolding placed
imports-back text room r (text_refused {n} {i} g) = without-records text room n i g
imports-back text room r (table_refused {n} {r = q} entries before after g x w) = with-records text room (before ++ q ∷ after) g ∙ without-table room entries before after q n x w
imports-back text room r (too_small entries rs g x l) =
    with-records text room rs g ∙ with-table room entries rs x ∙ written-not (length rs) (record_size * length rs) (file_of rs) room l
imports-back text room r (Imports.imported entries rs g x l) =
    with-records text room rs g ∙ with-table room entries rs x ∙ written-fits (length rs) (record_size * length rs) (file_of rs) room l

pub imports-exactly : (text room : List ℕ) (r : Reply) → (imported text room ≡ r) ↔ Imports text room r
imports-exactly text room r = (λ e. subst (Imports text room) e (imports text room), imports-back text room r)

-- so the definitions allow one reply
pub one-reply : (text room : List ℕ) (q r : Reply) → Imports text room q → Imports text room r → q ≡ r
one-reply text room q r a b = sym (imports-back text room q a) ∙ imports-back text room r b
