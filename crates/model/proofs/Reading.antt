-- Reading a table: it gives entries exactly where the table is readable.
use mathlib.Core.Path.{◌≡◌, ap, ◌∙◌}
use mathlib.Core.Logic.{◌↔◌, ◌⊎◌, inl, inr}
use mathlib.Core.Option.{none, some}
use mathlib.Core.List.{List, [], ◌∷◌, ◌++◌}
use Prim.Native.Nat.{ℕ, suc}
use Rattle.model.specs.declared.record.Record.{Record}
use Rattle.model.specs.Record.{records}
use Rattle.model.specs.Kinds.{Entry, entry_of}
use Rattle.model.specs.Table.{Refuses, Reads, Readable}
use Rattle.model.specs.Tests.{first, passed, refused, in_order}
use Rattle.model.specs.Reading.{table_tests, read_record, reading}
use Rattle.model.proofs.Tests.{passed-inj, passed-refused, and-then-passed, unless-passed, unless-refused, unless-none, unless-some}
use Rattle.model.proofs.InOrder.{in-order-more, file-whole, file-passed}
use Rattle.model.proofs.Refusals.{refuses-exactly, passes-exactly}

-- ---- one record

read-passed : (i : ℕ) (before es : List Entry) (r : Record) → read_record i before r ≡ passed es → ((n : ℕ) → ¬ Refuses before r n) × (before ++ (entry_of r ∷ []) ≡ es)
unfolding read_record
read-passed i before es r h = let u = unless-passed (first (table_tests before r)) i _ es h in ((passes-exactly before r).0 u.0, passed-inj u.1)

read-on : (i : ℕ) (before : List Entry) (r : Record) → ((n : ℕ) → ¬ Refuses before r n) → read_record i before r ≡ passed (before ++ (entry_of r ∷ []))
unfolding read_record
read-on i before r c = unless-none (first (table_tests before r)) i _ ((passes-exactly before r).1 c)

pub read-refused : (i : ℕ) (before : List Entry) (r : Record) (n j : ℕ) → read_record i before r ≡ refused n j → Refuses before r n × (i ≡ j)
unfolding read_record
read-refused i before r n j h = go (unless-refused (first (table_tests before r)) i _ n j h)
  where
    go : ((first (table_tests before r) ≡ some n) × (i ≡ j)) ⊎ ((first (table_tests before r) ≡ none) × (passed (before ++ (entry_of r ∷ [])) ≡ refused n j)) → Refuses before r n × (i ≡ j)
    go (inl g) = ((refuses-exactly before r n).0 g.0, g.1)
    go (inr c) = passed-refused c.1

pub read-refuses : (i : ℕ) (before : List Entry) (r : Record) (n : ℕ) → Refuses before r n → read_record i before r ≡ refused n i
unfolding read_record
read-refuses i before r n g = unless-some (first (table_tests before r)) i _ n ((refuses-exactly before r n).1 g)

-- ---- all of them

pub reads : (i : ℕ) (before es : List Entry) (rs : List Record) → in_order read_record i before rs ≡ passed es → Reads before rs es
unfolding in_order
reads i before es [] h = passed-inj h
reads i before es (r ∷ rs) h =
    let a = and-then-passed (read_record i before r) (λ b. in_order read_record (suc i) b rs) es h in
    let p = read-passed i before a.0 r a.1 in
    (p.0, reads (suc i) _ es rs (ap (λ (l : List Entry). in_order read_record (suc i) l rs) p.1 ∙ a.2))

pub reads-back : (i : ℕ) (before es : List Entry) (rs : List Record) → Reads before rs es → in_order read_record i before rs ≡ passed es
unfolding in_order
reads-back i before es [] h = ap passed h
reads-back i before es (r ∷ rs) h = in-order-more read_record i before _ r rs (read-on i before r h.0) ∙ reads-back (suc i) _ es rs h.1

pub readable-exactly : (table : List ℕ) (entries : List Entry) → (reading table ≡ passed entries) ↔ Readable table entries
unfolding reading
readable-exactly table entries = (
  λ h. let f = file-passed 1 read_record [] entries table h in (f.0, reads 0 [] entries (records table) f.1),
  λ r. file-whole 1 read_record [] table r.0 ∙ reads-back 0 [] entries (records table) r.1,
)
