-- The verdict on records in words, from the loop that enters them.
use mathlib.Core.Path.{◌≡◌, sym, ◌∙◌}
use mathlib.Core.List.{List}
use Prim.Native.Nat.{ℕ}
use lib.ListN.{length, get_or, length-map, get_or-map}
use Rattle.model.specs.declared.record.Record.{Record}
use Rattle.model.specs.Kinds.{Entry}
use Rattle.model.specs.Tests.{passed, refused}
use Rattle.model.proofs.Tests.{then-passed, then-refused}
use Rattle.record.specs.Words.{record_in, records_in}
use Rattle.table.proofs.Turns.{all}
use Rattle.litmus.specs.Tabled.{judged}

pub many : (words : List ℕ) → length (records_in words) ≡ length words
many words = length-map words record_in

pub record-in : (words : List ℕ) (i : ℕ) (r : Record) → r ≡ record_in (get_or words i 0) → r ≡ get_or (records_in words) i (record_in 0)
record-in words i r e = e ∙ sym (get_or-map record_in words i 0)

pub judges-refused : (rs : List Record) (n i : ℕ) → all rs ≡ refused n i → refused n i ≡ judged rs
judges-refused rs n i h = sym (then-refused (all rs) (λ es. passed tt) n i h)

pub judges-passed : (rs : List Record) (es : List Entry) → all rs ≡ passed es → passed tt ≡ judged rs
judges-passed rs es h = sym (then-passed (all rs) (λ fs. passed tt) es h)
