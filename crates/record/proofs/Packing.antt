-- A record that is packed into a word is the record in it.
use mathlib.Core.Path.{◌≡◌, ◌∙◌}
use mathlib.Core.List.{[], ◌∷◌}
use Prim.Native.Nat.{ℕ, ◌+◌, ◌*◌, ◌/◌, ◌%◌, ◌<◌}
use native.Mathlib.Omega.{arith}
use lib.ListN.{get_or}
use Rattle.std.specs.Int.{w32, to_le_bytes}
use Rattle.model.specs.declared.record.Record.{Record}
use Rattle.model.specs.Sizes.{values}
use Rattle.record.specs.Words.{record_in}

pub in-word : (r : Record) (w fields : ℕ) → r.value < values → w ≡ r.value + fields * values
    → to_le_bytes w32 fields ≡ r.kind ∷ r.processor ∷ r.register ∷ r.location ∷ [] → record_in w ≡ r
unfolding record_in
in-word r w fields small is bytes =
    let above : w / values ≡ fields = omega arith in
    let below : w % values ≡ r.value = omega arith in
    (λ i. record { kind = above i % 256; processor = above i / 256 % 256; register = above i / 65536 % 256; location = above i / 16777216 % 256; value = below i })
    ∙ (λ i.
    record {
      kind = get_or (bytes i) 0 0;
      processor = get_or (bytes i) 1 0;
      register = get_or (bytes i) 2 0;
      location = get_or (bytes i) 3 0;
      value = r.value;
    })
