-- Records in numbers of 64 bits, one in each: the value, and above it the bytes of the other fields.
use Rattle.std.specs.Prelude.{List, map, ℕ, ◌/◌, ◌%◌}
use Rattle.model.specs.declared.record.Record.{Record}
use Rattle.model.specs.Sizes.{values}

unfoldable pub record_in : ℕ → Record
record_in w =
    let fields = w / values in
    record {
      kind = fields % 256;
      processor = fields / 256 % 256;
      register = fields / 65536 % 256;
      location = fields / 16777216 % 256;
      value = w % values;
    }

abbrev pub records_in : List ℕ → List Record
records_in words = map record_in words
