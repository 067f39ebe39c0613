-- The instruction that a processor stands at.
use Rattle.std.specs.Prelude.{◌≡◌, ℕ, ◌<◌, cond, nat_lt}
use Rattle.model.specs.declared.record.Record.{Record}
use Rattle.model.specs.Sizes.{registers_each, locations}
use Rattle.model.specs.Kinds.{table_rows}
use Rattle.model.specs.Code.{Columns, instruction_at, count_in}
use Rattle.model.specs.Rules.{event}

-- instruction a of processor p; past the last one its kind is 0
unfoldable pub fetched : Columns → ℕ → ℕ → Record
unfolding instruction_at
fetched g p a = cond (nat_lt a (count_in g p)) (instruction_at g p a) (event 0 p 0 0)

-- i is that instruction, and in range
pub record Fetched (g : Columns) (p a : ℕ) (i : Record) : Type 0 where
  pub here : i ≡ fetched g p a
  pub processor : i.processor ≡ p
  pub kind : i.kind < table_rows
  pub register : i.register < registers_each
  pub location : i.location < locations
