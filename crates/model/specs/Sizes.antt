-- Document 01, "Sizes". src/ has these numbers as associated constants, each beside the type it limits, and `limits` in src/table.rt proves them equal.
use Rattle.std.specs.Prelude.{ℕ, ◌+◌, ◌*◌}

abbrev pub processors : ℕ
processors = 4

abbrev pub registers_each : ℕ
registers_each = 4

abbrev pub locations : ℕ
locations = 8

abbrev pub instructions_each : ℕ
instructions_each = 16

-- the registers and memory at the end of a run
abbrev pub outcome_cells : ℕ
outcome_cells = processors * registers_each + locations

-- these, and how many reads own buffers served (document 02, order 3)
abbrev pub result_words : ℕ
result_words = outcome_cells + 1

-- the bytes of a record, and of a value
abbrev pub record_size : ℕ
record_size = 8

abbrev pub word_size : ℕ
word_size = 4

-- no instruction has more program steps
abbrev pub phases : ℕ
phases = 4

-- no instruction takes more steps: those of the program, and a drain
abbrev pub steps_each : ℕ
steps_each = phases + 1

-- the steps of the longest finished trace
abbrev pub longest_trace : ℕ
longest_trace = processors * instructions_each * steps_each

-- a value is below this, and a sum is taken modulo this
abbrev pub values : ℕ
values = 4294967296
