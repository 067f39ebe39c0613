-- A file that was read whole has at most so many bytes; and what is said of one that was not.
use Rattle.std.specs.Prelude.{codes, cond, List, ℕ, ◌≤◌, leb, Result, Ok, Err, IfOk}
use Rattle.program_files.specs.declared.read.Unread.{Unread}
use Rattle.program_files.specs.declared.read.Unread.TheVariants.{TooLong, Missing}

abbrev pub Within : Result ℕ Unread → ℕ → Type 0
Within file most = IfOk file (λ n. n ≤ most)

-- a file of n bytes, where at most so many may be
abbrev pub whole_or : ℕ → ℕ → Result ℕ Unread
whole_or most n = cond (leb n most) (Ok n) (Err TooLong)

abbrev pub said : Unread → List ℕ
said TooLong = codes "file too long"
said Missing = codes "no file"
