-- The calls of cases, by number.
use Rattle.std.specs.Prelude.{codes, List, ℕ, zero, suc, Result, Ok, Err}
use Rattle.case.specs.declared.call.Call.{Call}
use Rattle.case.specs.declared.call.Call.TheVariants.{Check, Finish, Litmus}
use Rattle.case.specs.declared.call.NoCase.{NoCase}

abbrev pub number_of : Call → ℕ
number_of Check = 0
number_of Finish = 1
number_of Litmus = 2

abbrev pub no_case : NoCase
no_case = record {}

-- the call with this number
abbrev pub call_in : ℕ → Result Call NoCase
call_in zero = Ok Check
call_in (suc zero) = Ok Finish
call_in (suc (suc zero)) = Ok Litmus
call_in (suc (suc (suc n))) = Err no_case

-- what is said of no case
abbrev pub said_of_none : List ℕ
said_of_none = codes "a call is 0, 1 or 2, and a table, a trace or a room has at most 1048576 bytes"
