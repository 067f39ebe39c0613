-- What is said where the answers end before the input does.
use Rattle.std.specs.Prelude.{codes, List, ℕ}
use Rattle.case.specs.Calls.{said_of_none}
use Rattle.program_cases.specs.declared.input.Broken.{Broken}
use Rattle.program_cases.specs.declared.input.Broken.TheVariants.{Cut, NoCase}

abbrev pub said : Broken → List ℕ
said Cut = codes "the input ends inside a case"
said (NoCase none) = said_of_none
