use Rattle.std.proofs.Common.{rules, sym}
use Rattle.text_fault.proofs.Placing.{up_to_end_is}
use Rattle.text_fault.proofs.line.up_to_end.Goals as goal

pub returns-clause-value : goal.returns-clause-value
returns-clause-value c = sym (up_to_end_is c.args.rest.now c.unwrap_or.result (search rules) (search rules) (search rules))
