use native.Mathlib.Omega.{arith}
use Rattle.model.specs.declared.kind.Role.TheVariants.{InitialMemory, InitialRegister}
use Rattle.model.proofs.Roles.{entry-as, instruction-as}
use Rattle.table_record.proofs.Entered.{by-memory, by_register, by-instruction}
use Rattle.table_record.proofs.enter.enter_formed.Goals as goal

pub returns-in-InitialMemory : goal.returns-in-InitialMemory
returns-in-InitialMemory c =
    by-memory _ _ _ _ c.args.r _ _ _ (entry-as c.args.r c.requires.known _ c.from.ensures InitialMemory c.in-InitialMemory.is) c.give_cell.ensures

pub returns-in-InitialRegister : goal.returns-in-InitialRegister
returns-in-InitialRegister c =
    rw c.register_of-c.ensures
    (by_register _ _ _ _ c.args.r _ _ _ (entry-as c.args.r c.requires.known _ c.from.ensures InitialRegister c.in-InitialRegister.is)
    (rw c.register_of-c.ensures at c.give_cell-in-InitialRegister.ensures))

pub returns-in_default : goal.returns-in_default
returns-in_default c =
    let i = instruction-as c.args.r c.requires.known _ c.from.ensures c.in_default.not-InitialMemory c.in_default.not-InitialRegister in
    by-instruction _ _ _ _ c.args.r i.0 i.1 _ _ _ c.enter_instruction.ensures
