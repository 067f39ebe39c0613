use Rattle.std.proofs.Common.{◌≡◌, ℕ, refl}
use Rattle.model.specs.declared.kind.Role.{Role}
use Rattle.model.specs.declared.kind.Role.TheVariants.{Unknown, InitialMemory, InitialRegister, StoreConstant, StoreRegister, Load, SetRegister, Fence, Exchange, ExchangeAdd}
use Rattle.model.specs.Code.{acts}
use Rattle.machine_rules.proofs.guards.issued_by.Goals as goal

pub returns-in-StoreConstant : goal.returns-in-StoreConstant
returns-in-StoreConstant c = rw (← c.from.ensures, c.in-StoreConstant.is)

pub returns-in-ExchangeAdd : goal.returns-in-ExchangeAdd
returns-in-ExchangeAdd c = rw (← c.from.ensures, c.in-ExchangeAdd.is)

-- every other role issues what the register holds
issues-register : (o : Role) (constant kept register : ℕ) → ¬ (o ≡ StoreConstant) → ¬ (o ≡ ExchangeAdd) → register ≡ (acts o).issues constant kept register
issues-register Unknown c k r s e = refl
issues-register InitialMemory c k r s e = refl
issues-register InitialRegister c k r s e = refl
issues-register StoreConstant c k r s e = absurd (s refl)
issues-register StoreRegister c k r s e = refl
issues-register Load c k r s e = refl
issues-register SetRegister c k r s e = refl
issues-register Fence c k r s e = refl
issues-register Exchange c k r s e = refl
issues-register ExchangeAdd c k r s e = absurd (e refl)

pub returns-in_default : goal.returns-in_default
returns-in_default c =
    rw (← c.from.ensures) (issues-register c.from.result c.args.constant c.args.kept c.args.register c.in_default.not-StoreConstant c.in_default.not-ExchangeAdd)
