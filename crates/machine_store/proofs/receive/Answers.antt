use Rattle.std.proofs.Common.{◌≡◌, false, refl}
use Rattle.model.specs.Code.{acts}
use Rattle.model.specs.declared.kind.Role.{Role}
use Rattle.model.specs.declared.kind.Role.TheVariants.{Unknown, InitialMemory, InitialRegister, StoreConstant, StoreRegister, Load, SetRegister, Fence, Exchange, ExchangeAdd}
use Rattle.machine_store.proofs.receive.Goals as goal

pub returns-in-Load : goal.returns-in-Load
returns-in-Load c = rw (← c.from.ensures, c.in-Load.is)

-- no other role loads
loads-false : (o : Role) → ¬ (o ≡ Load) → (acts o).loads ≡ false
loads-false Unknown n = refl
loads-false InitialMemory n = refl
loads-false InitialRegister n = refl
loads-false StoreConstant n = refl
loads-false StoreRegister n = refl
loads-false Load n = absurd (n refl)
loads-false SetRegister n = refl
loads-false Fence n = refl
loads-false Exchange n = refl
loads-false ExchangeAdd n = refl

pub returns-in_default : goal.returns-in_default
returns-in_default c = rw (← c.from.ensures, loads-false c.from.result c.in_default.not-Load)
