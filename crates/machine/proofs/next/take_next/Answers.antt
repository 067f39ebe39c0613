use Rattle.std.proofs.Common.{rules}
use mathlib.Core.Path.{◌≡◌, refl, sym, ap, ◌∙◌}
use Rattle.model.specs.Kinds.{step_uses}
use Rattle.model.specs.Fields.{among}
use Rattle.model.proofs.Events.{bare}
use Rattle.machine_rules.specs.Steps.{code_of}
use Rattle.machine.proofs.Nexts.{read_next, write-next, fence-next, lock-next, unlock-next, local-next}
use Rattle.machine.proofs.next.take_next.Goals as goal

pub returns-in-Read : goal.returns-in-Read
returns-in-Read c = read_next _ _ _ _ _ c.requires.proper c.requires.whose (sym c.requires.kind ∙ ap code_of c.in-Read.is) c.read.ensures

pub returns-in-Write : goal.returns-in-Write
returns-in-Write c = write-next _ _ _ _ _ c.requires.proper c.requires.whose (sym c.requires.kind ∙ ap code_of c.in-Write.is) c.write.ensures

pub returns-in-Fence : goal.returns-in-Fence
unfolding among step_uses
returns-in-Fence c =
    let z = sym c.requires.kind ∙ ap code_of c.in-Fence.is in
    fence-next _ _ _ _ _ c.requires.proper c.requires.whose z (bare c.args.e c.requires.proper 4 z refl refl) c.fence.ensures refl

pub returns-in-Lock : goal.returns-in-Lock
unfolding among step_uses
returns-in-Lock c =
    let z : c.args.e.kind ≡ 5 = sym c.requires.kind ∙ ap code_of c.in-Lock.is in
    let b = bare c.args.e c.requires.proper 5 z refl refl in
    search (rules, lock-next)

pub returns-in-Unlock : goal.returns-in-Unlock
unfolding among step_uses
returns-in-Unlock c =
    let z : c.args.e.kind ≡ 6 = sym c.requires.kind ∙ ap code_of c.in-Unlock.is in
    let b = bare c.args.e c.requires.proper 6 z refl refl in
    search (rules, unlock-next)

pub returns-in-Local : goal.returns-in-Local
unfolding among step_uses
returns-in-Local c =
    let z = sym c.requires.kind ∙ ap code_of c.in-Local.is in
    local-next _ _ _ _ _ c.requires.proper c.requires.whose z (bare c.args.e c.requires.proper 7 z refl refl) c.assign.ensures
