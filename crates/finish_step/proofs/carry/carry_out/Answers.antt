use Rattle.finish_step.proofs.Carried.{read-carried, write-carried, fence-carried, lock-carried, unlock-carried, local-carried}
use Rattle.finish_step.proofs.carry.carry_out.Goals as goal

pub returns-in-Read : goal.returns-in-Read
returns-in-Read c = rw (c.receive.ensures, c.register.ensures, c.event-e.ensures, c.in-Read.is) (read-carried _ _ c.requires.dry)

pub returns-in-Write : goal.returns-in-Write
returns-in-Write c =
    rw (c.issue.ensures, c.exchange.ensures, c.register-c.ensures, c.event-e-in-Write.ensures, c.in-Write.is)
    (write-carried _ _ _ (rw (← c.register-c.ensures) c.issued_by-v.ensures))

pub returns-in-Fence : goal.returns-in-Fence
returns-in-Fence c = rw (c.event.ensures, c.in-Fence.is) (fence-carried _ _)

pub returns-in-Lock : goal.returns-in-Lock
returns-in-Lock c = rw (c.event-in-Lock.ensures, c.in-Lock.is) (lock-carried _ _)

pub returns-in-Unlock : goal.returns-in-Unlock
returns-in-Unlock c = rw (c.event-in-Unlock.ensures, c.in-Unlock.is) (unlock-carried _ _)

pub returns-in-Local : goal.returns-in-Local
returns-in-Local c = rw (c.assign.ensures, c.event-in-Local.ensures, c.in-Local.is) (local-carried _ _)
