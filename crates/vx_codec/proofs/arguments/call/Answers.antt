use Rattle.std.proofs.Common.{refl}
use Rattle.vx_codec.proofs.arguments.call.Goals as goal

pub returns-in-Null : goal.returns-in-Null
returns-in-Null c = rw c.in-Null.is refl

pub returns-in-CreateLink : goal.returns-in-CreateLink
returns-in-CreateLink c = rw c.in-CreateLink.is c.create_link.ensures

pub returns-in-Write : goal.returns-in-Write
returns-in-Write c = rw c.in-Write.is c.write.ensures

pub returns-in-Read : goal.returns-in-Read
returns-in-Read c = rw c.in-Read.is c.read.ensures

pub returns-in-ReadStb : goal.returns-in-ReadStb
returns-in-ReadStb c = rw c.in-ReadStb.is c.read_stb.ensures

pub returns-in-Trigger : goal.returns-in-Trigger
returns-in-Trigger c = rw c.in-Trigger.is c.trigger.ensures

pub returns-in-Clear : goal.returns-in-Clear
returns-in-Clear c = rw c.in-Clear.is c.clear.ensures

pub returns-in-Remote : goal.returns-in-Remote
returns-in-Remote c = rw c.in-Remote.is c.remote.ensures

pub returns-in-Local : goal.returns-in-Local
returns-in-Local c = rw c.in-Local.is c.local.ensures

pub returns-in-Lock : goal.returns-in-Lock
returns-in-Lock c = rw c.in-Lock.is c.lock.ensures

pub returns-in-Unlock : goal.returns-in-Unlock
returns-in-Unlock c = rw c.in-Unlock.is c.unlock.ensures

pub returns-in-EnableSrq : goal.returns-in-EnableSrq
returns-in-EnableSrq c = rw c.in-EnableSrq.is c.enable_srq.ensures

pub returns-in-Docmd : goal.returns-in-Docmd
returns-in-Docmd c = rw c.in-Docmd.is c.docmd.ensures

pub returns-in-DestroyLink : goal.returns-in-DestroyLink
returns-in-DestroyLink c = rw c.in-DestroyLink.is c.destroy_link.ensures

pub returns-in-CreateIntr : goal.returns-in-CreateIntr
returns-in-CreateIntr c = rw c.in-CreateIntr.is c.create_intr.ensures

pub returns-in-DestroyIntr : goal.returns-in-DestroyIntr
returns-in-DestroyIntr c = rw c.in-DestroyIntr.is refl

pub returns-in-DeviceAbort : goal.returns-in-DeviceAbort
returns-in-DeviceAbort c = rw c.in-DeviceAbort.is c.device_abort.ensures
