use Rattle.coniks_programs.proofs.refusal.Refusal.object.Goals as goal

pub returns-in-AlreadyOpen : goal.returns-in-AlreadyOpen
returns-in-AlreadyOpen c = rw c.in-AlreadyOpen.is c.fault-in-AlreadyOpen.ensures

pub returns-in-UnknownEpoch : goal.returns-in-UnknownEpoch
returns-in-UnknownEpoch c = rw c.in-UnknownEpoch.is c.fault-in-UnknownEpoch.ensures

pub returns-in-NameLength : goal.returns-in-NameLength
returns-in-NameLength c = rw c.in-NameLength.is c.fault-in-NameLength.ensures
