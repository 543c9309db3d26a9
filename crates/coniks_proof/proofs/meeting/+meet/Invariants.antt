use Rattle.std.proofs.Common.{length}
use Rattle.coniks_proof.proofs.meeting.+meet.Given as goal

abbrev pub decreases-meet : goal.decreases-meet
decreases-meet g l = length l.a.siblings.now
