use Rattle.std.proofs.Common.{ap, flat_map}
use Rattle.sha2.specs.Sha256.{sha256}
use Rattle.coniks_proof.proofs.EightLemmas.{map_of_eight}
use Rattle.coniks_proof.proofs.hashing.eight_by_lanes.Goals as goal

pub returns : goal.returns
returns c = rw c.hash_eight.ensures
    (map_of_eight (λ pieces. sha256 (flat_map (λ piece. piece.now) pieces.now)) c.args.messages.now _ _ _ _ _ _ _ _ c.told-messages
    (ap sha256 c.in_ok-a.ensures) (ap sha256 c.in_ok-b.ensures) (ap sha256 c.in_ok-c.ensures) (ap sha256 c.in_ok-d.ensures) (ap sha256 c.in_ok-e.ensures) (ap sha256 c.in_ok-f.ensures) (ap sha256 c.in_ok-g.ensures) (ap sha256 c.in_ok-h.ensures))
