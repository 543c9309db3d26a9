use Rattle.std.proofs.Common.{rules, ◌≡◌, ◌<◌, ◌≤◌, arith, length, drop, length-drop}
use Rattle.coniks_proof.specs.Hashing.{hashing}
use Rattle.coniks_proof.specs.ProofRefs.{listed, owned}
use Rattle.coniks_evidence.proofs.PartingLemmas.{ended, other_ended, parts_at_ends, parts_left_longer, parts_opened, parts_right_longer}
use Rattle.coniks_evidence.proofs.parting.parted_at_end.Goals as goal

pub returns-then-spot-len : goal.returns-then-spot-len
returns-then-spot-len g c =
    let ss = listed c.args.a.now.siblings in
    let ts = listed c.args.b.now.siblings in
    let more : c.args.spot.now.level < length ss = search rules in
    let done : length ts ≡ c.args.spot.now.level = other_ended (length ss) (length ts) c.args.spot.now.level c.requires.ends more in
    parts_left_longer (hashing (g.H.Hash32.digest_of c.args.h.now) c.args.spot.now.nonce.0) c.args.spot.now.index.0 c.args.spot.now.level (drop c.args.spot.now.level ss) (owned c.args.a.now.end)
    (drop c.args.spot.now.level ts) (owned c.args.b.now.end) c.level_preimage.result c.level_preimage-2.result (ended ts c.args.spot.now.level done) (omega (arith, length-drop c.args.spot.now.level ss))
    c.level_preimage.ensures c.level_preimage-2.ensures

pub returns-then-spot-len-2 : goal.returns-then-spot-len-2
returns-then-spot-len-2 g c =
    let ss = listed c.args.a.now.siblings in
    let ts = listed c.args.b.now.siblings in
    let none : length ss ≤ c.args.spot.now.level = search rules in
    let done : length ss ≡ c.args.spot.now.level = omega (arith, c.requires.within_a) in
    let more : c.args.spot.now.level < length ts = search rules in
    parts_right_longer (hashing (g.H.Hash32.digest_of c.args.h.now) c.args.spot.now.nonce.0) c.args.spot.now.index.0 c.args.spot.now.level (drop c.args.spot.now.level ss) (owned c.args.a.now.end)
    (drop c.args.spot.now.level ts) (owned c.args.b.now.end) c.level_preimage.result c.level_preimage-2.result (ended ss c.args.spot.now.level done) (omega (arith, length-drop c.args.spot.now.level ts))
    c.level_preimage.ensures c.level_preimage-2.ensures

pub returns-in-Some : goal.returns-in-Some
returns-in-Some g c =
    let ss = listed c.args.a.now.siblings in
    let ts = listed c.args.b.now.siblings in
    let none : length ss ≤ c.args.spot.now.level = search rules in
    let none' : length ts ≤ c.args.spot.now.level = search rules in
    let done : length ss ≡ c.args.spot.now.level = omega (arith, c.requires.within_a) in
    let done' : length ts ≡ c.args.spot.now.level = omega (arith, c.requires.within_b) in
    let opens = c.in-Some.ensures.some in
    parts_opened (hashing (g.H.Hash32.digest_of c.args.h.now) c.args.spot.now.nonce.0) c.args.spot.now.index.0 c.args.spot.now.level (drop c.args.spot.now.level ss) (owned c.args.a.now.end)
    (drop c.args.spot.now.level ts) (owned c.args.b.now.end) c.in-Some.commitments.x c.in-Some.commitments.y (ended ss c.args.spot.now.level done) (ended ts c.args.spot.now.level done')
    c.sized.ensures c.sized-2.ensures c.requires.paths.fits_a c.requires.paths.fits_b c.requires.paths.answers opens.one opens.x opens.y

pub returns-in-None : goal.returns-in-None
returns-in-None g c =
    let ss = listed c.args.a.now.siblings in
    let ts = listed c.args.b.now.siblings in
    let none : length ss ≤ c.args.spot.now.level = search rules in
    let none' : length ts ≤ c.args.spot.now.level = search rules in
    let done : length ss ≡ c.args.spot.now.level = omega (arith, c.requires.within_a) in
    let done' : length ts ≡ c.args.spot.now.level = omega (arith, c.requires.within_b) in
    parts_at_ends (hashing (g.H.Hash32.digest_of c.args.h.now) c.args.spot.now.nonce.0) c.args.spot.now.index.0 c.args.spot.now.level (drop c.args.spot.now.level ss) (owned c.args.a.now.end)
    (drop c.args.spot.now.level ts) (owned c.args.b.now.end) c.level_preimage.result c.level_preimage-2.result (ended ss c.args.spot.now.level done) (ended ts c.args.spot.now.level done')
    c.full.ensures c.sized.ensures c.sized-2.ensures c.requires.paths.off_a c.requires.paths.off_b c.requires.paths.answers c.in-None.ensures.none
    c.level_preimage.ensures c.level_preimage-2.ensures
