use Rattle.std.proofs.Common.{rules, ◌≡◌, ◌≢◌, ◌<◌, length, sym, ◌∙◌}
use Rattle.coniks_proof.specs.Hashing.{hashing}
use Rattle.coniks_proof.specs.Proofs.{end_preimage}
use Rattle.coniks_proof.proofs.MeetingLemmas.{place_here, apart_at_end, both_end, in_commitments, other_ended}
use Rattle.coniks_proof.proofs.meeting.end_place.Goals as goal

pub returns-then-not-is_empty-clause-place : goal.returns-then-not-is_empty-clause-place
returns-then-not-is_empty-clause-place g c =
    let some : 0 < length c.args.a.siblings.now = search rules in
    let none = other_ended (length c.args.a.siblings.now) (length c.args.b.siblings.now) c.requires.ends some in
    place_here (hashing (g.H.Hash32.digest_of c.args.h.now) c.args.spot.now.nonce.0) c.args.spot.now.index.0 c.args.spot.now.level c.args.a.siblings.now c.args.a.end.now c.args.b.siblings.now c.args.b.end.now
    (λ same. apart_at_end (hashing (g.H.Hash32.digest_of c.args.h.now) c.args.spot.now.nonce.0) c.args.spot.now.index.0 c.args.spot.now.level
    c.args.b.siblings.now c.args.b.end.now c.args.a.siblings.now c.args.a.end.now none some (sym same))

pub returns-then-not-is_empty-2-clause-place : goal.returns-then-not-is_empty-2-clause-place
returns-then-not-is_empty-2-clause-place g c =
    let none : length c.args.a.siblings.now ≡ 0 = search rules in
    let some : 0 < length c.args.b.siblings.now = search rules in
    place_here (hashing (g.H.Hash32.digest_of c.args.h.now) c.args.spot.now.nonce.0) c.args.spot.now.index.0 c.args.spot.now.level c.args.a.siblings.now c.args.a.end.now c.args.b.siblings.now c.args.b.end.now
    (apart_at_end (hashing (g.H.Hash32.digest_of c.args.h.now) c.args.spot.now.nonce.0) c.args.spot.now.index.0 c.args.spot.now.level c.args.a.siblings.now c.args.a.end.now c.args.b.siblings.now c.args.b.end.now none
    some)

pub returns-then-same_ends-clause-place : goal.returns-then-same_ends-clause-place
returns-then-same_ends-clause-place g c =
    let none : length c.args.a.siblings.now ≡ 0 = search rules in
    let none' : length c.args.b.siblings.now ≡ 0 = search rules in
    in_commitments (hashing (g.H.Hash32.digest_of c.args.h.now) c.args.spot.now.nonce.0) c.args.spot.now.index.0 c.args.spot.now.level c.args.a.siblings.now
    c.args.a.end.now c.args.b.siblings.now c.args.b.end.now none none' c.in_range.ensures.size c.sized.ensures c.sized-2.ensures
    c.requires.ways.fits_a c.requires.ways.fits_b c.requires.ways.off_a c.requires.ways.off_b c.requires.ways.answers (c.same_ends.ensures.0 (search rules))

pub returns-clause-place : goal.returns-clause-place
returns-clause-place g c =
    let none : length c.args.a.siblings.now ≡ 0 = search rules in
    let none' : length c.args.b.siblings.now ≡ 0 = search rules in
    let both = both_end (hashing (g.H.Hash32.digest_of c.args.h.now) c.args.spot.now.nonce.0) c.args.spot.now.index.0
    c.args.spot.now.level c.args.a.siblings.now c.args.a.end.now c.args.b.siblings.now c.args.b.end.now none none' in
    let differ : end_preimage (hashing (g.H.Hash32.digest_of c.args.h.now) c.args.spot.now.nonce.0) c.args.spot.now.index.0 c.args.spot.now.level c.args.a.end.now ≢
    end_preimage (hashing (g.H.Hash32.digest_of c.args.h.now) c.args.spot.now.nonce.0) c.args.spot.now.index.0 c.args.spot.now.level c.args.b.end.now = search rules in
    place_here (hashing (g.H.Hash32.digest_of c.args.h.now) c.args.spot.now.nonce.0) c.args.spot.now.index.0 c.args.spot.now.level c.args.a.siblings.now
    c.args.a.end.now c.args.b.siblings.now c.args.b.end.now (λ same. differ (sym both.0 ∙ same ∙ both.1))
