use Rattle.std.proofs.Common.{rules, ◌≡◌, ◌∷◌, length, sym, ◌∙◌, IsTrue}
use Rattle.coniks_proof.specs.Hashing.{hashing}
use Rattle.coniks_proof.proofs.MeetingLemmas.{place_here, place_below, nodes_same, same_nodes}
use Rattle.coniks_proof.proofs.meeting.+meet.Goals as goal

pub returns-then-same_pairs : goal.returns-then-same_pairs
returns-then-same_pairs g t c =
    let some_a : c.args.a.siblings.now ≡ c.in-Some.first_a.now ∷ c.in-Some.rest_a.now = search rules in
    let some_b : c.args.b.siblings.now ≡ c.in-Some-split_first.first_b.now ∷ c.in-Some-split_first.rest_b.now = search rules in
    let size : length c.in-Some.first_a.now.0 ≡ length c.in-Some-split_first.first_b.now.0 = c.in_range.ensures.size ∙ sym c.in_range-2.ensures.size in
    let pairs = c.same_pairs.ensures.0 (search rules) in
    record {
      hash_a = search rules;
      hash_b = search rules;
      fits = search rules;
      place =
          place_below (hashing (g.H.Hash32.digest_of c.args.h.now) c.args.spot.now.nonce.0) c.args.spot.now.index.0 c.args.spot.now.level c.args.a.siblings.now c.in-Some.first_a.now c.in-Some.rest_a.now
          c.args.a.end.now c.args.b.siblings.now c.in-Some-split_first.first_b.now c.in-Some-split_first.rest_b.now c.args.b.end.now c.meet-below.result.place some_a some_b size
          (nodes_same (hashing (g.H.Hash32.digest_of c.args.h.now) c.args.spot.now.nonce.0) c.args.spot.now.index.0 c.args.spot.now.level c.args.a.siblings.now c.in-Some.first_a.now
          c.in-Some.rest_a.now c.args.a.end.now c.args.b.siblings.now c.in-Some-split_first.first_b.now c.in-Some-split_first.rest_b.now
          c.args.b.end.now c.meet-below.result.a c.meet-below.result.b some_a some_b c.meet-below.ensures.hash_a c.meet-below.ensures.hash_b pairs)
          c.meet-below.ensures.place;
    }

pub returns : goal.returns
returns g t c =
    let some_a : c.args.a.siblings.now ≡ c.in-Some.first_a.now ∷ c.in-Some.rest_a.now = search rules in
    let some_b : c.args.b.siblings.now ≡ c.in-Some-split_first.first_b.now ∷ c.in-Some-split_first.rest_b.now = search rules in
    let size : length c.in-Some.first_a.now.0 ≡ length c.in-Some-split_first.first_b.now.0 = c.in_range.ensures.size ∙ sym c.in_range-2.ensures.size in
    let no : IsTrue c.same_pairs.result → ⊥ = search rules in
    record {
      hash_a = search rules;
      hash_b = search rules;
      fits = search rules;
      place =
          place_here (hashing (g.H.Hash32.digest_of c.args.h.now) c.args.spot.now.nonce.0) c.args.spot.now.index.0 c.args.spot.now.level c.args.a.siblings.now c.args.a.end.now c.args.b.siblings.now c.args.b.end.now
          (λ same. no (c.same_pairs.ensures.1
          (same_nodes (hashing (g.H.Hash32.digest_of c.args.h.now) c.args.spot.now.nonce.0) c.args.spot.now.index.0 c.args.spot.now.level c.args.a.siblings.now c.in-Some.first_a.now
          c.in-Some.rest_a.now c.args.a.end.now c.args.b.siblings.now c.in-Some-split_first.first_b.now c.in-Some-split_first.rest_b.now
          c.args.b.end.now c.meet-below.result.a c.meet-below.result.b some_a some_b c.meet-below.ensures.hash_a c.meet-below.ensures.hash_b size same)));
    }
