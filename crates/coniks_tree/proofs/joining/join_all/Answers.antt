use Rattle.std.proofs.Common.{length, sym, subst, map, ap, ◌∙◌, arith}
use Rattle.std.proofs.lemmas.List.{length-map}
use Rattle.coniks_proof.specs.Hashing.{hashing}
use Rattle.coniks_proof.specs.Messages.{preimage_of}
use Rattle.coniks_tree.specs.Joins.{AllJoined, PairsFit, requested_of, inner_of}
use Rattle.coniks_tree.specs.Trees.{table_of}
use Rattle.coniks_tree.proofs.JoinLemmas.{hashed_all, hashed_as}
use Rattle.coniks_tree.proofs.joining.join_all.Goals as goal

pub requested-requires : goal.requested-requires
requested-requires g c = (length c.args.base.now.tree.now.nodes, subst (PairsFit (length c.args.base.now.tree.now.nodes)) (sym c.deref.ensures.value) c.requires)

pub joined_all-requires : goal.joined_all-requires
joined_all-requires g c =
    let nonce = c.args.base.now.nonce.now.0 in
    let halved = c.in_ok-halved.halved.items in
    let hashed = hashed_as (g.H.Hash32.digest_of c.args.base.now.h.now) (preimage_of nonce) inner_of c.deref-3.result.now halved c.in_ok-hashes-2.hashes.items c.in_ok-hashes-2.ensures
    (ap (map (preimage_of nonce)) c.deref-3.ensures.value ∙ c.in_ok-halved.ensures.inner nonce) in
    omega (arith, ap length hashed, length-map c.in_ok-hashes-2.hashes.items (λ d. d.0), length-map halved (λ h. g.H.Hash32.digest_of c.args.base.now.h.now (inner_of h)))

pub returns : goal.returns
returns g c =
    let by = hashing (g.H.Hash32.digest_of c.args.base.now.h.now) c.args.base.now.nonce.now.0 in
    let t = table_of c.args.base.now.tree.now in
    let pairs = c.args.pairs.items in
    let same = c.in_ok-halved.ensures.same in
    -- the hashes of the sides, and those of the nodes above them
    let sides = hashed_all by.hash (preimage_of by.nonce) c.deref-2.result.now (requested_of by.nonce pairs) c.in_ok-hashes.hashes.items c.in_ok-hashes.ensures
    (ap (map (preimage_of by.nonce)) c.deref-2.ensures.value ∙ c.in_ok-messages.ensures by.nonce ∙ ap (requested_of by.nonce) c.deref.ensures.value) in
    let inner = hashed_as by.hash (preimage_of by.nonce) inner_of c.deref-3.result.now c.in_ok-halved.halved.items c.in_ok-hashes-2.hashes.items c.in_ok-hashes-2.ensures
    (ap (map (preimage_of by.nonce)) c.deref-3.ensures.value ∙ c.in_ok-halved.ensures.inner by.nonce) in
    subst (λ ps. AllJoined by t ps c.in_ok-joined_all.field-0.items) same
    (c.in_ok-joined_all.ensures by t (subst (PairsFit (length t.nodes)) (sym same) c.requires) (c.in_ok-halved.ensures.halved by sides) inner)
