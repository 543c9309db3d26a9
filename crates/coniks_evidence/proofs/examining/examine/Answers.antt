use Rattle.coniks_evidence.specs.declared.findings.Finding.TheVariants.{Links}
use Rattle.coniks_evidence.proofs.FindingLemmas.{calm, found}
use Rattle.coniks_evidence.proofs.MeetingLemmas.{met}
use Rattle.coniks_evidence.proofs.examining.examine.Goals as goal

pub returns-in_default-clause-convicts : goal.returns-in_default-clause-convicts
returns-in_default-clause-convicts g c = λ answer hers his other.
    let top = hers.headed in
    c.in_default.ensures.none top.0 top.1.0 top.1.1 top.1.2

pub returns-in_default-place_of-clause-convicts : goal.returns-in_default-place_of-clause-convicts
returns-in_default-place_of-clause-convicts g c = λ answer hers his other.
    let top = his.headed in
    c.in_default-place_of.ensures.none top.0 top.1.0 top.1.1 top.1.2

pub returns-in-Some-fork-clause-finds : goal.returns-in-Some-fork-clause-finds
returns-in-Some-fork-clause-finds g c = (
  c.up_to-xs.result.now,
  c.up_to-ys.result.now,
  (c.in-Some.first, c.in-Some.ensures.some, c.up_to-xs.ensures),
  (c.in-Some-place_of.second, c.in-Some-place_of.ensures.some, c.up_to-ys.ensures),
  c.links.ensures.finds (g.H.Hash32.digest_of c.args.by.now.hash.now) c.in-Some-fork.ensures.some,
)

pub returns-in-Some-fork-clause-true_of : goal.returns-in-Some-fork-clause-true_of
returns-in-Some-fork-clause-true_of g c = c.links.ensures.collides (g.H.Hash32.digest_of c.args.by.now.hash.now) c.in-Some-fork.ensures.some

pub returns-in-Some-fork-clause-convicts : goal.returns-in-Some-fork-clause-convicts
returns-in-Some-fork-clause-convicts g c = λ answer hers his other. c.links.ensures.collides (g.H.Hash32.digest_of c.args.by.now.hash.now) c.in-Some-fork.ensures.some

pub returns-in-Some-fork-clause-calm : goal.returns-in-Some-fork-clause-calm
returns-in-Some-fork-clause-calm g c = λ honest. calm (g.H.Hash32.digest_of c.args.by.now.hash.now) (g.S.IndexScheme.index_of c.args.by.now.indices.now) c.args.head.now c.args.epoch
    c.args.owner.now c.args.contact.now (Links c.links.result) (
      c.up_to-xs.result.now,
      c.up_to-ys.result.now,
      (c.in-Some.first, c.in-Some.ensures.some, c.up_to-xs.ensures),
      (c.in-Some-place_of.second, c.in-Some-place_of.ensures.some, c.up_to-ys.ensures),
      c.links.ensures.finds (g.H.Hash32.digest_of c.args.by.now.hash.now) c.in-Some-fork.ensures.some,
    )
    (c.links.ensures.collides (g.H.Hash32.digest_of c.args.by.now.hash.now) c.in-Some-fork.ensures.some) honest

pub returns-in-None-clause-finds : goal.returns-in-None-clause-finds
returns-in-None-clause-finds g c =
    found (g.H.Hash32.digest_of c.args.by.now.hash.now) (g.S.IndexScheme.index_of c.args.by.now.indices.now) c.args.head.now c.args.epoch
    c.args.owner.now c.args.contact.now c.up_to-xs.result.now c.up_to-ys.result.now c.compare_replies.result
    (c.in-Some.first, c.in-Some.ensures.some, c.up_to-xs.ensures) (c.in-Some-place_of.second, c.in-Some-place_of.ensures.some, c.up_to-ys.ensures)
    c.in-None.ensures.none c.compare_replies.ensures.finds

pub returns-in-None-clause-convicts : goal.returns-in-None-clause-convicts
returns-in-None-clause-convicts g c = λ answer hers his other.
    let both = met (g.H.Hash32.digest_of c.args.by.now.hash.now) (g.S.IndexScheme.index_of c.args.by.now.indices.now) c.args.head.now c.args.epoch
    c.args.owner.now c.args.contact.now answer c.in-Some.first c.in-Some-place_of.second c.up_to-xs.result.now c.up_to-ys.result.now hers his
    c.in-Some.ensures.some c.in-Some-place_of.ensures.some c.up_to-xs.ensures c.up_to-ys.ensures c.in-None.ensures.none in
    c.compare_replies.ensures.convicts answer both.one both.hers both.his other

pub returns-in-None-clause-calm : goal.returns-in-None-clause-calm
returns-in-None-clause-calm g c = λ honest. calm (g.H.Hash32.digest_of c.args.by.now.hash.now) (g.S.IndexScheme.index_of c.args.by.now.indices.now) c.args.head.now c.args.epoch
    c.args.owner.now c.args.contact.now c.compare_replies.result
    (found (g.H.Hash32.digest_of c.args.by.now.hash.now) (g.S.IndexScheme.index_of c.args.by.now.indices.now) c.args.head.now c.args.epoch
    c.args.owner.now c.args.contact.now c.up_to-xs.result.now c.up_to-ys.result.now c.compare_replies.result
    (c.in-Some.first, c.in-Some.ensures.some, c.up_to-xs.ensures) (c.in-Some-place_of.second, c.in-Some-place_of.ensures.some, c.up_to-ys.ensures)
    c.in-None.ensures.none c.compare_replies.ensures.finds)
    c.compare_replies.ensures.true_of honest
