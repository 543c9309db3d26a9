use Rattle.coniks_chain.proofs.Lemmas.{collides}
use Rattle.coniks_client.specs.StoredEntry.{entries_in, entry_in}
use Rattle.coniks_evidence.proofs.FindingLemmas.{entry_there, link_at}
use Rattle.coniks_evidence.proofs.examining.links.Goals as goal

pub returns-clause-finds : goal.returns-clause-finds
returns-clause-finds c = λ hash forks. record {
  e = entry_in forks.mine;
  f = entry_in forks.other;
  fork = forks.fork;
  x = link_at c.args.xs.now c.args.places.now.first _ forks.mine c.link_of-x.result c.requires.first forks.left c.link_of-x.ensures.string;
  y = link_at c.args.ys.now c.args.places.now.second _ forks.other c.link_of-y.result c.requires.second forks.right c.link_of-y.ensures.string;
}

pub returns-clause-collides : goal.returns-clause-collides
returns-clause-collides c = λ hash forks.
    let x = link_at c.args.xs.now c.args.places.now.first _ forks.mine c.link_of-x.result c.requires.first forks.left c.link_of-x.ensures.string in
    let y = link_at c.args.ys.now c.args.places.now.second _ forks.other c.link_of-y.result c.requires.second forks.right c.link_of-y.ensures.string in
    let is_e = entry_there c.args.xs.now c.args.places.now.first _ forks.mine c.requires.first forks.left c.link_of-x.ensures.entry in
    let is_f = entry_there c.args.ys.now c.args.places.now.second _ forks.other c.requires.second forks.right c.link_of-y.ensures.entry in
    collides hash (entries_in c.args.xs.now) (entries_in c.args.ys.now) (entry_in forks.mine) (entry_in forks.other) c.link_of-x.result c.link_of-y.result is_e is_f forks.fork x y
