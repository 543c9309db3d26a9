use Rattle.std.proofs.Common.{◌≡◌, ◌+◌, ◌++◌, ◌∷◌, ◌∙◌, [], ap, length, refl, subst, sym}
use Rattle.coniks_threads.specs.Boards.{BoardEnd}
use Rattle.coniks_directory.proofs.Words.{Fits, IsNext, IsUpdate, Leaves, State, before_at, body_of, shown_after, state_of}
use Rattle.coniks_directory.specs.Updates.{nodes_added}
use Rattle.coniks_directory.proofs.FreshLemmas.{fresh}
use Rattle.coniks_directory.proofs.InstallLemmas.{retained_still, published_next}
use Rattle.coniks_directory.proofs.directory.Directory.install.Goals.{In_default}
use Rattle.coniks_directory.proofs.directory.Directory.install.Given as given
use Rattle.coniks_directory.proofs.directory.Directory.install.Goals as goal

-- the update is one of the current directory
fresh_in : (g : given.Over) (c : In_default g) → IsUpdate (g.H.Hash32.digest_of c.self.inside.h) (g.X.IndexSource.index_of c.self.inside.source) (state_of c.self.inside.stored) c.args.update
fresh_in g c =
    let d = c.self.inside in
    fresh (g.H.Hash32.digest_of d.h) (g.X.IndexSource.index_of d.source) (state_of d.stored) c.args.update (rw (← c.self.view_is) at c.requires.update) c.in_default.ensures.ok.next.fresh

pub signed-requires-clause-fits : goal.signed-requires-clause-fits
signed-requires-clause-fits g c = (fresh_in g (goal.at.signed-requires-clause-fits g c).In_default).fits

-- nothing has changed but the signer, whose verdicts are those that it had
pub returns-in-Err-signed-clause-retained : goal.returns-in-Err-signed-clause-retained
returns-in-Err-signed-clause-retained g c =
    rw (← c.self.view_is)
    (retained_still g.H.Hash32.digest_of g.S.Verify.verdict_of _ _ c.args.signer.now c.signed.new.signer c.args.publisher.now
    c.signed.ensures.same refl c.signed.ensures.verdicts_retained (rw (← c.self.view_is) at c.requires.ready.published))

pub returns-in-Err-signed-clause-outcome : goal.returns-in-Err-signed-clause-outcome
returns-in-Err-signed-clause-outcome g c = (
  rw (← c.self.view_is)
      (c.in-Err-signed.ensures.refused (state_of c.self.inside.stored) c.args.update.base (length c.args.publisher.now.heads) c.args.board.now.capacity c.in_default.ensures.ok),
  refl,
)

-- the signer was called for the body of the next entry, or not at all
pub returns-in-Err-signed-clause-unrequested : goal.returns-in-Err-signed-clause-unrequested
returns-in-Err-signed-clause-unrequested g c =
    let d = c.self.inside in
    let hash = g.H.Hash32.digest_of d.h in
    let index_of = g.X.IndexSource.index_of d.source in
    let s = state_of d.stored in
    let u = fresh_in g (goal.at.returns-in-Err-signed-clause-unrequested g c).In_default in
    rw (← c.self.view_is) (c.in-Err-signed.ensures.unrequested (body_of hash index_of s.policy (before_at hash s.before s.chain (length s.chain)) (shown_after s c.args.update c.args.t))
    (λ body signed. signed index_of c.self.invariant.whole u))

pub enter-requires-clause-fits : goal.enter-requires-clause-fits
enter-requires-clause-fits g c =
    subst (λ (s : State). Fits (length s.nodes) 0 c.args.update.part) (sym c.signed.ensures.same) (fresh_in g (goal.at.enter-requires-clause-fits g c).In_default).fits

-- the body is that of the next entry
body_in : (g : given.Over) (c : goal.After-put_head g) → (let d = c.self.inside in
    IsNext (g.H.Hash32.digest_of d.h) (g.X.IndexSource.index_of d.source) (state_of d.stored) c.args.update c.args.t c.in-Ok.entry.body)
body_in g c =
    let d = c.self.inside in
    let hash = g.H.Hash32.digest_of d.h in
    let index_of = g.X.IndexSource.index_of d.source in
    let u = fresh hash index_of (state_of d.stored) c.args.update (rw (← c.self.view_is) at c.requires.update) c.in_default.ensures.ok.next.fresh in
    c.in-Ok.ensures.body index_of c.self.invariant.whole u

-- the state that is left is that of an install
left_in : (g : given.Over) (c : goal.After-put_head g) → (let d = c.self.inside in
    Leaves (g.H.Hash32.digest_of d.h) (g.X.IndexSource.index_of d.source) (state_of d.stored) (state_of c.enter.new.stored) c.args.update c.args.t c.in-Ok.entry)
left_in g c =
    let d = c.self.inside in
    let hash = g.H.Hash32.digest_of d.h in
    let index_of = g.X.IndexSource.index_of d.source in
    let u = fresh hash index_of (state_of d.stored) c.args.update (rw (← c.self.view_is) at c.requires.update) c.in_default.ensures.ok.next.fresh in
    c.enter.ensures.entered (state_of d.stored) c.signed.ensures.same index_of c.self.invariant.whole u c.in_default.ensures.ok.next.later (body_in g c)

chain_in : (g : given.Over) (c : goal.After-put_head g) → c.enter.new.stored.chain.items ≡ c.self.inside.stored.chain.items ++ c.in-Ok.entry ∷ []
chain_in g c = c.enter.ensures.last ∙ ap (λ (s : State). s.chain ++ c.in-Ok.entry ∷ []) c.signed.ensures.same

pub invariant_of-self : goal.invariant_of-self
invariant_of-self g c = record { whole = (left_in g c).whole; linked = c.enter.ensures.linked }

pub returns-in-Ok-clause-installed : goal.returns-in-Ok-clause-installed
returns-in-Ok-clause-installed g c =
    rw (← c.self.view_is) (record {
      history = (left_in g c).history;
      chain = chain_in g c;
      nodes = c.enter.ensures.count ∙ ap (λ (s : State). length s.nodes + nodes_added c.args.update) c.signed.ensures.same;
      body = body_in g c;
    })

pub returns-in-Ok-clause-retained : goal.returns-in-Ok-clause-retained
returns-in-Ok-clause-retained g c =
    let d = c.self.inside in
    let verdict = g.S.Verify.verdict_of c.args.signer.now in
    let now = g.S.Verify.verdict_of c.signed.new.signer in
    let published = published_next (g.H.Hash32.digest_of d.h) c.args.publisher.now c.put_head.new.publisher d.stored.chain.items c.enter.new.stored.chain.items c.in-Ok.entry c.head_of.result
    (rw (← c.self.view_is) at c.requires.ready.published) c.put_head.ensures (c.head_of.ensures (g.H.Hash32.digest_of d.h) c.link-link.ensures) (chain_in g c) in
    rw (← c.self.view_is) (record {
      grows = (left_in g c).grows;
      good = (left_in g c).good verdict now c.signed.ensures.verdicts_retained c.in-Ok.ensures.signed.verdict;
      verdicts_retained = c.signed.ensures.verdicts_retained;
      heads = published;
      table = ap (λ (e : BoardEnd). e.table) c.put_head.ensures;
    })
