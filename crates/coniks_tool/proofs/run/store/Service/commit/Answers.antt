use Rattle.std.proofs.Common.{List, ap, length, sym, ℕ, ◌∙◌}
use Rattle.coniks_tool.specs.Demo.{demo_index}
use Rattle.coniks_tool.specs.Seal.{is_seal}
use Rattle.coniks_tool.proofs.StoreLemmas.{as_many, from_first, if_ok, installed_by, made_and_room, on_ok, refused_by, to_first}
use Rattle.coniks_tool.proofs.run.store.Service.commit.Goals as goal

pub returns-clause-served : goal.returns-clause-served
returns-clause-served g c =
    let e = c.commit_owned-committed.ensures in
    let k = e.retained in
    let s = c.requires.served in
    let result = c.commit_owned-committed.result in
    let counts = made_and_room demo_index result c.args.self.now.directory c.commit_owned-committed.new.self c.args.publisher.now c.commit_owned-committed.new.publisher c.args.batch.ops.items
    c.args.self.now.signer.made c.commit_owned-committed.new.signer.made 0 0 c.args.builders.now.parallelism.depth c.args.builders.now.parallelism.workers c.args.batch.epoch
    (length c.args.publisher.now.heads) c.args.board.now.capacity c.args.self.now.signer.last c.commit_owned-committed.new.signer.last
    (on_ok result _ _ (λ x signed. signed.made) e.signed) (if_ok result _ _ (λ x added. added.epoch.chain) e.installed)
    e.outcome e.unsigned e.unchanged s.made s.room (as_many c.args.publisher.now.heads c.args.self.now.directory.state.chain s.heads) c.requires.capacity in
    record {
      begun = k.grows.before ∙ s.begun;
      verdicts = λ b x. k.verdicts_retained b x ∙ s.verdicts b x ∙ ap (λ (k : List ℕ). is_seal k b x) (sym e.same.index);
      good = from_first (is_seal c.commit_owned-committed.new.signer.key) c.commit_owned-committed.new.self.state (k.grows.before ∙ s.begun)
          (k.good (to_first (is_seal c.args.self.now.signer.key) c.args.self.now.directory.state s.begun s.good));
      made = counts.0;
      heads = k.heads;
      room = counts.1;
    }

pub returns-clause-ok : goal.returns-clause-ok
returns-clause-ok g c =
    let e = c.commit_owned-committed.ensures in
    let k = e.retained in
    let s = c.requires.served in
    let result = c.commit_owned-committed.result in
    let history = on_ok result _ _ (λ x added. added.epoch.history) e.installed in
    installed_by c.args.self.now.directory c.commit_owned-committed.new.self c.args.batch.new_nonce c.args.batch.ops.items
    c.args.builders.now.parallelism.depth c.args.builders.now.parallelism.workers c.args.batch.epoch
    (length c.args.publisher.now.heads) c.args.board.now.capacity (is_seal c.commit_owned-committed.new.signer.key) result
    (λ b x. k.verdicts_retained b x ∙ s.verdicts b x) e.same.index k.grows (rw c.nonce_of.ensures at history) (if_ok result _ _ (λ x added. added.epoch.chain) e.installed)
    (k.grows.before ∙ s.begun) c.known.ensures
    (k.good (to_first (is_seal c.args.self.now.signer.key) c.args.self.now.directory.state s.begun s.good)) e.outcome
    (as_many c.args.publisher.now.heads c.args.self.now.directory.state.chain s.heads) c.requires.capacity s.room

pub returns-clause-added : goal.returns-clause-added
returns-clause-added g c = if_ok c.commit_owned-committed.result _ _ (λ x added. added.epoch.chain) c.commit_owned-committed.ensures.installed

pub returns-clause-refused : goal.returns-clause-refused
returns-clause-refused g c =
    let e = c.commit_owned-committed.ensures in
    let s = c.requires.served in
    refused_by demo_index (demo_index c.commit_owned-committed.new.self.index) c.args.self.now.directory
    c.commit_owned-committed.new.self c.args.publisher.now c.commit_owned-committed.new.publisher c.args.batch.ops.items
    c.args.builders.now.parallelism.depth c.args.builders.now.parallelism.workers c.args.batch.epoch (length c.args.publisher.now.heads) c.args.board.now.capacity
    c.args.self.now.signer.made c.commit_owned-committed.new.signer.made c.args.self.now.signer.last c.commit_owned-committed.new.signer.last
    c.commit_owned-committed.result c.args.builders.now.parallelism.within.0 c.args.builders.now.parallelism.within.1
    (as_many c.args.publisher.now.heads c.args.self.now.directory.state.chain s.heads) c.requires.capacity e.unsigned e.outcome e.unchanged c.known.ensures
