use Rattle.std.proofs.Common.{◌≡◌, IfSome, Option, Some, rules, subst, sym}
use Rattle.coniks_provider.specs.Stores.{IsPending}
use Rattle.coniks_provider.specs.declared.service.Pending.{Pending}
use Rattle.coniks_provider.proofs.ServiceLemmas.{installed_state}
use Rattle.coniks_provider.proofs.service.Service.install.Goals.{In-Some}
use Rattle.coniks_provider.proofs.service.Service.install.Goals as goal

-- the pending update
abbrev update : In-Some → Pending
update c = c.in-Some.field-0

pending_in : (c : In-Some) → c.args.self.now.pending ≡ Some (update c)
pending_in c = sym c.in-Some.ensures.value

is_pending : (c : In-Some) → IsPending c.args.self.now.directory (update c)
is_pending c = subst (λ (x : Option Pending). IfSome x (IsPending c.args.self.now.directory)) (pending_in c) c.requires

pub returns-clause-state : goal.returns-clause-state
returns-clause-state c =
    let at = (goal.at.returns-clause-state c).In-Some in
    let old = c.args.self.now in
    let e = c.in-Ok.ensures in
    let p = is_pending at in
    let added = e.installed.epoch p.index p.supplied in
    installed_state old.is_logged old.directory c.install_linked.new.self (update at) c.args.signature c.args.stated.now (search rules)
    old.pending c.take.new.self (pending_in at) c.take.ensures.after
    e.retained.grows.nonce e.retained.grows.policy e.retained.grows.before e.installed.indices (rw c.new-linked.ensures at added.history) (rw c.new-linked.ensures at added.chain) added.nodes
