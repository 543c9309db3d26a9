use Rattle.std.proofs.Common.{◌≡◌, List, ℕ, None, Some, ap, false, length, rules, subst, sym, true, ◌∙◌}
use Rattle.std.specs.Prelude.{option_map}
use Rattle.coniks_chain.specs.Chain.{before_at}
use Rattle.coniks_chain.specs.declared.entry.Body.{Body}
use Rattle.coniks_directory.specs.Batches.{operations}
use Rattle.coniks_directory.specs.Chain.{body_of}
use Rattle.coniks_directory.specs.History.{Shown, latest_registry, nonce_bytes}
use Rattle.coniks_directory.specs.Nodes.{epoch_nodes}
use Rattle.coniks_directory.specs.State.{history_of}
use Rattle.coniks_directory.specs.SuppliedBatches.{indices_by, indices_of, operations_of}
use Rattle.coniks_directory.specs.Updates.{nodes_added, shown_after}
use Rattle.coniks_proof.specs.Batches.{Operation, after}
use Rattle.coniks_proof.specs.Sha256.{sha256}
use Rattle.coniks_chain.specs.Entries.{body_bytes}
use Rattle.coniks_provider.specs.Answers.{provider_outcome_of, replay_differs}
use Rattle.coniks_provider.specs.Claims.{agrees}
use Rattle.coniks_provider.specs.Stores.{batch_line_of, provided_of}
use Rattle.coniks_provider.specs.Turns.{index_for, line_refusal, may_replace, provider_number_refusal, pending_by, provider_refusal, epoch_next}
use Rattle.coniks_provider.proofs.ServiceLemmas.{body_last, indexed_operations, line_accepted, number_is, number_none, prepared_reply, prepared_state, refused_outcome, refused_state, shown_is}
use Rattle.coniks_provider.proofs.service.Service.prepare.Goals.{After-next_body-body}
use Rattle.coniks_provider.proofs.service.Service.prepare.Given as given
use Rattle.coniks_provider.proofs.service.Service.prepare.Goals as goal

-- the number of the epoch isn't refused
allowed : (g : given.Over) (c : After-next_body-body g) → provider_number_refusal (provided_of c.args.self.now) c.args.line.epoch ≡ None
allowed g c = sym c.number_refusal.ensures ∙ ap (option_map provider_outcome_of) c.in_default.is

batch_in : (g : given.Over) (c : After-next_body-body g) → provider_refusal (provided_of c.args.self.now) (batch_line_of c.args.line) ≡ None
batch_in g c =
    let e = c.in-Ok.ensures in
    number_is (provided_of c.args.self.now) (batch_line_of c.args.line) e.within e.faultless ∙ allowed g c

operations_in : (g : given.Over) (c : After-next_body-body g) → operations_of (batch_line_of c.args.line).ops ≡ operations c.args.line.batch.ops.items
operations_in g c = indexed_operations c.args.line.batch.ops.items c.args.line.batch.indices.items c.args.line.paired

-- the epoch is that of the batch
shown_in : (g : given.Over) (c : After-next_body-body g)
    → shown_after c.args.self.now.directory.state c.in-Ok.update c.args.line.epoch ≡ epoch_next (provided_of c.args.self.now) (batch_line_of c.args.line)
shown_in g c =
    let s = c.args.self.now in
    let e = c.in-Ok.ensures in
    let registry = latest_registry (history_of s.directory.state) in
    shown_is s.is_logged s.directory s.pending (batch_line_of c.args.line) c.in-Ok.update e.update.rotates (e.update.registry ∙ ap (after registry) (sym (operations_in g c)))

-- and the body is that of this epoch
body_in : (g : given.Over) (c : After-next_body-body g) → (let s = c.args.self.now.directory.state in
    c.next_body-body.result ≡ body_of sha256 (index_for (provided_of c.args.self.now) (batch_line_of c.args.line))
    s.policy (before_at sha256 s.before s.chain (length s.chain)) (shown_after s c.in-Ok.update c.args.line.epoch))
body_in g c = c.next_body-body.ensures (index_for (provided_of c.args.self.now) (batch_line_of c.args.line)) (c.in-Ok.ensures.installable.agree c.in-Ok.ensures.update.update.base) c.in-Ok.ensures.update.update

body_is : (g : given.Over) (c : After-next_body-body g) → c.next_body-body.result ≡ (pending_by (provided_of c.args.self.now) (batch_line_of c.args.line)).body
body_is g c =
    let s = c.args.self.now.directory.state in
    body_in g c ∙ ap (λ (x : Shown). body_of sha256 (index_for (provided_of c.args.self.now) (batch_line_of c.args.line)) s.policy (before_at sha256 s.before s.chain (length s.chain)) x)
    (shown_in g c)

indices_in : (g : given.Over) (c : After-next_body-body g) → indices_of c.in-Ok.update ≡ (pending_by (provided_of c.args.self.now) (batch_line_of c.args.line)).indices
indices_in g c = c.in-Ok.ensures.indices ∙ ap (indices_by (index_for (provided_of c.args.self.now) (batch_line_of c.args.line))) (sym (operations_in g c))

nodes_in : (g : given.Over) (c : After-next_body-body g) → nodes_added c.in-Ok.update ≡ (pending_by (provided_of c.args.self.now) (batch_line_of c.args.line)).nodes
nodes_in g c =
    let o = provided_of c.args.self.now in
    c.in-Ok.ensures.update.nodes ∙ ap
    (λ (ops : List Operation). epoch_nodes (index_for o (batch_line_of c.args.line)) o.history (nonce_bytes c.args.line.batch.nonce) ops) (sym (operations_in g c))

-- the line is accepted if it names no other body
none_in : (g : given.Over) (c : After-next_body-body g) → (let b = batch_line_of c.args.line in let o = provided_of c.args.self.now in
    may_replace o b.claims ≡ true → agrees b.claims.body (body_bytes c.next_body-body.result) ≡ true → line_refusal o b ≡ None)
none_in g c free agreed =
    let o = provided_of c.args.self.now in
    let b = batch_line_of c.args.line in
    line_accepted o b free (batch_in g c) (subst (λ (x : Body). agrees b.claims.body (body_bytes x) ≡ true) (body_is g c) agreed)

differs_in : (g : given.Over) (c : After-next_body-body g) → (let b = batch_line_of c.args.line in let o = provided_of c.args.self.now in
    may_replace o b.claims ≡ true → agrees b.claims.body (body_bytes c.next_body-body.result) ≡ false → line_refusal o b ≡ Some replay_differs)
differs_in g c free apart =
    let o = provided_of c.args.self.now in
    let b = batch_line_of c.args.line in
    body_last o b free (batch_in g c) (subst (λ (x : Body). agrees b.claims.body (body_bytes x) ≡ false) (body_is g c) apart)

pub returns-then-not-agrees-clause-reply : goal.returns-then-not-agrees-clause-reply
returns-then-not-agrees-clause-reply g c =
    let o = provided_of c.args.self.now in
    let b = batch_line_of c.args.line in
    refused_outcome o b replay_differs (differs_in g (goal.at.returns-then-not-agrees-clause-reply g c).After-next_body-body (search rules) (search rules))

pub returns-then-not-agrees-clause-state : goal.returns-then-not-agrees-clause-state
returns-then-not-agrees-clause-state g c =
    let o = provided_of c.args.self.now in
    let b = batch_line_of c.args.line in
    refused_state o b replay_differs (differs_in g (goal.at.returns-then-not-agrees-clause-state g c).After-next_body-body (search rules) (search rules))

pub returns-clause-served : goal.returns-clause-served
returns-clause-served g c =
    let at = (goal.at.returns-clause-served g c).After-next_body-body in
    let d = c.args.self.now.directory in
    let o = provided_of c.args.self.now in
    let e = c.in-Ok.ensures in
    let free = number_none o c.args.line.epoch (allowed g at) in
    let number : c.next_body-body.result.t ≡ c.args.line.epoch = ap (λ (x : Body). x.t) (body_in g at) in
    record {
      index = index_for o (batch_line_of c.args.line);
      supplied = e.installable;
      fresh = e.update.update.base;
      later = rw number free;
      body = body_in g at ∙ ap (λ (n : ℕ). body_of sha256 (index_for o (batch_line_of c.args.line)) d.state.policy
          (before_at sha256 d.state.before d.state.chain (length d.state.chain)) (shown_after d.state c.in-Ok.update n)) (sym number);
    }

pub returns-clause-reply : goal.returns-clause-reply
returns-clause-reply g c =
    let at = (goal.at.returns-clause-reply g c).After-next_body-body in
    let s = c.args.self.now in
    prepared_reply s.is_logged s.directory s.pending (batch_line_of c.args.line) c.in-Ok.update c.next_body-body.result (none_in g at (search rules) (search rules))
    (body_is g at) (shown_in g at) (indices_in g at) (nodes_in g at) c.new_nodes-nodes.result c.new_nodes-nodes.ensures

pub returns-clause-state : goal.returns-clause-state
returns-clause-state g c =
    let at = (goal.at.returns-clause-state g c).After-next_body-body in
    let s = c.args.self.now in
    prepared_state s.is_logged s.directory s.pending (batch_line_of c.args.line) c.in-Ok.update c.next_body-body.result (none_in g at (search rules) (search rules))
    (body_is g at) (shown_in g at) (indices_in g at) (nodes_in g at)
