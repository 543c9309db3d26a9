use Rattle.std.proofs.Common.{◌≡◌, sym, ap, ◌∙◌, Some}
use Rattle.coniks_programs.specs.Refusals.{refusal_of}
use Rattle.coniks_programs.specs.Turns.{refused}
use Rattle.coniks_tool.specs.Demo.{demo_index}
use Rattle.coniks_tool.specs.Refusals.{refusal}
use Rattle.coniks_tool.specs.ScriptReplies.{because, installed}
use Rattle.coniks_tool.specs.Script.{ScriptDirectory, ScriptState, ScriptTurn, batch_with}
use Rattle.coniks_tool.specs.Stores.{batch_of, opened_of}
use Rattle.coniks_tool.proofs.StoreLemmas.{installed_turn, refused_turn, shown_open}
use Rattle.coniks_tool.proofs.run.store.Store.install.Given as given
use Rattle.coniks_tool.proofs.run.store.Store.install.Goals.{In_ok-commit_refusal-in-Err}
use Rattle.coniks_tool.proofs.run.store.Store.install.Goals as goal

-- the turn of a refused batch
refused_in : (g : given.Over) (c : In_ok-commit_refusal-in-Err g) → (let o = opened_of c.in-Some.service in
    batch_with c.args.self.now (batch_of c.args.batch) ≡ refused (Some o) (because (refusal_of c.in_ok-commit_refusal-in-Err.field-0)))
refused_in g c =
    let o = opened_of c.in-Some.service in
    let b = batch_of c.args.batch in
    let same : c.args.self.now ≡ Some o = shown_open c.self.inside.opened c.in-Some.service c.args.self.now c.in-Some.ensures.value c.self.view_is in
    refused_turn o b c.args.self.now (refusal_of c.in_ok-commit_refusal-in-Err.field-0) same
    (c.in_ok-commit_refusal-in-Err.ensures.refusal (refusal (demo_index o.key) o.history b.t b.ops) c.in-Err.ensures.refused)

pub returns-in-Err-clause-reply : goal.returns-in-Err-clause-reply
returns-in-Err-clause-reply g c = sym (ap (λ (t : ScriptTurn). t.outcome) (refused_in g c))

pub returns-in-Err-clause-state : goal.returns-in-Err-clause-state
returns-in-Err-clause-state g c =
    ap (λ (p : ScriptDirectory). let w : ScriptState = Some p in w) c.in-Err.ensures.unchanged ∙ sym (ap (λ (t : ScriptTurn). t.state) (refused_in g c))

pub returns-clause-reply : goal.returns-clause-reply
returns-clause-reply g c =
    let o = opened_of c.in-Some.service in
    let same : c.args.self.now ≡ Some o = shown_open c.self.inside.opened c.in-Some.service c.args.self.now c.in-Some.ensures.value c.self.view_is in
    ap (installed c.in-Ok.entry) (c.latest_link-link.ensures c.in-Some.service.directory.state.chain c.in-Ok.entry c.in-Ok.ensures.added) ∙ sym (ap (λ (t : ScriptTurn). t.outcome)
    (installed_turn o (opened_of c.commit-committed.new.self) (batch_of c.args.batch) c.in-Ok.entry c.args.self.now same c.in-Ok.ensures.ok))

pub returns-clause-state : goal.returns-clause-state
returns-clause-state g c =
    let o = opened_of c.in-Some.service in
    let same : c.args.self.now ≡ Some o = shown_open c.self.inside.opened c.in-Some.service c.args.self.now c.in-Some.ensures.value c.self.view_is in
    sym (ap (λ (t : ScriptTurn). t.state) (installed_turn o (opened_of c.commit-committed.new.self) (batch_of c.args.batch) c.in-Ok.entry c.args.self.now same c.in-Ok.ensures.ok))
