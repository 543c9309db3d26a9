use Rattle.std.proofs.Common.{◌≡◌, ap, subst, sym, ◌∙◌, Option, None}
use Rattle.coniks_chain.specs.declared.auditor.AuditorState.{AuditorState}
use Rattle.coniks_directory.specs.Chain.{IsChainOf}
use Rattle.coniks_proof.specs.Sha256.{sha256}
use Rattle.coniks_programs.specs.Refusals.{refusal_of}
use Rattle.coniks_tool.specs.Chains.{chain_of}
use Rattle.coniks_tool.specs.Demo.{demo_index}
use Rattle.coniks_tool.specs.Seal.{is_seal}
use Rattle.coniks_tool.specs.Stores.{opened_of}
use Rattle.coniks_tool.proofs.FoundLemmas.{found_there, missed_is}
use Rattle.coniks_tool.proofs.SealedLemmas.{chain_is}
use Rattle.coniks_tool.proofs.run.store.Service.look_up.Goals as goal

pub returns-in-Err : goal.returns-in-Err
returns-in-Err c =
    missed_is (opened_of c.args.self.now) c.args.epoch c.args.name.now c.as_bytes.result.now c.as_bytes.ensures.value c.in-Err.fault
    (refusal_of c.in_ok-lookup_refusal-in-Err.field-0) c.in-Err.ensures.missed c.in_ok-lookup_refusal-in-Err.ensures.refusal

pub returns : goal.returns
returns c =
    let o = opened_of c.args.self.now in
    let chain = c.args.self.now.directory.state.chain in
    let made : IsChainOf sha256 (demo_index o.key) o.policy None o.history chain =
    subst (λ (b : Option AuditorState). IsChainOf sha256 (demo_index o.key) o.policy b o.history chain) c.requires.1.begun c.known.ensures in
    let is : chain ≡ chain_of o.key o.policy o.history = chain_is o.key o.policy (is_seal c.args.self.now.signer.key)
    c.requires.1.verdicts o.history chain made c.requires.1.good in
    found_there o c.args.epoch c.args.name.now c.as_bytes.result.now c.as_bytes.ensures.value c.in-Ok.found.proof
    c.in-Ok.ensures.ok chain is c.in-Ok.found.entry c.in_ok-name.name.bytes.items c.in-Ok.found.index.0
    (sym c.in-Ok.ensures.entry) c.in_ok-name.ensures.ok (c.in-Ok.ensures.index ∙ ap (demo_index o.key) c.as_bytes.ensures.value)
