use Rattle.std.proofs.Common.{◌≡◌, List, Option, Some, ℕ, subst, sym, ◌∙◌}
use Rattle.std.proofs.lemmas.Option.{same_Some}
use Rattle.coniks_chain.specs.declared.entry.Entry.{Entry}
use Rattle.coniks_client.specs.Lookups.{Answers, Shows}
use Rattle.coniks_client.specs.Owner.{Scheme}
use Rattle.coniks_client.proofs.lookups.saved_answer.Goals as goal

-- at the index of a VRF proof the bytes of a proof show what both show together
shows_at : (hash : List ℕ → List ℕ) (scheme : Scheme) (entry : Entry) (name vrf bytes index : List ℕ) (answer : Option (List ℕ))
    → Some index ≡ scheme name vrf → Answers hash scheme entry name vrf bytes answer → Shows hash entry index name bytes answer
shows_at hash scheme entry name vrf bytes index answer is answers =
    subst (λ (i : List ℕ). Shows hash entry i name bytes answer) (same_Some answers.0 index (sym answers.1 ∙ sym is)) answers.2

pub returns-in-Ok-clause-exact : goal.returns-in-Ok-clause-exact
returns-in-Ok-clause-exact g c = λ answer answers. c.in-Ok.ensures.exact answer
    (shows_at (g.H.Hash32.digest_of c.args.h.now) (g.S.IndexScheme.index_of c.args.scheme.now) c.args.entry.now c.args.name.now c.args.reply.now.vrf.now c.args.reply.now.proof.now c.in-Some.index.0 answer
    c.in-Some.ensures answers)

pub returns-in-Err-clause-exact : goal.returns-in-Err-clause-exact
returns-in-Err-clause-exact g c = λ answer answers. c.in-Err.ensures.exact answer
    (shows_at (g.H.Hash32.digest_of c.args.h.now) (g.S.IndexScheme.index_of c.args.scheme.now) c.args.entry.now c.args.name.now c.args.reply.now.vrf.now c.args.reply.now.proof.now c.in-Some.index.0 answer
    c.in-Some.ensures answers)
