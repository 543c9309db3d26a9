-- A saved reply, as its parts.
use Rattle.std.proofs.Common.{◌≡◌, ℕ, List, Option, sym, ap, subst, ◌∙◌, arith, length-drop}
use Rattle.coniks_proof.specs.declared.values.Index.{Index}
use Rattle.coniks_chain.specs.Entries.{entry_from}
use Rattle.coniks_chain.specs.declared.entry.Body.{Body}
use Rattle.coniks_chain.specs.declared.entry.Entry.{Entry}
use Rattle.coniks_client.specs.Lookups.{Answers, AnswersBy}
use Rattle.coniks_client.specs.Owner.{Scheme}
use Rattle.coniks_client.specs.Replies.{IsNoReply, IsReply, entry_part, proof_part, vrf_part}
use Rattle.coniks_client.specs.declared.stored.StoredEntry.{StoredEntry}
use Rattle.coniks_client.specs.declared.lookups.LookupFault.{LookupFault}
use Rattle.coniks_client.specs.declared.lookups.Saved.{Saved}
use Rattle.coniks_client.specs.declared.replies.ReplyFault.{ReplyFault}
use Rattle.coniks_client.specs.declared.replies.ReplyFault.TheVariants.{NoReply, ReplyVersion, CutInEntry, CutInVrf}
use Rattle.coniks_evidence.specs.Records.{IsAccepted, IsAcceptedAt, IsSaved, IsShownIn, IsUnaccepted}

-- bytes are no reply and one
pub not_both : (bytes : List ℕ) (fault : ReplyFault) → IsReply bytes → IsNoReply bytes fault → ⊥
not_both bytes NoReply whole none = let long = whole.entry in omega (arith, length-drop 1 bytes)
not_both bytes ReplyVersion whole none = none.1 whole.version
not_both bytes CutInEntry whole none = let long = whole.entry in let short = none.1 in omega arith
not_both bytes CutInVrf whole none = let long = whole.vrf in let short = none.2 in omega arith

-- an epoch at which a reply is accepted is stored, and the bytes are a reply
pub shown_whole : (hash : List ℕ → List ℕ) (scheme : Scheme) (stored : List StoredEntry) (epoch : ℕ) (name bytes : List ℕ) (answer : Option (List ℕ))
    → IsShownIn hash scheme stored epoch name bytes answer → IsReply bytes
shown_whole hash scheme stored epoch name bytes answer shown =
    let there = shown.stored_there in (shown.accepted there.0 there.1 there.2 there.3).whole

module _ (hash : List ℕ → List ℕ) (scheme : Scheme) (entry : Entry) (name bytes e v p : List ℕ)
    (is_e : e ≡ entry_part bytes) (is_v : v ≡ vrf_part bytes) (is_p : p ≡ proof_part bytes) where
  body_is : (entry_from e).body ≡ (entry_from (entry_part bytes)).body
  body_is = ap (λ (x : List ℕ). (entry_from x).body) is_e

  -- the parts of an accepted reply are accepted
  pub parts_same : (answer : Option (List ℕ)) → IsAccepted hash scheme entry name bytes answer → (entry_from e).body ≡ entry.body
  parts_same answer accepted = body_is ∙ accepted.same

  pub parts_answer : (answer : Option (List ℕ)) → IsAccepted hash scheme entry name bytes answer → Answers hash scheme entry name v p answer
  parts_answer answer accepted =
      subst (λ (x : List ℕ). Answers hash scheme entry name x p answer) (sym is_v)
      (subst (λ (x : List ℕ). Answers hash scheme entry name (vrf_part bytes) x answer) (sym is_p) accepted.answers)

  -- a reply whose parts are accepted is
  pub saved_parts : (saved : Saved) → IsReply bytes → (entry_from e).body ≡ entry.body → AnswersBy hash scheme entry name v p saved → IsSaved hash scheme entry name bytes saved
  saved_parts saved whole same verified = record {
    whole = whole;
    same = sym body_is ∙ same;
    verified = subst (λ (x : List ℕ). AnswersBy hash scheme entry name x (proof_part bytes) saved) is_v
        (subst (λ (x : List ℕ). AnswersBy hash scheme entry name v x saved) is_p verified);
  }

  -- one whose parts are refused is refused
  pub refused_parts : (fault : LookupFault) → IsUnaccepted hash scheme entry name (entry_from e).body v p fault
      → IsUnaccepted hash scheme entry name (entry_from (entry_part bytes)).body (vrf_part bytes) (proof_part bytes) fault
  refused_parts fault refused =
      subst (λ (b : Body). IsUnaccepted hash scheme entry name b (vrf_part bytes) (proof_part bytes) fault) body_is
      (subst (λ (x : List ℕ). IsUnaccepted hash scheme entry name (entry_from e).body x (proof_part bytes) fault) is_v
      (subst (λ (x : List ℕ). IsUnaccepted hash scheme entry name (entry_from e).body v x fault) is_p refused))

-- under one body and at one index a proof is accepted alike
pub moved : (hash : List ℕ → List ℕ) (e f : Entry) (i j : Index) (name : List ℕ) (saved : Saved) → e.body ≡ f.body → i ≡ j
    → IsAcceptedAt hash f j name saved → IsAcceptedAt hash e i name saved
moved hash e f i j name saved body index accepted =
    subst (λ (x : Index). IsAcceptedAt hash e x name saved) (sym index)
    (subst (λ (b : Body). IsAcceptedAt hash (record { body = b; signature = e.signature }) j name saved) (sym body) accepted)
