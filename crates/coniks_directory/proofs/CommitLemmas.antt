-- The epoch of an update that was prepared from a batch.
use Rattle.std.proofs.Common.{◌≡◌, ◌+◌, ◌++◌, ◌∷◌, [], ℕ, List, length, Option, None, ap, arith, refl, subst, ◌∙◌}
use Rattle.coniks_chain.specs.declared.entry.Entry.{Entry}
use Rattle.coniks_proof.specs.Octets.{Octets}
use Rattle.coniks_directory.proofs.Words.{AddsFew, IsUpdateBy, IsUpdateOf, Nonce, Op, Operation, Prepared, RotatesTo, Shown, State, View, after, history_of, latest_registry, operations, registry_after, shown_after, shown_with}
use Rattle.coniks_directory.specs.Directories.{NextBodyBy, history}
use Rattle.coniks_directory.specs.History.{nonce_bytes}
use Rattle.coniks_directory.specs.Installs.{AddsBatch, AddsUpdate}
use Rattle.coniks_directory.proofs.FreshLemmas.{Grows-refl, Grows-trans, prepared_of}

-- the epoch is that of the batch
pub shown_is : (s : State) (new_nonce : Option (List ℕ)) (ops : List Operation) (t : ℕ) (update : Prepared) → RotatesTo s new_nonce update
    → registry_after s update ≡ after (latest_registry (history_of s)) ops → shown_after s update t ≡ shown_with s new_nonce ops t
shown_is s new_nonce ops t update rotates registry = rw (rotates.version, rotates.nonce, registry) refl

-- an install of the update adds the epoch of the batch
pub batch_added : {H X : Type 0} (digest : H → Octets → Octets) (index : X → Octets → Octets) (d later : View H X)
    (nonce : Option Nonce) (ops : List Op) (t : ℕ) (p : Prepared) (entry : Entry)
    → IsUpdateBy (digest d.hash) (index d.index) d.state (nonce_bytes nonce) ops p
    → AddsUpdate digest index d later p t entry → AddsBatch digest index d later nonce ops t entry
batch_added {H} {X} digest index d later nonce ops t p entry by added =
    let shown = shown_is d.state (nonce_bytes nonce) (operations ops) t p by.rotates by.registry in
    let few_of : nonce ≡ None → AddsFew d.state None ops p = λ none. subst (λ (n : Option Nonce). AddsFew d.state (nonce_bytes n) ops p) none by.few in
    record {
      epoch = record {
        history = added.history ∙ ap (λ (s : Shown). history d ++ s ∷ []) shown;
        chain = added.chain;
        nodes = added.nodes ∙ ap (λ n. length d.state.nodes + n) by.nodes;
        body = added.body ∙ ap (NextBodyBy digest d (index d.index)) shown;
      };
      few = λ none. omega (arith, added.nodes, (few_of none).0);
      none = λ none empty. added.nodes ∙ ap (λ n. length d.state.nodes + n) ((few_of none).1 empty);
    }

-- the update can be installed as it is
pub update_by : (hash index_of : Octets → Octets) (s : State) (nonce : Option Octets) (ops : List Op) (p : Prepared)
    → IsUpdateBy hash index_of s nonce ops p → IsUpdateOf hash index_of s p
update_by hash index_of s nonce ops p by = prepared_of hash index_of s p by.update

pub ruleset commits = (Grows-refl, Grows-trans, shown_is, update_by, batch_added)
