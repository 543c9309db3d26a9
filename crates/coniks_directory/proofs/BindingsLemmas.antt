-- Pages of the bindings of an epoch.
use Rattle.std.proofs.Common.{◌≡◌, ℕ, List, [], map, sym, ap, ◌∙◌, Option}
use Rattle.coniks_proof.specs.Hashing.{hashing}
use Rattle.coniks_proof.specs.declared.values.Index.{Index}
use Rattle.coniks_tree.specs.Pages.{page_of}
use Rattle.coniks_tree.specs.Parts.{entries_in}
use Rattle.coniks_tree.specs.Table.{table}
use Rattle.coniks_tree.proofs.Lemmas.{page-alike, page-backed}
use Rattle.coniks_chain.specs.declared.entry.Entry.{Entry}
use Rattle.coniks_directory.specs.Bindings.{ArePageAt, binding_at, binding_in, indexed_binding}
use Rattle.coniks_directory.specs.declared.bindings.IndexedBinding.{IndexedBinding}
use Rattle.coniks_directory.proofs.Words.{Change, Epoch, IsEpochAt, Numbered, Shows, State, backed_by, entries_of, history_of, map-map, registered_at, shown_of}
use Rattle.coniks_directory.proofs.MirrorLemmas.{IsMap-backed}

-- what a page of the tree of an epoch binds is the page of its registry
pub paged : (hash index_of : List ℕ → List ℕ) (s : State) (t : ℕ) (e : Epoch) (entry : Entry) → IsEpochAt hash index_of s t e entry
    → (after : Option Index) (most : ℕ) (page : List Change) (bindings : List IndexedBinding)
    → ((entries : List Numbered) → Shows (hashing hash e.nonce.0) (table s.nodes s.records) e.root.0 [] entries → entries_in page ≡ page_of after most entries)
    → map indexed_binding bindings ≡ map (binding_at s.records) (entries_in page)
    → ArePageAt hash index_of (history_of s) t after most bindings
paged hash index_of s t e entry at after most page bindings listed bound =
    let r = at.holds.registry in
    let m = r.mirrors in
    let f = registered_at s.records in
    let own = entries_of hash index_of (shown_of s.records e).registry in
    let same = page-alike after most (map (backed_by f) r.entries) own (IsMap-backed f r.entries m.indices) m.names m.same in
    record {
      shown = shown_of s.records e;
      installed = at.shown;
      page = bound ∙ ap (map (binding_at s.records)) (listed r.entries r.shows) ∙ sym (map-map binding_in (backed_by f) (page_of after most r.entries))
          ∙ ap (map binding_in) (sym (page-backed f after most r.entries)) ∙ ap (map binding_in) same;
    }
