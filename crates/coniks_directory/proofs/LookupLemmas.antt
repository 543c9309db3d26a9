-- What a state shows at an epoch.
use Rattle.std.proofs.Common.{◌≡◌, ◌==◌, ℕ, List, [], ◌∷◌, map, true, false, refl, sym, ap, subst, ◌∙◌, cond, arith, inl, inr, Some, None, option_map, slice_get}
use Rattle.coniks_proof.specs.Hashing.{hashing}
use Rattle.coniks_tree.specs.Table.{table}
use Rattle.coniks_directory.proofs.Words.{Accepts, AllHaveOwnIndices, AreRising, Body, Epoch, HaveOwnIndices, IsAcceptedAt, IsEpochAt, IsFree}
use Rattle.coniks_directory.proofs.Words.{IsLength, IsPath, MAX_NAME, Numbered, Proof, Record, Shown, Shows, State, Whole, backed_by}
use Rattle.coniks_directory.proofs.Words.{entries_of, find, has_name, history_of, key_of, length-map, map-map, node, registered_at, root_at}
use Rattle.coniks_directory.proofs.Words.{same_Some, shown_at, shown_of, slice_get-map, slice_get_cases, slice_get_within}
use Rattle.coniks_chain.specs.declared.entry.Entry.{Entry}
use Rattle.coniks_directory.specs.Lookups.{IsAcceptedUnder}
use Rattle.coniks_directory.specs.declared.lookup.SignedProof.{SignedProof}
use Rattle.coniks_proof.proofs.Lemmas.{own_of_map, path_accepted}
use Rattle.coniks_directory.proofs.ChainLemmas.{rising-weaken}
use Rattle.coniks_directory.proofs.HeadLemmas.{chain-rises}
use Rattle.coniks_directory.proofs.LastLemmas.{get-mapped}
use Rattle.coniks_directory.proofs.MirrorLemmas.{mirrored_path, mirrored_root}
use Rattle.coniks_directory.proofs.NumberLemmas.{find_at}

-- what the history shows of an epoch
pub shown-found : (records : List Record) (es : List Epoch) (t : ℕ) → shown_at (map (shown_of records) es) t ≡ option_map (shown_of records) (find (λ (e : Epoch). e.t == t) es)
shown-found records [] t = refl
shown-found records (e ∷ es) t =
    (elim (e.t == t) as (λ v. cond v (Some (shown_of records e)) (shown_at (map (shown_of records) es) t) ≡ option_map (shown_of records) (cond v (Some e) (find (λ (f : Epoch). f.t == t) es))) [
      | true ↦ refl
      | false ↦ shown-found records es t
    ])

-- ---- an installed epoch and its entry, which are at the same place

module _ (hash index_of : List ℕ → List ℕ) (s : State) (whole : Whole hash index_of s) where
  pub rising_epochs : AreRising 0 (map (λ (e : Epoch). e.t) s.epochs)
  rising_epochs = subst (AreRising 0) (map-map (λ (x : Shown). x.t) (shown_of s.records) s.epochs) (rising-weaken _ _ whole.rising)

  module _ (k : ℕ) (e : Epoch) (at : slice_get s.epochs k ≡ Some e) where
    pub installed_at : (t : ℕ) (entry : Entry) → e.t ≡ t → slice_get s.chain k ≡ Some entry → IsEpochAt hash index_of s t e entry
    installed_at t entry same there =
        let shown = slice_get-map (shown_of s.records) s.epochs k ∙ ap (option_map (shown_of s.records)) at in
        let body = whole.chain.bodies k (shown_of s.records e) entry shown there in
        let number = ap (λ (b : Body). b.t) body ∙ same in
        record {
          holds = whole.stored k e at;
          shown = shown-found s.records s.epochs t ∙ ap (option_map (shown_of s.records)) (find_at (λ (f : Epoch). f.t) 0 t k s.epochs e rising_epochs at same);
          root = ap (λ (b : Body). b.root.0) body;
          nonce = ap (λ (b : Body). b.nonce.0) body;
          signed = find_at (λ (f : Entry). f.body.t) _ t k s.chain entry (chain-rises hash index_of s.policy s.before _ (history_of s) s.chain whole.chain whole.rising) there number;
        }

    -- there is an entry
    pub entry_there : slice_get s.chain k ≡ None → ⊥
    entry_there none = elim (slice_get_cases s.chain k).1 [
      | inl (x, within, there, _) ↦ absurd (let never = sym there ∙ none in cc)
      | inr (past, _) ↦
          let long = whole.chain.long in let mapped = length-map s.epochs (shown_of s.records) in let within = slice_get_within s.epochs k e at in absurd (omega arith)
    ]

-- ---- what the tree of an installed epoch shows

module _ (hash index_of : List ℕ → List ℕ) (s : State) (t : ℕ) (e : Epoch) (entry : Entry) (i : IsEpochAt hash index_of s t e entry) where
  -- the hash of its root is that of its registry
  pub rooted : (root : List ℕ) → ((entries : List Numbered) → Shows (hashing hash e.nonce.0) (table s.nodes s.records) e.root.0 [] entries → root ≡ node (hashing hash e.nonce.0) [] entries)
      → Some root ≡ option_map (root_at hash index_of) (shown_at (history_of s) t)
  rooted root is =
      let r = i.holds.registry in
      rw i.shown (ap Some (is r.entries r.shows ∙ mirrored_root hash index_of e.nonce.0 s.records r.entries (shown_of s.records e).registry r.mirrors))

  -- a path from its root is one in its registry's tree
  pub pathed : (j : List ℕ) (proof : Proof) → ((entries : List Numbered) → Shows (hashing hash e.nonce.0) (table s.nodes s.records) e.root.0 [] entries
      → IsPath (hashing hash e.nonce.0) (map (backed_by (registered_at s.records)) entries) j proof)
      → IsPath (hashing hash e.nonce.0) (entries_of hash index_of (shown_of s.records e).registry) j proof
  pathed j proof is = let r = i.holds.registry in mirrored_path hash index_of e.nonce.0 s.records r.entries (shown_of s.records e).registry r.mirrors j proof (is r.entries r.shows)

  pub accepted_there : (name : List ℕ) (proof : Proof) → IsLength MAX_NAME name → IsPath (hashing hash e.nonce.0) (entries_of hash index_of (shown_of s.records e).registry) (index_of name) proof
      → IsAcceptedAt hash index_of (history_of s) t name proof
  accepted_there name proof sized path shown there alone =
      let same : shown_of s.records e ≡ shown = same_Some (shown_of s.records e) shown (sym i.shown ∙ there) in
      let m = i.holds.registry.mirrors in
      subst (λ (x : Shown). (has_name x.registry name ≡ false → IsFree index_of x.registry (index_of name))
      → Accepts (hashing hash x.nonce) (root_at hash index_of x) (index_of name) name proof (key_of x.registry name)) same
      (λ own. path_accepted hash index_of e.nonce.0 (root_at hash index_of (shown_of s.records e)) (shown_of s.records e).registry name proof m.names m.limits refl path own sized) alone

  -- so the proof is accepted under the entry's root and nonce, at the name's index
  pub accepted_under : (name : List ℕ) (it : SignedProof) → it.entry ≡ entry → it.index.0 ≡ index_of name
      → IsAcceptedAt hash index_of (history_of s) t name it.proof → IsAcceptedUnder hash index_of (history_of s) t name it
  accepted_under name it entry-is index-is accepted shown there alone =
      let same : shown_of s.records e ≡ shown = same_Some (shown_of s.records e) shown (sym i.shown ∙ there) in
      let root : it.entry.body.root.0 ≡ root_at hash index_of shown = ap (λ (f : Entry). f.body.root.0) entry-is ∙ i.root ∙ ap (root_at hash index_of) same in
      let nonce : it.entry.body.nonce.0 ≡ shown.nonce = ap (λ (f : Entry). f.body.nonce.0) entry-is ∙ i.nonce ∙ ap (λ (x : Shown). x.nonce) same in
      let key = key_of shown.registry name in
      subst (λ n. Accepts (hashing hash n) it.entry.body.root.0 it.index.0 name it.proof key) (sym nonce)
      (subst (λ r. Accepts (hashing hash shown.nonce) r it.index.0 name it.proof key) (sym root)
      (subst (λ j. Accepts (hashing hash shown.nonce) (root_at hash index_of shown) j name it.proof key) (sym index-is) (accepted shown there alone)))

-- no two names in an epoch's registry have the same index
pub all_own : (hash index_of : List ℕ → List ℕ) (s : State) → Whole hash index_of s → AllHaveOwnIndices index_of (history_of s)
all_own hash index_of s whole k shown there = let e = get-mapped (shown_of s.records) s.epochs k shown there in
    subst (λ (x : Shown). HaveOwnIndices index_of x.registry) e.2 (own_of_map hash index_of (shown_of s.records e.0).registry (whole.stored k e.0 e.1).registry.mirrors.names)
