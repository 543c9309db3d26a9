-- The state that an install leaves.
use Rattle.std.proofs.Common.{◌≡◌, ℕ, suc, ◌<◌, ◌≤◌, List, [], ◌∷◌, ◌++◌, length, map, Bool, true, refl, sym, ap, subst, ◌∙◌, arith, inl, inr, Some, slice_get, length-append}
use Rattle.coniks_proof.specs.Hashing.{hashing}
use Rattle.coniks_tree.specs.Table.{table}
use Rattle.coniks_directory.proofs.Words.{Body, Continues, Digest, Epoch, Extends, HoldsEpoch, epoch_before, last_number, nil_from_length, length-map}
use Rattle.coniks_directory.proofs.Words.{IsNext, IsUnder, IsUpdate, Leaves, Node, Numbered, Prepared, Record, Root}
use Rattle.coniks_directory.proofs.Words.{Grows, Shown, Shows, Stands, State, View, Whole, before_at, body_bytes, head_at, heads_of}
use Rattle.coniks_directory.proofs.Words.{history_of, last_count, latest_epoch, latest_nonce, latest_version, link_before, map-append, node}
use Rattle.coniks_directory.proofs.Words.{numbers_of, records_after, registry_after, shown_after, shown_of}
use Rattle.coniks_chain.specs.declared.entry.Entry.{Entry}
use Rattle.coniks_proof.specs.declared.values.Head.{Head}
use Rattle.coniks_threads.specs.Boards.{BoardEnd, board_end}
use Rattle.coniks_directory.specs.Directories.{heads}
use Rattle.coniks_directory.specs.Installs.{Follows, Keeps}
use Rattle.coniks_directory.specs.Installed.{Attached}
use Rattle.coniks_directory.specs.State.{IsLinked, state_of}
use Rattle.coniks_directory.specs.declared.state.DirectoryState.{DirectoryState}
use Rattle.coniks_chain.proofs.Lemmas.{continues_push, continues_same_verdict}
use Rattle.coniks_tree.proofs.Lemmas.{Extends-append, Shows-extended, get-push}
use Rattle.coniks_directory.proofs.ChainLemmas.{chain-push, follows_next, is_last, last-from, latest-known, rising-push, under-push}
use Rattle.coniks_directory.proofs.FreshLemmas.{Grows-refl}
use Rattle.coniks_directory.proofs.LastLemmas.{at_end}
use Rattle.coniks_directory.proofs.MirrorLemmas.{Mirrors-extended, mirrored_root}
use Rattle.coniks_directory.proofs.StateLemmas.{registry_at-append}

-- ---- the epochs before

holds-extended : (hash index_of : List ℕ → List ℕ) (nodes further : List Node) (records more : List Record) (e : Epoch) → Extends nodes further → length nodes ≤ length further
    → HoldsEpoch hash index_of (table nodes records) e → HoldsEpoch hash index_of (table further (records ++ more)) e
holds-extended hash index_of nodes further records more e grown longer h =
    let r = h.registry in
    let retained = Extends-append records more in
    record {
      known = let k = h.known in omega arith;
      counted = let c = h.counted in omega (arith, length-append records more);
      registry = record {
        entries = r.entries;
        shows = Shows-extended (hashing hash e.nonce.0) (table nodes records) (table further (records ++ more)) grown retained e.root.0 [] r.entries r.shows;
        mirrors = rw (registry_at-append records more e.count h.counted) (Mirrors-extended hash index_of records (records ++ more) r.entries _ retained r.mirrors);
      };
    }

shown-before : (records more : List Record) (es : List Epoch) → ((k : ℕ) (e : Epoch) → slice_get es k ≡ Some e → e.count ≤ length records)
    → map (shown_of (records ++ more)) es ≡ map (shown_of records) es
shown-before records more [] counted = refl
shown-before records more (e ∷ es) counted =
    rw (registry_at-append records more e.count (counted 0 e refl), shown-before records more es (λ k f at. counted (suc k) f at)) refl

-- ---- the state after an install

-- the latest epoch is the last of the numbers from the start of the chain on
pub latest_from : (hash index_of : List ℕ → List ℕ) (s : State) → Whole hash index_of s → last_number (epoch_before s.before) (numbers_of (history_of s)) ≡ latest_epoch (history_of s)
latest_from hash index_of s whole = last-from (epoch_before s.before) (numbers_of (history_of s)) (λ none.
    let long = whole.chain.long in
    let numbers = length-map (history_of s) (λ (x : Shown). x.t) in
    let empty = nil_from_length s.chain (omega (arith, long, numbers, ap length none)) in
    ap epoch_before (whole.begun empty))

abbrev pub epoch_after : State → Prepared → Root → ℕ → Epoch
epoch_after s p root t = record { t = t; version = p.version; nonce = p.nonce; root = root; count = length (records_after s p) }

abbrev pub installed : State → Prepared → List Node → Root → ℕ → Entry → State
installed s p nodes root t entry = record s {
  nodes = nodes;
  records = records_after s p;
  epochs = s.epochs ++ epoch_after s p root t ∷ [];
  chain = s.chain ++ entry ∷ [];
}

-- it is the expected state if each of its parts is
pub installed_is : (s : State) (p : Prepared) (root : Root) (t count : ℕ) (entry : Entry) (nodes : List Node) (records : List Record) (epochs : List Epoch) (chain : List Entry)
    → records ≡ records_after s p → count ≡ length records
    → epochs ≡ s.epochs ++ record { t = t; version = p.version; nonce = p.nonce; root = root; count = count } ∷ [] → chain ≡ s.chain ++ entry ∷ []
    → (let later : State = record s { nodes = nodes; records = records; epochs = epochs; chain = chain } in later ≡ installed s p nodes root t entry)
installed_is s p root t count entry nodes records epochs chain records-are counted epochs-are chain-is = cc

-- the update's part is attached, and its epoch and its entry are added
module _ (hash index_of : List ℕ → List ℕ) (s : State)
    (holds : (k : ℕ) (e : Epoch) → slice_get s.epochs k ≡ Some e → HoldsEpoch hash index_of (table s.nodes s.records) e)
    (p : Prepared) (u : IsUpdate hash index_of s p) (t : ℕ) (entry : Entry)
    (nodes : List Node) (root : Root) (longer : length s.nodes ≤ length nodes) (older : Extends s.nodes nodes) (known : root.0 < length nodes)
    (shows : (es : List Numbered) → Stands (hashing hash p.nonce.0) (table s.nodes s.records) p.part [] es → Shows (hashing hash p.nonce.0) (table nodes (records_after s p)) root.0 [] es) where
  history-installed : history_of (installed s p nodes root t entry) ≡ history_of s ++ shown_after s p t ∷ []
  history-installed =
      map-append (shown_of (records_after s p)) s.epochs (epoch_after s p root t ∷ [])
      ∙ ap (λ (ss : List Shown). ss ++ shown_after s p t ∷ []) (shown-before s.records p.records.items s.epochs (λ k e at. (holds k e at).counted))

  stored_next : HoldsEpoch hash index_of (table nodes (records_after s p)) (epoch_after s p root t)
  stored_next = record {
    known = known;
    counted = omega arith;
    registry = record { entries = u.entries; shows = shows u.entries u.stands; mirrors = u.mirrors };
  }

  pub attached_next : Attached hash index_of s (installed s p nodes root t entry) p t entry
  attached_next = record {
    stored = λ k x at. elim (get-push s.epochs (epoch_after s p root t) k x at) [
      | inl old ↦ holds-extended hash index_of s.nodes nodes s.records p.records.items x older longer (holds k x old)
      | inr new ↦ subst (HoldsEpoch hash index_of (table nodes (records_after s p))) new.1 stored_next
    ];
    last = at_end last_count (λ e. e.count) (λ e. refl) (λ x y es. refl) s.epochs (epoch_after s p root t);
    history = history-installed;
    grows = record {
      nonce = refl;
      policy = refl;
      before = refl;
      nodes = older;
      longer = longer;
      more_records = p.records.items;
      records = refl;
      more_epochs = epoch_after s p root t ∷ [];
      epochs = refl;
      still = λ none. absurd (let never = none in cc);
    };
    chain = refl;
  }

-- the entry is the next one
module _ (hash index_of : List ℕ → List ℕ) (s : State) (whole : Whole hash index_of s) (p : Prepared) (u : IsUpdate hash index_of s p)
    (t : ℕ) (later : latest_epoch (history_of s) < t) (entry : Entry) (body : IsNext hash index_of s p t entry.body)
    (nodes : List Node) (root : Root) (a : Attached hash index_of s (installed s p nodes root t entry) p t entry) where
  under_next : IsUnder (latest_version 1 (history_of s)) (latest_nonce s.nonce (history_of s)) (shown_after s p t)
  under_next = (u.new_nonce, u.rotates.version, u.rotates.nonce)

  -- it satisfies the invariant of a directory
  whole_next : Whole hash index_of (installed s p nodes root t entry)
  whole_next = record {
    stored = a.stored;
    last = a.last;
    begun = λ none. absurd (let long = simp length-append at (ap length none) in omega arith);
    rising = rw (a.history, map-append (λ (x : Shown). x.t) (history_of s) (shown_after s p t ∷ []))
        (rising-push (epoch_before s.before) (numbers_of (history_of s)) t whole.rising (rw (latest_from hash index_of s whole) later));
    under = rw a.history (under-push 1 s.nonce (history_of s) (shown_after s p t) whole.under under_next);
    chain = rw a.history (chain-push hash index_of s.policy s.before (history_of s) s.chain (shown_after s p t) entry whole.chain body);
  }

  -- a good chain stays good
  good_next : (verdict further : List ℕ → List ℕ → Bool) → ((bytes signature : List ℕ) → further bytes signature ≡ verdict bytes signature) → further (body_bytes entry.body) entry.signature.0 ≡ true
      → Continues hash verdict s.before s.chain → Continues hash further s.before (s.chain ++ entry ∷ [])
  good_next verdict further same signed good =
      let before = before_at hash s.before s.chain (length s.chain) in
      let last = is_last hash index_of s.policy s.nonce s.before (history_of s) s.chain whole.chain whole.begun in
      let known = latest-known 1 s.nonce (history_of s) (inl refl) whole.under in
      continues_push hash further s.before s.chain entry (continues_same_verdict hash verdict further same s.before s.chain good)
      (follows_next hash index_of s.policy s.nonce further (history_of s) known (shown_after s p t) later entry signed before body last under_next)

  pub left_next : Leaves hash index_of s (installed s p nodes root t entry) p t entry
  left_next = record {
    whole = whole_next;
    history = a.history;
    grows = a.grows;
    good = good_next;
  }

-- the body that an install signs is that of the epoch that it makes
pub body_is : (hash index_of : List ℕ → List ℕ) (s : State) (p : Prepared) (t latest : ℕ) (root previous : Digest) (u : IsUpdate hash index_of s p)
    → Whole hash index_of s → latest ≡ latest_epoch (history_of s)
    → ((es : List Numbered) → Stands (hashing hash p.nonce.0) (table s.nodes s.records) p.part [] es → root.0 ≡ node (hashing hash p.nonce.0) [] es)
    → previous.0 ≡ link_before (before_at hash s.before s.chain (length s.chain))
    → (let b : Body = record { version = p.version; t = t; t_prev = latest; root = root; previous = previous; nonce = p.nonce; policy = s.policy } in IsNext hash index_of s p t b)
body_is hash index_of s p t latest root previous u whole latest-is root-is previous-is =
    let epoch = latest-is ∙ sym (is_last hash index_of s.policy s.nonce s.before (history_of s) s.chain whole.chain whole.begun).epoch in
    let digest : List ℕ → Digest = λ d. record { 0 = d } in
    let rooted = ap digest (root-is u.entries u.stands ∙ mirrored_root hash index_of p.nonce.0 (records_after s p) u.entries (registry_after s p) u.mirrors) in
    let linked = ap digest previous-is in
    cc

-- ---- what an install keeps

-- the heads that were published are those of the chain, with the head of its last entry
pub published_next : (hash : List ℕ → List ℕ) (before after : BoardEnd) (chain later : List Entry) (entry : Entry) (head : Head) → before.heads ≡ heads_of hash chain
    → after ≡ board_end before.table (before.heads ++ head ∷ []) → head ≡ head_at hash entry → later ≡ chain ++ entry ∷ [] → after.heads ≡ heads_of hash later
published_next hash before after chain later entry head published put head_is later_is =
    ap (λ (e : BoardEnd). e.heads) put ∙ rw (published, head_is, later_is) (sym (map-append (head_at hash) chain (entry ∷ [])))

-- a directory in the same state, with the same hash, has retained what it had, if the signer's verdicts are those that it had
pub retained_still : {H X S : Type 0} (digest : H → List ℕ → List ℕ) (verdict_of : S → List ℕ → List ℕ → Bool) (d later : View H X) (old new : S) (publisher : BoardEnd)
    → later.state ≡ d.state → later.hash ≡ d.hash → ((bytes signature : List ℕ) → verdict_of new bytes signature ≡ verdict_of old bytes signature)
    → publisher.heads ≡ heads digest d → Keeps digest verdict_of d later old new publisher publisher
retained_still {H} {X} {S} digest verdict_of d later old new publisher same_state same_hash verdicts published =
    let state = sym same_state in
    let hash = sym same_hash in
    record {
      grows = subst (λ (s : State). Grows d.state s) state (Grows-refl d.state);
      good = λ good. subst (λ (s : State). Continues (digest later.hash) (verdict_of new) s.before s.chain) state
          (continues_same_verdict (digest later.hash) (verdict_of old) (verdict_of new) verdicts d.state.before d.state.chain
          (subst (λ (h : H). Continues (digest h) (verdict_of old) d.state.before d.state.chain) hash good));
      verdicts_retained = verdicts;
      heads = published ∙ ap (λ (h : H). heads_of (digest h) d.state.chain) hash ∙ ap (λ (s : State). heads_of (digest later.hash) s.chain) state;
      table = refl;
    }

-- what is stored in the same state, with the same link, has the link of its last entry if that was so
pub linked_still : (hash : List ℕ → List ℕ) (stored later : DirectoryState) → state_of later ≡ state_of stored → later.link ≡ stored.link → IsLinked hash stored → IsLinked hash later
linked_still hash stored later same link linked =
    ap (λ (d : Digest). d.0) link ∙ linked
    ∙ ap (λ (s : State). link_before (before_at hash s.before s.chain (length s.chain))) (sym same)

-- and it follows, whatever entry was to be added
pub follows_still : {H X : Type 0} (digest : H → List ℕ → List ℕ) (d later : View H X) (entry : Entry) → later.state ≡ d.state → later.hash ≡ d.hash → Follows digest d later entry
follows_still {H} {X} digest d later entry same_state same_hash = record {
  grows = subst (λ (s : State). Grows d.state s) (sym same_state) (Grows-refl d.state);
  good = λ verdict signed good. subst (λ (s : State). Continues (digest later.hash) verdict s.before s.chain) (sym same_state)
      (subst (λ (h : H). Continues (digest h) verdict d.state.before d.state.chain) (sym same_hash) good);
}
