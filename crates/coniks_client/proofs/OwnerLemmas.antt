-- Two chains that end in one head, walked down to an epoch.
use Rattle.std.proofs.Common.{◌≡◌, ◌≢◌, ℕ, zero, suc, ◌-◌, ◌<◌, ◌≤◌, List, [], ◌∷◌, length, Option, Some, None, refl, sym, ap, subst, ◌∙◌, ◌⊎◌, inl, inr, ⊎_elim, arith, get_or, drop}
use Rattle.std.specs.List.{slice_get}
use Rattle.std.specs.Option.{option_map}
use Rattle.std.proofs.lemmas.Option.{slice_get_within, slice_get-get_or, slice_get-map, same_Some}
use Rattle.std.proofs.lemmas.Bool.{cases_lt}
use Rattle.std.proofs.Math.Seq.{drop-cons}
use Rattle.coniks_proof.specs.Hashing.{hashing}
use Rattle.coniks_proof.specs.Proofs.{Accepts, answer_of}
use Rattle.coniks_chain.specs.Chain.{Follows, auditor_after}
use Rattle.coniks_chain.specs.Entries.{link_preimage}
use Rattle.coniks_chain.specs.Fork.{EndsWith, IsFork, Stand}
use Rattle.coniks_chain.specs.declared.entry.Entry.{Entry}
use Rattle.coniks_chain.specs.declared.auditor.AuditFault.TheVariants.{NotLater, PreviousEpoch, PreviousLink}
use Rattle.coniks_chain.proofs.Lemmas.{row, decide_entry, decide_list}
use Rattle.coniks_client.specs.Changes.{expected}
use Rattle.coniks_client.specs.StoredEntry.{IsChain, entries_in, entry_in, epoch_in, verified_before}
use Rattle.coniks_client.specs.Owner.{Fork, IsOwner, IsShown, OwnerLaw, OwnerLawOfFunctions, Scheme, TwoAnswers, TwoIndices}
use Rattle.coniks_client.specs.declared.stored.StoredEntry.{StoredEntry}

-- the stored entry at a place
stored_at : (stored : List StoredEntry) (k : ℕ) (e : Entry) (found : Option StoredEntry) → slice_get stored k ≡ found → option_map entry_in found ≡ Some e
    → (mine : StoredEntry) × (slice_get stored k ≡ Some mine) × (entry_in mine ≡ e)
stored_at stored k e None at is = absurd (cc)
stored_at stored k e (Some mine) at is = (mine, at, same_Some (entry_in mine) e is)

pub entry_at : (stored : List StoredEntry) (k : ℕ) (mine : StoredEntry) → slice_get stored k ≡ Some mine → slice_get (entries_in stored) k ≡ Some (entry_in mine)
entry_at stored k mine at = slice_get-map entry_in stored k ∙ ap (option_map entry_in) at

pub stored_of : (stored : List StoredEntry) (k : ℕ) (e : Entry) → slice_get (entries_in stored) k ≡ Some e → (mine : StoredEntry) × (slice_get stored k ≡ Some mine) × (entry_in mine ≡ e)
stored_of stored k e at = stored_at stored k e (slice_get stored k) refl (sym (slice_get-map entry_in stored k) ∙ at)

module _ (hash : List ℕ → List ℕ) where
  -- each entry follows the one before it
  abbrev pub IsLinked : List Entry → Type 0
  IsLinked es = (k : ℕ) (d e : Entry) → slice_get es k ≡ Some d → slice_get es (suc k) ≡ Some e → Follows verified_before (Some (auditor_after hash d)) e

  pub linked_of : (stored : List StoredEntry) → IsChain hash stored → IsLinked (entries_in stored)
  linked_of stored chain = λ k d e at_d at_e.
      let before = stored_of stored k d at_d in
      let mine = stored_of stored (suc k) e at_e in
      let follows = chain k before.0 mine.0 before.1 mine.1 in
      subst (λ (x : Entry). Follows verified_before (Some (auditor_after hash d)) x) mine.2
      (subst (λ (x : Entry). Follows verified_before (Some (auditor_after hash x)) (entry_in mine.0)) before.2 follows)

  -- an entry and the one before it
  preceded : (es : List Entry) → IsLinked es → (m : ℕ) (e : Entry) → slice_get es (suc m) ≡ Some e
      → (d : Entry) × (slice_get es m ≡ Some d) × (d.body.t < e.body.t) × (e.body.previous.0 ≡ hash (link_preimage d)) × (e.body.t_prev ≡ d.body.t)
  preceded es chain m e at =
      let within = slice_get_within es (suc m) e at in
      let short : m < length es = omega arith in
      let there : slice_get es m ≡ Some (get_or es m e) = slice_get-get_or es m e short in
      let follows = chain m (get_or es m e) e there at in (
        get_or es m e,
        there,
        row verified_before (Some (auditor_after hash (get_or es m e))) e follows NotLater,
        row verified_before (Some (auditor_after hash (get_or es m e))) e follows PreviousLink,
        row verified_before (Some (auditor_after hash (get_or es m e))) e follows PreviousEpoch,
      )

  -- later entries have greater epochs
  pub increasing : (es : List Entry) → IsLinked es → (i j : ℕ) (e f : Entry) → slice_get es i ≡ Some e → slice_get es j ≡ Some f → i < j → e.body.t < f.body.t
  increasing es chain i zero e f at_i at_j less = absurd (omega arith)
  increasing es chain i (suc m) e f at_i at_j less =
      let before = preceded es chain m f at_j in
      ⊎_elim
      (λ (more : i < m). let earlier = increasing es chain i m e before.0 at_i before.1 more in let later = before.2 in omega arith)
      (λ (le : m ≤ i).
      let here : m ≡ i = omega arith in
      let same : before.0 ≡ e = same_Some before.0 e (sym before.1 ∙ ap (slice_get es) here ∙ at_i) in
      subst (λ (x : Entry). x.body.t < f.body.t) same before.2)
      (cases_lt i m)

  module _ (xs ys : List Entry) (chain_x : IsLinked xs) (chain_y : IsLinked ys) (q : ℕ) (f : Entry) (at_f : slice_get ys q ≡ Some f)
      (low : (e : Entry) → slice_get xs 0 ≡ Some e → (e.body.t ≤ f.body.t) ⊎ (e.body.t_prev < f.body.t)) where
    abbrev pub Reached : Type 0
    Reached = ((p : ℕ) × (slice_get xs p ≡ Some f)) ⊎ ((e g : Entry) × IsFork hash xs ys e g)

    -- at one place of both the entry is reached, or they fork
    decided : (i j : ℕ) (e g : Entry) → Stand xs ys i j e g → hash (link_preimage e) ≡ hash (link_preimage g) → ((e ≡ g) → Reached) → Reached
    decided i j e g stand linked same = ⊎_elim same
        (λ (differ : e ≢ g). inr (e, g, record { i = i; j = j; stand = stand; differ = differ; linked = linked }))
        (decide_entry e g)

    here : (i j : ℕ) (e g : Entry) → Stand xs ys i j e g → e ≡ g → q ≡ j → Reached
    here i j e g stand same at =
        let is : g ≡ f = same_Some g f (sym stand.right ∙ ap (slice_get ys) (sym at) ∙ at_f) in
        inl (i, stand.left ∙ ap (λ (x : Entry). Some x) (same ∙ is))

    -- an entry of the second list that is above the requested one is later
    later : (j : ℕ) (g : Entry) → slice_get ys j ≡ Some g → q < j → f.body.t < g.body.t
    later j g at less = increasing ys chain_y q j f g at_f at less

    -- one at it or above it is not earlier
    not_earlier : (j : ℕ) (g : Entry) → slice_get ys j ≡ Some g → q ≤ j → f.body.t ≤ g.body.t
    not_earlier j g at le = ⊎_elim
        (λ (less : q < j). let more = later j g at less in omega arith)
        (λ (ge : j ≤ q).
        let here : q ≡ j = omega arith in
        let same : g ≡ f = same_Some g f (sym at ∙ ap (slice_get ys) (sym here) ∙ at_f) in
        let epoch : g.body.t ≡ f.body.t = ap (λ (x : Entry). x.body.t) same in
        omega arith)
        (cases_lt q j)

    -- the places before two equal entries
    down : (i j : ℕ) (e g d h : Entry) → Stand xs ys (suc i) (suc j) e g → e ≡ g → slice_get xs i ≡ Some d → slice_get ys j ≡ Some h → Stand xs ys i j d h
    down i j e g d h stand same at_d at_h =
        let in_x = slice_get_within xs (suc i) e stand.left in
        let in_y = slice_get_within ys (suc j) g stand.right in
        let first_x : get_or xs (suc i) e ≡ e = same_Some (get_or xs (suc i) e) e (sym (slice_get-get_or xs (suc i) e in_x) ∙ stand.left) in
        let first_y : get_or ys (suc j) e ≡ g = same_Some (get_or ys (suc j) e) g (sym (slice_get-get_or ys (suc j) e in_y) ∙ stand.right) in
        record {
          left = at_d;
          right = at_h;
          rest = drop-cons xs (suc i) e in_x ∙ ap (λ (x : Entry). x ∷ drop (suc (suc i)) xs) (first_x ∙ same ∙ sym first_y)
              ∙ ap (λ (es : List Entry). get_or ys (suc j) e ∷ es) stand.rest ∙ sym (drop-cons ys (suc j) e in_y);
        }

    -- the first list has the entry too, or the lists fork at it or above it
    pub walk : (i j : ℕ) (e g : Entry) → Stand xs ys i j e g → hash (link_preimage e) ≡ hash (link_preimage g) → q ≤ j → Reached
    walk i zero e g stand linked above = decided i zero e g stand linked (λ same. here i zero e g stand same (omega arith))
    walk zero (suc m) e g stand linked above = decided zero (suc m) e g stand linked (λ same. ⊎_elim
        (λ (less : q < suc m).
        let more = later (suc m) g stand.right less in
        let before = preceded ys chain_y m g stand.right in
        let above_it = not_earlier m before.0 before.1 (omega arith) in
        let epoch : e.body.t ≡ g.body.t = ap (λ (x : Entry). x.body.t) same in
        let previous : e.body.t_prev ≡ g.body.t_prev = ap (λ (x : Entry). x.body.t_prev) same in
        let is_before = before.4 in
        absurd (⊎_elim (λ (le : e.body.t ≤ f.body.t). omega arith) (λ (less_too : e.body.t_prev < f.body.t). omega arith) (low e stand.left)))
        (λ (le : suc m ≤ q). here zero (suc m) e g stand same (omega arith))
        (cases_lt q (suc m)))
    walk (suc l) (suc m) e g stand linked above = decided (suc l) (suc m) e g stand linked (λ same. ⊎_elim
        (λ (less : q < suc m).
        let left = preceded xs chain_x l e stand.left in
        let right = preceded ys chain_y m g stand.right in
        let link : hash (link_preimage left.0) ≡ hash (link_preimage right.0) = sym left.3 ∙ ap (λ (x : Entry). x.body.previous.0) same ∙ right.3 in
        walk l m left.0 right.0 (down l m e g left.0 right.0 stand same left.1 right.1) link (omega arith))
        (λ (le : suc m ≤ q). here (suc l) (suc m) e g stand same (omega arith))
        (cases_lt q (suc m)))

-- the entries at the ends of two lists
pub ends : (hash : List ℕ → List ℕ) (xs ys : List Entry) (head : List ℕ) (x : EndsWith hash xs head) (y : EndsWith hash ys head)
    → Stand xs ys (length xs - 1) (length ys - 1) x.last y.last
ends hash xs ys head x y =
    let in_x = slice_get_within xs (length xs - 1) x.last x.there in
    let in_y = slice_get_within ys (length ys - 1) y.last y.there in
    record {
      left = x.there;
      right = y.there;
      rest = drop_past xs (suc (length xs - 1)) (omega arith) ∙ sym (drop_past ys (suc (length ys - 1)) (omega arith));
    }
  where
    drop_past : (es : List Entry) (n : ℕ) → length es ≤ n → drop n es ≡ []
    drop_past [] zero le = refl
    drop_past [] (suc n) le = refl
    drop_past (e ∷ es) zero le = absurd (omega arith)
    drop_past (e ∷ es) (suc n) le = drop_past es n (omega arith)

pub decide_ℕ : (m n : ℕ) → (m ≡ n) ⊎ (m ≢ n)
decide_ℕ m n = ⊎_elim (λ (less : m < n). inr (λ (e : m ≡ n). omega arith))
    (λ (le : n ≤ m). ⊎_elim (λ (more : n < m). inr (λ (e : m ≡ n). omega arith)) (λ (ge : m ≤ n). inl (omega arith)) (cases_lt n m)) (cases_lt m n)

decide_answer : (a b : Option (List ℕ)) → (a ≡ b) ⊎ (a ≢ b)
decide_answer None None = inl refl
decide_answer None (Some y) = inr (λ e. cc)
decide_answer (Some x) None = inr (λ e. cc)
decide_answer (Some x) (Some y) = ⊎_elim (λ same. inl (ap (λ (k : List ℕ). Some k) same)) (λ apart. inr (λ e. apart (cc))) (decide_list decide_ℕ x y)

-- two answers under one entry are equal, or two proofs under it disagree, or the name has two indices
pub one_entry : (hash : List ℕ → List ℕ) (scheme : Scheme) (entry : Entry) (name : List ℕ) (a b : Option (List ℕ))
    → IsShown hash scheme entry name a → IsShown hash scheme entry name b → (a ≡ b) ⊎ TwoAnswers hash entry name ⊎ TwoIndices scheme name
one_entry hash scheme entry name a b of_a of_b = ⊎_elim
    (λ (index : of_b.index ≡ of_a.index).
    let by = hashing hash entry.body.nonce.0 in
    let left : Accepts by entry.body.root.0 of_a.index name of_a.proof (answer_of of_a.proof.end) =
    subst (λ (x : Option (List ℕ)). Accepts by entry.body.root.0 of_a.index name of_a.proof x) (sym of_a.accepted.answered) of_a.accepted in
    let same_index : Accepts by entry.body.root.0 of_a.index name of_b.proof b =
    subst (λ (i : List ℕ). Accepts by entry.body.root.0 i name of_b.proof b) index of_b.accepted in
    let right : Accepts by entry.body.root.0 of_a.index name of_b.proof (answer_of of_b.proof.end) =
    subst (λ (x : Option (List ℕ)). Accepts by entry.body.root.0 of_a.index name of_b.proof x) (sym of_b.accepted.answered) same_index in
    ⊎_elim (λ same. inl same)
    (λ differ. inr (inl (
      of_a.index,
      of_a.proof,
      of_b.proof,
      record {
        left = left;
        right = right;
        differ = λ (e : answer_of of_a.proof.end ≡ answer_of of_b.proof.end). differ (sym of_a.accepted.answered ∙ e ∙ of_b.accepted.answered);
      },
    )))
    (decide_answer a b))
    (λ (apart : of_b.index ≢ of_a.index). inr (inr (of_b.vrf, of_a.vrf, of_b.index, of_a.index, of_b.indexed, of_a.indexed, apart)))
    (decide_list decide_ℕ of_b.index of_a.index)

owner_of_expected : (hash : List ℕ → List ℕ) (scheme : Scheme) (name : List ℕ) (expected : ℕ → Option (List ℕ)) (first last : ℕ)
    (alice bob : List StoredEntry) (head : List ℕ) (place : ℕ) (his : StoredEntry) (answer : Option (List ℕ))
    → IsOwner hash scheme name expected first last alice → EndsWith hash (entries_in alice) head
    → IsChain hash bob → EndsWith hash (entries_in bob) head
    → slice_get bob place ≡ Some his → first ≤ epoch_in his → epoch_in his ≤ last
    → IsShown hash scheme (entry_in his) name answer
    → (answer ≡ expected (epoch_in his)) ⊎ Fork hash alice bob ⊎ TwoAnswers hash (entry_in his) name ⊎ TwoIndices scheme name
owner_of_expected hash scheme name expected first last alice bob head place his answer owns end_a chain_b end_b at from to shown =
    let xs = entries_in alice in
    let ys = entries_in bob in
    let at_f = entry_at bob place his at in
    let within = slice_get_within ys place (entry_in his) at_f in
    let low : (e : Entry) → slice_get xs 0 ≡ Some e → (e.body.t ≤ epoch_in his) ⊎ (e.body.t_prev < epoch_in his) = λ e at_e.
    let mine = stored_of alice 0 e at_e in
    let begins = owns.begins mine.0 mine.1 in
    let epoch : epoch_in mine.0 ≡ e.body.t = ap (λ (x : Entry). x.body.t) mine.2 in
    inl (omega arith) in
    let reached = walk hash xs ys (linked_of hash alice owns.chain) (linked_of hash bob chain_b) place (entry_in his) at_f low
    (length xs - 1) (length ys - 1) end_a.last end_b.last (ends hash xs ys head end_a end_b) (end_a.linked ∙ sym end_b.linked) (omega arith) in
    ⊎_elim
    (λ (found : (p : ℕ) × (slice_get xs p ≡ Some (entry_in his))).
    let mine = stored_of alice found.0 (entry_in his) found.1 in
    let epoch : epoch_in mine.0 ≡ epoch_in his = ap (λ (x : Entry). x.body.t) mine.2 in
    let same = owns.same found.0 mine.0 mine.1 (omega arith) (omega arith) in
    let backed = owns.backed found.0 mine.0 mine.1 same in
    let by_entry = subst (λ (x : Entry). IsShown hash scheme x name (expected (epoch_in mine.0))) mine.2 backed in
    let mine_shown = subst (λ (t : ℕ). IsShown hash scheme (entry_in his) name (expected t)) epoch by_entry in
    ⊎_elim (λ equal. inl equal) (λ two. inr (inr two)) (one_entry hash scheme (entry_in his) name answer (expected (epoch_in his)) shown mine_shown))
    (λ fork. inr (inl fork))
    reached

pub owner : OwnerLaw
owner hash scheme name key changes first last alice bob head place his answer owns end_a chain_b end_b at from to shown =
    owner_of_expected hash scheme name (expected key changes) first last alice bob head place his answer
    (record { chain = owns.chain; begins = owns.begins; same = owns.same; backed = owns.watched.backed }) end_a chain_b end_b at from to shown

pub owner_of_functions : OwnerLawOfFunctions
owner_of_functions hash scheme name key changes first last alice bob head place his answer once owns end_a chain_b end_b at from to shown = ⊎_elim
    (λ equal. inl equal)
    (λ rest. ⊎_elim
    (λ fork. inr (inl fork))
    (λ others. ⊎_elim
    (λ two. inr (inr two))
    (λ indices. absurd (indices.6 (once name indices.0 indices.1 indices.2 indices.3 indices.4 indices.5)))
    others)
    rest)
    (owner hash scheme name key changes first last alice bob head place his answer owns end_a chain_b end_b at from to shown)
