-- A shared honest auditor, and what both clients have of its chain.
use Rattle.std.proofs.Common.{◌≡◌, ◌≢◌, ℕ, suc, ◌+◌, ◌-◌, ◌<◌, ◌≤◌, List, ◌++◌, length, Option, Some, None, sym, ap, subst, ◌∙◌, ◌⊎◌, inl, inr, ⊎_elim, arith, get_or, max, take, nat_le}
use Rattle.std.specs.List.{slice_get}
use Rattle.std.specs.Option.{option_map}
use Rattle.std.proofs.lemmas.List.{length-take-le}
use Rattle.std.proofs.lemmas.Option.{slice_get_within, slice_get-get_or, same_Some}
use Rattle.std.proofs.lemmas.Bool.{cases_eq, cases_lt, leb-true}
use Rattle.coniks_proof.specs.declared.values.Head.{Head}
use Rattle.coniks_chain.specs.Chain.{Follows, GoodChain, auditor_after}
use Rattle.coniks_chain.specs.Fork.{EndsWith, IsFork}
use Rattle.coniks_chain.specs.declared.auditor.AuditorState.{AuditorState}
use Rattle.coniks_chain.specs.declared.auditor.AuditFault.TheVariants.{PreviousEpoch}
use Rattle.coniks_chain.specs.declared.entry.Entry.{Entry}
use Rattle.coniks_chain.proofs.Lemmas.{row}
use Rattle.coniks_client.specs.Comparing.{HasHead}
use Rattle.coniks_client.specs.Changes.{expected}
use Rattle.coniks_client.specs.StoredEntry.{entries_in, entry_in, epoch_in, verified_before}
use Rattle.coniks_client.specs.Owner.{IsShown}
use Rattle.coniks_client.specs.declared.stored.StoredEntry.{StoredEntry}
use Rattle.coniks_client.proofs.Lemmas.{increasing, walk, ends, linked_of, stored_of, entry_at, one_entry}
use Rattle.coniks_quorum.specs.Auditors.{Auditor, HasEntry, IsGood, WasCosigned}
use Rattle.coniks_quorum.specs.Marks.{AreMarks, HasMark, IsRaised}
use Rattle.coniks_quorum.specs.Laws.{AgreeLaw, Forks, GrowLaw, LeftLaw, OwnerQuorumLaw, PlaceLaw, QuorumLaw, StandsOn, WatcherQuorumLaw}
use Rattle.coniks_quorum.proofs.CountLemmas.{InAll, count-not, in_all}
use Rattle.coniks_quorum.proofs.ListLemmas.{get-append_left, get-append_right, get-take, of_take}

module _ (hash : List ℕ → List ℕ) where
  abbrev IsLinked : List Entry → Type 0
  IsLinked es = (k : ℕ) (d e : Entry) → slice_get es k ≡ Some d → slice_get es (suc k) ≡ Some e → Follows verified_before (Some (auditor_after hash d)) e

  linked-take : (es : List Entry) (n : ℕ) → IsLinked es → IsLinked (take n es)
  linked-take es n chain = λ k d e at_d at_e. chain k d e (of_take es n k d at_d) (of_take es n (suc k) e at_e)

  -- a good chain is linked, and begins after epoch 0
  good-linked : (es : List Entry) → GoodChain hash verified_before es → IsLinked es
  good-linked es chain = λ k d e at_d at_e.
      subst (λ (b : Option AuditorState). Follows verified_before b e) (ap (option_map (auditor_after hash)) at_d) (chain (suc k) e at_e)

  good-begins : (es : List Entry) → GoodChain hash verified_before es → (e : Entry) → slice_get es 0 ≡ Some e → e.body.t_prev ≡ 0
  good-begins es chain e at = row verified_before None e (chain 0 e at) PreviousEpoch

  -- the entries up to one that has a head end in it
  ends_at : (es : List Entry) (head : Head) (x : HasEntry hash es head) → EndsWith hash (take (suc x.place) es) head.link.0
  ends_at es head x =
      let within = slice_get_within es x.place x.entry x.there in
      let size : length (take (suc x.place) es) ≡ suc x.place = length-take-le (suc x.place) es (omega arith) in
      let last : length (take (suc x.place) es) - 1 ≡ x.place = omega arith in
      record {
        last = x.entry;
        there = ap (slice_get (take (suc x.place) es)) last ∙ get-take es (suc x.place) x.place (omega arith) ∙ x.there;
        linked = x.link;
      }

  -- a place of an entry that is not later than another one
  pub not_after : (es : List Entry) → IsLinked es → (i j : ℕ) (e f : Entry) → slice_get es i ≡ Some e → slice_get es j ≡ Some f → e.body.t ≤ f.body.t → i ≤ j
  not_after es chain i j e f at_e at_f le = ⊎_elim
      (λ (less : j < i). let more = increasing hash es chain j i f e at_f at_e less in absurd (omega arith))
      (λ (is : i ≤ j). is)
      (cases_lt j i)

  -- of two lists that have one head, the first one has each entry of the second one up to it, or they fork
  reach : (xs ys : List Entry) → IsLinked xs → IsLinked ys → (head : Head) → HasEntry hash xs head → HasEntry hash ys head
      → (q : ℕ) (f : Entry) → slice_get ys q ≡ Some f → f.body.t ≤ head.epoch
      → ((e : Entry) → slice_get xs 0 ≡ Some e → (e.body.t ≤ f.body.t) ⊎ (e.body.t_prev < f.body.t))
      → ((p : ℕ) × (slice_get xs p ≡ Some f)) ⊎ Forks hash xs ys
  reach xs ys chain_x chain_y head x y q f at_f le low =
      let tx = take (suc x.place) xs in
      let ty = take (suc y.place) ys in
      let end_x = ends_at xs head x in
      let end_y = ends_at ys head y in
      let within = slice_get_within ys y.place y.entry y.there in
      let size : length ty ≡ suc y.place = length-take-le (suc y.place) ys (omega arith) in
      let epoch = y.epoch in
      let before = not_after ys chain_y q y.place f y.entry at_f y.there (omega arith) in
      let at : slice_get ty q ≡ Some f = get-take ys (suc y.place) q (omega arith) ∙ at_f in
      let low_take : (e : Entry) → slice_get tx 0 ≡ Some e → (e.body.t ≤ f.body.t) ⊎ (e.body.t_prev < f.body.t) =
      λ e at_e. low e (of_take xs (suc x.place) 0 e at_e) in
      let reached = walk hash tx ty (linked-take xs (suc x.place) chain_x) (linked-take ys (suc y.place) chain_y) q f at low_take
      (length tx - 1) (length ty - 1) end_x.last end_y.last (ends hash tx ty head.link.0 end_x end_y) (end_x.linked ∙ sym end_y.linked) (omega arith) in
      ⊎_elim
      (λ (found : (p : ℕ) × (slice_get tx p ≡ Some f)). inl (found.0, of_take xs (suc x.place) found.0 f found.1))
      (λ (fork : (e : Entry) × (g : Entry) × IsFork hash tx ty e g). inr (suc x.place, suc y.place, fork.0, fork.1, fork.2))
      reached

  -- a stored epoch that has a head is an entry that has it
  entry_of : (stored : List StoredEntry) (k : ℕ) (mine : StoredEntry) (head : Head) → slice_get stored k ≡ Some mine → HasHead hash mine head → HasEntry hash (entries_in stored) head
  entry_of stored k mine head at has = record { place = k; entry = entry_in mine; there = entry_at stored k mine at; epoch = has.epoch; link = has.link }

-- what a mark of an honest auditor says
stands : (hash : List ℕ → List ℕ) (auditor : Auditor) (accepted : List StoredEntry) (mark e : ℕ) → IsGood hash auditor → HasMark hash accepted auditor mark → e ≤ mark
    → StandsOn hash auditor accepted e
stands hash auditor accepted mark e good has le = let epoch = has.epoch in record {
  head = has.head;
  place = has.place;
  mine = has.mine;
  there = has.there;
  has = has.has;
  late = omega arith;
  entry = good.only has.cosigned.0 has.head has.cosigned.1;
}

pub quorum : QuorumLaw
quorum hash n f k l auditors alice bob of_a of_b to_a to_b enough are a b =
    let size_a = a.marked.size in
    let size_b = b.marked.size in
    let number = are.number in
    let few = are.few in
    let some_a = a.enough in
    let some_b = b.enough in
    let above_a = a.above in
    let above_b = b.above in
    let all = count-not (λ (x : Auditor). x.honest) auditors in
    let found : InAll (λ (m : ℕ). nat_le to_a m) (λ (m : ℕ). nat_le to_b m) (λ (x : Auditor). x.honest) of_a of_b auditors =
    in_all (λ (m : ℕ). nat_le to_a m) (λ (m : ℕ). nat_le to_b m) (λ (x : Auditor). x.honest) of_a of_b auditors size_a size_b (omega arith) in
    let le_a = leb-true to_a found.x found.is_p in
    let le_b = leb-true to_b found.y found.is_q in
    let good = are.good found.place found.z found.at_z found.is_r in
    record {
      place = found.place;
      auditor = found.z;
      there = found.at_z;
      honest = found.is_r;
      good = good;
      hers = stands hash found.z alice found.x to_a good (a.marked.each found.place found.z found.x found.at_z found.at_x (omega arith)) le_a;
      his = stands hash found.z bob found.y to_b good (b.marked.each found.place found.z found.y found.at_z found.at_y (omega arith)) le_b;
    }

pub place : PlaceLaw
place hash auditor accepted epoch k mine good chain on at above le =
    let late = on.late in
    let low : (e : Entry) → slice_get auditor.entries 0 ≡ Some e → (e.body.t ≤ epoch_in mine) ⊎ (e.body.t_prev < epoch_in mine) =
    λ e at_e. let zero_first = good-begins hash auditor.entries good.chain e at_e in inr (omega arith) in
    reach hash auditor.entries (entries_in accepted) (good-linked hash auditor.entries good.chain) (linked_of hash accepted chain)
    on.head on.entry (entry_of hash accepted on.place on.mine on.head on.there on.has) k (entry_in mine) (entry_at accepted k mine at) (omega arith) low

pub agree : AgreeLaw
agree hash n f k l auditors alice bob of_a of_b to_a to_b at his enough are a b chain_a chain_b there above le_a le_b begins =
    let both = quorum hash n f k l auditors alice bob of_a of_b to_a to_b enough are a b in
    let auditor = both.auditor in
    let late = both.hers.late in
    ⊎_elim
    (λ (found : (p : ℕ) × (slice_get auditor.entries p ≡ Some (entry_in his))).
    let low : (e : Entry) → slice_get (entries_in alice) 0 ≡ Some e → (e.body.t ≤ epoch_in his) ⊎ (e.body.t_prev < epoch_in his) = λ e at_e.
    let first = stored_of alice 0 e at_e in
    let le = begins first.0 first.1 in
    let epoch : epoch_in first.0 ≡ e.body.t = ap (λ (x : Entry). x.body.t) first.2 in
    inl (omega arith) in
    ⊎_elim
    (λ (hers : (p : ℕ) × (slice_get (entries_in alice) p ≡ Some (entry_in his))).
    let mine = stored_of alice hers.0 (entry_in his) hers.1 in
    inl (hers.0, mine.0, mine.1, mine.2))
    (λ fork. inr (both.place, auditor, both.there, both.honest, inl fork))
    (reach hash (entries_in alice) auditor.entries (linked_of hash alice chain_a) (good-linked hash auditor.entries both.good.chain)
    both.hers.head (entry_of hash alice both.hers.place both.hers.mine both.hers.head both.hers.there both.hers.has) both.hers.entry
    found.0 (entry_in his) found.1 (omega arith) low))
    (λ fork. inr (both.place, auditor, both.there, both.honest, inr fork))
    (place hash auditor bob to_b at his both.good chain_b both.his there above le_b)

pub owner : OwnerQuorumLaw
owner hash n f k l auditors alice bob of_a of_b to_a to_b scheme name wanted first last at his answer enough are a b owns upto chain_b there le_b above from to shown =
    let begins : (mine : StoredEntry) → slice_get alice 0 ≡ Some mine → epoch_in mine ≤ epoch_in his = λ mine at_m. let le = owns.begins mine at_m in omega arith in
    ⊎_elim
    (λ (found : (p : ℕ) × (hers : StoredEntry) × (slice_get alice p ≡ Some hers) × (entry_in hers ≡ entry_in his)).
    let epoch : epoch_in found.1 ≡ epoch_in his = ap (λ (x : Entry). x.body.t) found.3 in
    let same = owns.same found.0 found.1 found.2 (omega arith) (omega arith) in
    let backed = owns.backed found.0 found.1 found.2 same in
    let by_entry = subst (λ (x : Entry). IsShown hash scheme x name (wanted (epoch_in found.1))) found.3 backed in
    let hers_shown = subst (λ (t : ℕ). IsShown hash scheme (entry_in his) name (wanted t)) epoch by_entry in
    ⊎_elim (λ equal. inl equal) (λ two. inr (inr two)) (one_entry hash scheme (entry_in his) name answer (wanted (epoch_in his)) shown hers_shown))
    (λ fork. inr (inl fork))
    (agree hash n f k l auditors alice bob of_a of_b to_a to_b at his enough are a b owns.chain chain_b there (omega arith) (omega arith) le_b begins)

pub watcher : WatcherQuorumLaw
watcher hash n f k l auditors alice bob of_a of_b to_a to_b scheme name key changes first last at his answer enough are a b owns upto chain_b there le_b above from to shown =
    owner hash n f k l auditors alice bob of_a of_b to_a to_b scheme name (expected key changes) first last at his answer enough are a b
    (record { chain = owns.chain; begins = owns.begins; same = owns.same; backed = owns.watched.backed }) upto chain_b there le_b above from to shown

-- a mark of some stored epochs is one of more
pub more : (hash : List ℕ → List ℕ) (few all : List StoredEntry) → ((k : ℕ) (x : StoredEntry) → slice_get few k ≡ Some x → (j : ℕ) × (slice_get all j ≡ Some x))
    → (auditor : Auditor) (mark : ℕ) → HasMark hash few auditor mark → HasMark hash all auditor mark
more hash few all within auditor mark has =
    let there = within has.place has.mine has.there in
    record { head = has.head; cosigned = has.cosigned; place = there.0; mine = has.mine; there = there.1; has = has.has; epoch = has.epoch }

pub grow : GrowLaw
grow hash auditors accepted later marks are = record {
  size = are.size;
  each = λ i auditor mark at_a at_m above. more hash accepted (accepted ++ later)
      (λ k x at. (k, get-append_left accepted later k (slice_get_within accepted k x at) ∙ at)) auditor mark (are.each i auditor mark at_a at_m above);
}

pub left : LeftLaw
left hash auditors dropped stored marks are = record {
  size = are.size;
  each = λ i auditor mark at_a at_m above. more hash stored (dropped ++ stored) (λ k x at. (length dropped + k, get-append_right dropped stored k ∙ at)) auditor mark
      (are.each i auditor mark at_a at_m above);
}

-- an equal head that the auditor cosigned is a right mark
pub raised : (hash : List ℕ → List ℕ) (auditors : List Auditor) (dropped stored : List StoredEntry) (old new : List ℕ) (at : ℕ) (head : Head) (found : ℕ)
    → at < length old → IsRaised old new at head.epoch
    → (mine : StoredEntry) × (slice_get stored found ≡ Some mine) × HasHead hash mine head
    → WasCosigned auditors at head → AreMarks hash auditors (dropped ++ stored) old → AreMarks hash auditors (dropped ++ stored) new
raised hash auditors dropped stored old new at head found within is equal cosigned are = record {
  size = is.size ∙ are.size;
  each = λ i auditor mark at_a at_m above. ⊎_elim
      (λ (here : i ≡ at).
      let was = get_or old at 0 in
      let there : slice_get old at ≡ Some was = slice_get-get_or old at 0 within in
      let now : max was head.epoch ≡ mark = same_Some (max was head.epoch) mark (sym (is.here was there) ∙ ap (slice_get new) (sym here) ∙ at_m) in
      let signed = cosigned auditor (ap (slice_get auditors) (sym here) ∙ at_a) in
      ⊎_elim
      (λ (less : was < head.epoch).
      record {
        head = head;
        cosigned = signed;
        place = length dropped + found;
        mine = equal.0;
        there = get-append_right dropped stored found ∙ equal.1;
        has = equal.2;
        epoch = omega arith;
      })
      (λ (le : head.epoch ≤ was).
      let same : was ≡ mark = omega arith in
      are.each i auditor mark at_a (ap (slice_get old) here ∙ there ∙ ap (λ (m : ℕ). Some m) same) above)
      (cases_lt was head.epoch))
      (λ (apart : i ≢ at). are.each i auditor mark at_a (sym (is.others i apart) ∙ at_m) above)
      (cases_eq i at);
}
