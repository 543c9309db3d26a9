-- What is found in two records, stage by stage.
use Rattle.std.proofs.Common.{◌≡◌, ◌≢◌, ℕ, suc, ◌<◌, get_or, length, List, Option, Some, sym, ap, subst, ◌∙◌, inl, inr, take}
use Rattle.std.specs.List.{slice_get}
use Rattle.std.proofs.lemmas.Option.{same_Some, slice_get-get_or}
use Rattle.coniks_proof.specs.Proofs.{stated}
use Rattle.coniks_proof.specs.declared.values.Head.{Head}
use Rattle.coniks_proof.specs.declared.values.Index.{Index}
use Rattle.coniks_chain.specs.Entries.{IsEntry, link_preimage}
use Rattle.coniks_chain.specs.Fork.{HasNoFork}
use Rattle.coniks_chain.specs.declared.entry.Entry.{Entry}
use Rattle.coniks_client.specs.StoredEntry.{entries_in, entry_in}
use Rattle.coniks_client.specs.Owner.{Scheme}
use Rattle.coniks_client.specs.declared.stored.StoredEntry.{StoredEntry}
use Rattle.coniks_client.proofs.Lemmas.{stored_of, of_take}
use Rattle.coniks_evidence.specs.Findings.{Collides, Convicts, Finds, FindsIn, FindsOf, IsTrueOf}
use Rattle.coniks_evidence.specs.Honest.{AreHonest, IsCalm, IsHashed, IsLinked}
use Rattle.coniks_evidence.specs.Records.{IsFound, IsUpTo, expected_by}
use Rattle.coniks_evidence.specs.declared.findings.Finding.{Finding}
use Rattle.coniks_evidence.specs.declared.findings.Finding.TheVariants.{Same, Links, Nodes, Indices, Nothing}
use Rattle.coniks_evidence.specs.declared.findings.Indexed.{Indexed}
use Rattle.coniks_evidence.specs.declared.findings.Reason.TheVariants.{OwnerHead, ContactHead, OwnerReply, ContactReply, OtherBody, Unexpected}
use Rattle.coniks_evidence.specs.declared.records.ContactRecord.{ContactRecord}
use Rattle.coniks_evidence.specs.declared.records.OwnerRecord.{OwnerRecord}
use Rattle.coniks_evidence.specs.declared.replies.FoundReply.{FoundReply}
use Rattle.coniks_client.specs.declared.lookups.Saved.{Saved}

-- a VRF proof that was verified, with its index
indexed_by : (scheme : Scheme) (name vrf : List ℕ) (saved : Saved) (p : Indexed) → saved.vrf.now ≡ vrf → scheme name vrf ≡ Some saved.index.0
    → p.vrf.now ≡ saved.vrf.now → p.index ≡ saved.index → scheme name p.vrf.now ≡ Some p.index.0
indexed_by scheme name vrf saved p is indexed vrf_is index_is =
    ap (scheme name) (vrf_is ∙ is) ∙ indexed ∙ ap (λ (i : Index). Some i.0) (sym index_is)

module _ (hash : List ℕ → List ℕ) (scheme : Scheme) (epoch : ℕ) (name : List ℕ) (xs ys : List StoredEntry) (hers his : List ℕ) (want : Option (List ℕ)) (a b : FoundReply)
    (of_a : IsFound hash scheme xs epoch name hers a) (of_b : IsFound hash scheme ys epoch name his b) where
  -- what is found in two accepted replies is convicts
  pub found_true : (finding : Finding) → FindsOf hash want a b finding → Collides hash finding → IsTrueOf hash scheme name finding
  found_true Same finds collides = tt
  found_true (Links c) finds collides = absurd finds
  found_true (Nodes c) finds collides = collides
  found_true (Indices p q) finds collides =
      let left = of_a.saved.verified in
      let right = of_b.saved.verified in
      let apart = finds.1 in (
        indexed_by scheme name _ a.saved p left.vrf_is left.indexed finds.2 finds.3,
        indexed_by scheme name _ b.saved q right.vrf_is right.indexed finds.4 finds.5,
        λ (same : p.index.0 ≡ q.index.0). apart (ap (λ (i : Index). i.0) (sym finds.3) ∙ same ∙ ap (λ (i : Index). i.0) finds.5),
      )
  found_true (Nothing reason) finds collides = tt

  -- and convicts, if the replies show different keys under one entry, and the first the expected one
  pub found_convicts : (finding : Finding) → entry_in a.mine ≡ entry_in b.mine → stated a.saved.answer ≡ want → stated b.saved.answer ≢ want
      → FindsOf hash want a b finding → Collides hash finding → Convicts hash scheme name finding
  found_convicts Same one shows other finds collides = other finds.3
  found_convicts (Links c) one shows other finds collides = absurd finds
  found_convicts (Nodes c) one shows other finds collides = collides
  found_convicts (Indices p q) one shows other finds collides = found_true (Indices p q) finds collides
  found_convicts (Nothing OwnerHead) one shows other finds collides = finds
  found_convicts (Nothing ContactHead) one shows other finds collides = finds
  found_convicts (Nothing (OwnerReply fault)) one shows other finds collides = finds
  found_convicts (Nothing (ContactReply fault)) one shows other finds collides = finds
  found_convicts (Nothing OtherBody) one shows other finds collides = finds (ap (λ (e : Entry). e.body) one)
  found_convicts (Nothing Unexpected) one shows other finds collides = finds.3 shows

-- from two replies to two chains
pub found_in : (hash : List ℕ → List ℕ) (scheme : Scheme) (epoch : ℕ) (owner : OwnerRecord) (reply : List ℕ) (xs ys : List StoredEntry) (a b : FoundReply) (finding : Finding)
    → IsFound hash scheme xs epoch owner.watch.name.now owner.reply.now a → IsFound hash scheme ys epoch owner.watch.name.now reply b
    → FindsOf hash (expected_by owner epoch) a b finding → FindsIn hash scheme epoch owner reply xs ys finding
found_in hash scheme epoch owner reply xs ys a b Same of_a of_b finds = (a, b, of_a, of_b, finds)
found_in hash scheme epoch owner reply xs ys a b (Links c) of_a of_b finds = absurd finds
found_in hash scheme epoch owner reply xs ys a b (Nodes c) of_a of_b finds = (a, b, of_a, of_b, finds)
found_in hash scheme epoch owner reply xs ys a b (Indices p q) of_a of_b finds = (a, b, of_a, of_b, finds)
found_in hash scheme epoch owner reply xs ys a b (Nothing OwnerHead) of_a of_b finds = absurd finds
found_in hash scheme epoch owner reply xs ys a b (Nothing ContactHead) of_a of_b finds = absurd finds
found_in hash scheme epoch owner reply xs ys a b (Nothing (OwnerReply fault)) of_a of_b finds = absurd finds
found_in hash scheme epoch owner reply xs ys a b (Nothing (ContactReply fault)) of_a of_b finds = absurd finds
found_in hash scheme epoch owner reply xs ys a b (Nothing OtherBody) of_a of_b finds = (a, b, of_a, of_b, finds)
found_in hash scheme epoch owner reply xs ys a b (Nothing Unexpected) of_a of_b finds = (a, b, of_a, of_b, finds)

-- and to two records
pub found : (hash : List ℕ → List ℕ) (scheme : Scheme) (head : Head) (epoch : ℕ) (owner : OwnerRecord) (contact : ContactRecord) (xs ys : List StoredEntry) (finding : Finding)
    → IsUpTo hash owner.stored.now head xs → IsUpTo hash contact.stored.now head ys → HasNoFork hash (entries_in xs) (entries_in ys)
    → FindsIn hash scheme epoch owner contact.reply.now xs ys finding → Finds hash scheme head epoch owner contact finding
found hash scheme head epoch owner contact xs ys Same up_a up_b apart finds = (xs, ys, up_a, up_b, apart, finds)
found hash scheme head epoch owner contact xs ys (Links c) up_a up_b apart finds = absurd finds.4
found hash scheme head epoch owner contact xs ys (Nodes c) up_a up_b apart finds = (xs, ys, up_a, up_b, apart, finds)
found hash scheme head epoch owner contact xs ys (Indices p q) up_a up_b apart finds = (xs, ys, up_a, up_b, apart, finds)
found hash scheme head epoch owner contact xs ys (Nothing OwnerHead) up_a up_b apart finds = absurd finds.4
found hash scheme head epoch owner contact xs ys (Nothing ContactHead) up_a up_b apart finds = absurd finds.4
found hash scheme head epoch owner contact xs ys (Nothing (OwnerReply fault)) up_a up_b apart finds = (xs, ys, up_a, up_b, apart, finds)
found hash scheme head epoch owner contact xs ys (Nothing (ContactReply fault)) up_a up_b apart finds = (xs, ys, up_a, up_b, apart, finds)
found hash scheme head epoch owner contact xs ys (Nothing OtherBody) up_a up_b apart finds = (xs, ys, up_a, up_b, apart, finds)
found hash scheme head epoch owner contact xs ys (Nothing Unexpected) up_a up_b apart finds = (xs, ys, up_a, up_b, apart, finds)

-- an entry of the first epochs is a stored one
linked_in : (stored xs : List StoredEntry) (p k : ℕ) (e : Entry) (x : List ℕ) → xs ≡ take (suc p) stored → slice_get (entries_in xs) k ≡ Some e → x ≡ link_preimage e → IsLinked stored x
linked_in stored xs p k e x is at string =
    let mine = stored_of xs k e at in
    (k, mine.0, of_take stored (suc p) k mine.0 (ap (λ (l : List StoredEntry). slice_get l k) (sym is) ∙ mine.1), string ∙ ap link_preimage (sym mine.2))

-- what two honest records show does not convict
pub calm : (hash : List ℕ → List ℕ) (scheme : Scheme) (head : Head) (epoch : ℕ) (owner : OwnerRecord) (contact : ContactRecord) (finding : Finding)
    → Finds hash scheme head epoch owner contact finding → IsTrueOf hash scheme owner.watch.name.now finding → AreHonest hash scheme owner contact → IsCalm finding
calm hash scheme head epoch owner contact Same finds convicts honest = tt
calm hash scheme head epoch owner contact (Links c) finds convicts honest =
    let up_a = finds.2 in
    let up_b = finds.3 in
    let forked = finds.4 in
    let left : IsHashed hash owner contact c.x = inl (linked_in owner.stored.now finds.0 up_a.0 forked.fork.i forked.e c.x up_a.2 forked.fork.stand.left forked.x) in
    let right : IsHashed hash owner contact c.y = inr (inl (linked_in contact.stored.now finds.1 up_b.0 forked.fork.j forked.f c.y up_b.2 forked.fork.stand.right forked.y)) in
    convicts.differ (honest.collide_nowhere c.x c.y left right convicts.same_hash)
calm hash scheme head epoch owner contact (Nodes c) finds convicts honest =
    let shows = finds.5 in
    let a = shows.0 in
    let b = shows.1 in
    let nonce = (entry_in a.mine).body.nonce.0 in
    let index = a.saved.index.0 in
    let place = shows.4.3 in
    let left : IsHashed hash owner contact c.x = inr (inr (inl (nonce, index, a.saved.proof, place.before, place.after_x, shows.2.saved.verified.shown.wire, place.xs_are))) in
    let right : IsHashed hash owner contact c.y = inr (inr (inr (nonce, index, b.saved.proof, place.before, place.after_y, shows.3.saved.verified.shown.wire, place.ys_are))) in
    convicts.differ (honest.collide_nowhere c.x c.y left right convicts.same_hash)
calm hash scheme head epoch owner contact (Indices p q) finds convicts honest = convicts.2 (honest.one_index p.vrf.now q.vrf.now p.index.0 q.index.0 convicts.0 convicts.1)
calm hash scheme head epoch owner contact (Nothing reason) finds convicts honest = tt

-- what is hashed to the link of the entry at a place
pub link_at : (stored : List StoredEntry) (k : ℕ) (d mine : StoredEntry) (x : List ℕ) → k < length stored → slice_get stored k ≡ Some mine
    → x ≡ link_preimage (entry_in (get_or stored k d)) → x ≡ link_preimage (entry_in mine)
link_at stored k d mine x within at is =
    is ∙ ap (λ (m : StoredEntry). link_preimage (entry_in m)) (same_Some (get_or stored k d) mine (sym (slice_get-get_or stored k d within) ∙ at))

pub entry_there : (stored : List StoredEntry) (k : ℕ) (d mine : StoredEntry) → k < length stored → slice_get stored k ≡ Some mine → IsEntry (entry_in (get_or stored k d)) → IsEntry (entry_in mine)
entry_there stored k d mine within at is = subst (λ (m : StoredEntry). IsEntry (entry_in m)) (same_Some (get_or stored k d) mine (sym (slice_get-get_or stored k d within) ∙ at)) is
