-- A quorum of one, and two of three with a liar among them.
use Rattle.std.proofs.Common.{◌≡◌, ◌≢◌, ℕ, zero, suc, ◌<◌, ◌≤◌, List, [], ◌∷◌, true, false, Some, None, refl, sym, ap, subst, ◌∙◌, arith, nat_le}
use Rattle.std.specs.List.{slice_get}
use Rattle.std.proofs.lemmas.Option.{same_Some}
use Rattle.std.proofs.lemmas.Bool.{le-leb, lt-leb}
use Rattle.coniks_proof.specs.declared.values.Head.{Head}
use Rattle.coniks_chain.specs.Chain.{GoodChain}
use Rattle.coniks_chain.specs.Entries.{link_preimage}
use Rattle.coniks_chain.specs.declared.auditor.AuditFault.TheVariants.{FirstEpoch}
use Rattle.coniks_chain.specs.declared.entry.Entry.{Entry}
use Rattle.coniks_chain.proofs.Lemmas.{row}
use Rattle.coniks_client.specs.StoredEntry.{entries_in, entry_in, epoch_in, verified_before}
use Rattle.coniks_client.specs.declared.stored.StoredEntry.{StoredEntry}
use Rattle.coniks_quorum.specs.Auditors.{Auditor, HasEntry, IsGood}
use Rattle.coniks_quorum.specs.Marks.{HasMark, reaching}
use Rattle.coniks_quorum.specs.Laws.{StandsOn, TightLaw, WitnessLaw}
use Rattle.coniks_quorum.proofs.CountLemmas.{count-no, count-yes}
use Rattle.coniks_quorum.proofs.ListLemmas.{only_one}

module _ (hash : List ℕ → List ℕ) where
  abbrev head_at : StoredEntry → Head
  head_at x = record { epoch = epoch_in x; link = record { 0 = hash (link_preimage (entry_in x)) } }

  -- an honest auditor of a chain of one entry
  abbrev on : StoredEntry → Auditor
  on x = record { honest = true; entries = entries_in (x ∷ []); cosigned = head_at x ∷ [] }

  on-good : (x : StoredEntry) → GoodChain hash verified_before (entries_in (x ∷ [])) → IsGood hash (on x)
  on-good x chain = record {
    chain = chain;
    only = λ j head at. subst (λ (h : Head). HasEntry hash (entries_in (x ∷ [])) h) (only_one (head_at x) head j at)
        (record { place = 0; entry = entry_in x; there = refl; epoch = refl; link = refl });
  }

  above : (x : StoredEntry) → GoodChain hash verified_before (entries_in (x ∷ [])) → 0 < epoch_in x
  above x chain = row verified_before None (entry_in x) (chain 0 (entry_in x) refl) FirstEpoch

  -- an auditor that cosigned the head
  marked : (x : StoredEntry) (auditor other : Auditor) (mark : ℕ) → (j : ℕ) × (slice_get auditor.cosigned j ≡ Some (head_at x))
      → auditor ≡ other → epoch_in x ≡ mark → HasMark hash (x ∷ []) other mark
  marked x auditor other mark signed same is = subst (λ (a : Auditor). HasMark hash (x ∷ []) a mark) same
      (record { head = head_at x; cosigned = signed; place = 0; mine = x; there = refl; has = record { epoch = refl; link = refl }; epoch = is })

  -- one of two lists has one link only
  entry_link : (x : StoredEntry) (head : Head) → HasEntry hash (entries_in (x ∷ [])) head → hash (link_preimage (entry_in x)) ≡ head.link.0
  entry_link x head is = ap (λ (e : Entry). hash (link_preimage e)) (only_one (entry_in x) is.entry is.place is.there) ∙ is.link

  stand_link : (auditor : Auditor) (x : StoredEntry) (epoch : ℕ) (is : StandsOn hash auditor (x ∷ []) epoch) → hash (link_preimage (entry_in x)) ≡ is.head.link.0
  stand_link auditor x epoch is = ap (λ (m : StoredEntry). hash (link_preimage (entry_in m))) (only_one x is.mine is.place is.there) ∙ is.has.link

  module _ (a b : StoredEntry) (good_a : GoodChain hash verified_before (entries_in (a ∷ []))) (good_b : GoodChain hash verified_before (entries_in (b ∷ []))) where
    abbrev liar : Auditor
    liar = record { honest = false; entries = []; cosigned = head_at a ∷ head_at b ∷ [] }

    abbrev three : List Auditor
    three = liar ∷ on a ∷ on b ∷ []

    good : (i : ℕ) (auditor : Auditor) → slice_get three i ≡ Some auditor → auditor.honest ≡ true → IsGood hash auditor
    good zero auditor at honest = absurd (let same : false ≡ auditor.honest = ap (λ (x : Auditor). x.honest) (same_Some liar auditor at) in cc)
    good (suc zero) auditor at honest = subst (IsGood hash) (same_Some (on a) auditor at) (on-good a good_a)
    good (suc (suc zero)) auditor at honest = subst (IsGood hash) (same_Some (on b) auditor at) (on-good b good_b)
    good (suc (suc (suc i))) auditor at honest = absurd (cc)

    abbrev of_a : List ℕ
    of_a = epoch_in a ∷ epoch_in a ∷ 0 ∷ []

    abbrev of_b : List ℕ
    of_b = epoch_in b ∷ 0 ∷ epoch_in b ∷ []

    each_a : (i : ℕ) (auditor : Auditor) (mark : ℕ) → slice_get three i ≡ Some auditor → slice_get of_a i ≡ Some mark → 0 < mark → HasMark hash (a ∷ []) auditor mark
    each_a zero auditor mark at is some = marked a liar auditor mark (0, refl) (same_Some liar auditor at) (same_Some (epoch_in a) mark is)
    each_a (suc zero) auditor mark at is some = marked a (on a) auditor mark (0, refl) (same_Some (on a) auditor at) (same_Some (epoch_in a) mark is)
    each_a (suc (suc zero)) auditor mark at is some = let none : 0 ≡ mark = same_Some 0 mark is in absurd (omega arith)
    each_a (suc (suc (suc i))) auditor mark at is some = absurd (cc)

    each_b : (i : ℕ) (auditor : Auditor) (mark : ℕ) → slice_get three i ≡ Some auditor → slice_get of_b i ≡ Some mark → 0 < mark → HasMark hash (b ∷ []) auditor mark
    each_b zero auditor mark at is some = marked b liar auditor mark (1, refl) (same_Some liar auditor at) (same_Some (epoch_in b) mark is)
    each_b (suc zero) auditor mark at is some = let none : 0 ≡ mark = same_Some 0 mark is in absurd (omega arith)
    each_b (suc (suc zero)) auditor mark at is some = marked b (on b) auditor mark (0, refl) (same_Some (on b) auditor at) (same_Some (epoch_in b) mark is)
    each_b (suc (suc (suc i))) auditor mark at is some = absurd (cc)

    apart : hash (link_preimage (entry_in a)) ≢ hash (link_preimage (entry_in b)) → (i : ℕ) (auditor : Auditor) → slice_get three i ≡ Some auditor → auditor.honest ≡ true
        → StandsOn hash auditor (a ∷ []) (epoch_in a) → StandsOn hash auditor (b ∷ []) (epoch_in b) → ⊥
    apart differ zero auditor at honest hers his = let same : false ≡ auditor.honest = ap (λ (x : Auditor). x.honest) (same_Some liar auditor at) in absurd (cc)
    apart differ (suc zero) auditor at honest hers his =
        let entry = subst (λ (x : Auditor). HasEntry hash x.entries his.head) (sym (same_Some (on a) auditor at)) his.entry in
        differ (entry_link a his.head entry ∙ sym (stand_link auditor b (epoch_in b) his))
    apart differ (suc (suc zero)) auditor at honest hers his =
        let entry = subst (λ (x : Auditor). HasEntry hash x.entries hers.head) (sym (same_Some (on b) auditor at)) hers.entry in
        differ (stand_link auditor a (epoch_in a) hers ∙ sym (entry_link b hers.head entry))
    apart differ (suc (suc (suc i))) auditor at honest hers his = absurd (cc)

  two_a : (t : ℕ) → 2 ≤ reaching (t ∷ t ∷ 0 ∷ []) t
  two_a t =
      let one = count-yes (λ (m : ℕ). nat_le t m) t (t ∷ 0 ∷ []) (le-leb t t (omega arith)) in
      let two = count-yes (λ (m : ℕ). nat_le t m) t (0 ∷ []) (le-leb t t (omega arith)) in
      omega arith

  two_b : (t : ℕ) → 0 < t → 2 ≤ reaching (t ∷ 0 ∷ t ∷ []) t
  two_b t some =
      let one = count-yes (λ (m : ℕ). nat_le t m) t (0 ∷ t ∷ []) (le-leb t t (omega arith)) in
      let none = count-no (λ (m : ℕ). nat_le t m) 0 (t ∷ []) (lt-leb t 0 some) in
      let two = count-yes (λ (m : ℕ). nat_le t m) t [] (le-leb t t (omega arith)) in
      omega arith

  one_a : (t : ℕ) → 1 ≤ reaching (t ∷ []) t
  one_a t = let one = count-yes (λ (m : ℕ). nat_le t m) t [] (le-leb t t (omega arith)) in omega arith

pub witness : WitnessLaw
witness hash a good_a = (
  on hash a ∷ [],
  epoch_in a ∷ [],
  omega arith,
  record {
    number = refl;
    few = omega arith;
    good = λ i auditor at honest. subst (IsGood hash) (only_one (on hash a) auditor i at) (on-good hash a good_a);
  },
  record {
    marked =
        record {
          size = refl;
          each = λ i auditor mark at is some. marked hash a (on hash a) auditor mark (0, refl) (only_one (on hash a) auditor i at) (only_one (epoch_in a) mark i is);
        };
    above = above hash a good_a;
    enough = one_a hash (epoch_in a);
  },
)

pub tight : TightLaw
tight hash a b good_a good_b differ = (
  three hash a b good_a good_b,
  of_a hash a b good_a good_b,
  of_b hash a b good_a good_b,
  record { number = refl; few = omega arith; good = good hash a b good_a good_b },
  record { marked = record { size = refl; each = each_a hash a b good_a good_b }; above = above hash a good_a; enough = two_a hash (epoch_in a) },
  record { marked = record { size = refl; each = each_b hash a b good_a good_b }; above = above hash b good_b; enough = two_b hash (epoch_in b) (above hash b good_b) },
  λ both. apart hash a b good_a good_b differ both.place both.auditor both.there both.honest both.hers both.his,
)
