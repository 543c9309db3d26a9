-- Two sound records whose chains do not fork have one entry at the epoch, and both replies are accepted there.
use Rattle.std.proofs.Common.{◌≡◌, ℕ, zero, suc, ◌-◌, ◌<◌, ◌≤◌, List, [], ◌∷◌, length, Option, Some, refl, sym, ap, subst, ◌∙◌, ◌⊎◌, inl, arith, take, ⊎_elim}
use Rattle.std.specs.List.{slice_get}
use Rattle.std.proofs.lemmas.List.{length-map, length-take-le}
use Rattle.std.proofs.lemmas.Option.{slice_get_within, same_Some}
use Rattle.std.proofs.lemmas.Bool.{cases_lt}
use Rattle.coniks_proof.specs.declared.values.Head.{Head}
use Rattle.coniks_chain.specs.declared.entry.Entry.{Entry}
use Rattle.coniks_chain.specs.Fork.{EndsWith, HasNoFork, IsFork}
use Rattle.coniks_client.specs.Comparing.{HasHead}
use Rattle.coniks_client.specs.StoredEntry.{IsChain, entries_in, entry_in, epoch_in}
use Rattle.coniks_client.specs.Owner.{Scheme}
use Rattle.coniks_client.specs.declared.stored.StoredEntry.{StoredEntry}
use Rattle.coniks_client.proofs.Lemmas.{ends, entry_at, increasing, stored_of, linked_of, of_take, walk}
use Rattle.coniks_evidence.specs.Findings.{HaveOneEntry}
use Rattle.coniks_evidence.specs.Records.{HasHeadAt, IsAccepted, IsContactRecord, IsOwnerRecord, IsShownIn, expected_by}
use Rattle.coniks_evidence.specs.declared.records.ContactRecord.{ContactRecord}
use Rattle.coniks_evidence.specs.declared.records.OwnerRecord.{OwnerRecord}
use Rattle.coniks_evidence.proofs.ForkLemmas.{no_stop}

get-take : (stored : List StoredEntry) (n k : ℕ) → k < n → slice_get (take n stored) k ≡ slice_get stored k
get-take stored zero k less = absurd (omega arith)
get-take [] (suc n) k less = refl
get-take (x ∷ stored) (suc n) zero less = refl
get-take (x ∷ stored) (suc n) (suc k) less = get-take stored n k (omega arith)

take-chain : (hash : List ℕ → List ℕ) (stored : List StoredEntry) (n : ℕ) → IsChain hash stored → IsChain hash (take n stored)
take-chain hash stored n chain = λ k before x at_b at_x. chain k before x (of_take stored n k before at_b) (of_take stored n (suc k) x at_x)

-- the epochs up to one that has a head end in it
ends_at : (hash : List ℕ → List ℕ) (stored : List StoredEntry) (place : ℕ) (mine : StoredEntry) (head : Head) → slice_get stored place ≡ Some mine → HasHead hash mine head
    → EndsWith hash (entries_in (take (suc place) stored)) head.link.0
ends_at hash stored place mine head at has =
    let within = slice_get_within stored place mine at in
    let size : length (entries_in (take (suc place) stored)) ≡ suc place = length-map (take (suc place) stored) entry_in ∙ length-take-le (suc place) stored (omega arith) in
    let last : length (entries_in (take (suc place) stored)) - 1 ≡ place = omega arith in
    let there : slice_get (take (suc place) stored) place ≡ Some mine = get-take stored (suc place) place (omega arith) ∙ at in
    record {
      last = entry_in mine;
      there = ap (slice_get (entries_in (take (suc place) stored))) last ∙ entry_at (take (suc place) stored) place mine there;
      linked = has.link;
    }

-- in a chain an epoch that is not later than another one's is not after its place
not_after : (hash : List ℕ → List ℕ) (stored : List StoredEntry) (i j : ℕ) (mine other : StoredEntry) → IsChain hash stored
    → slice_get stored i ≡ Some mine → slice_get stored j ≡ Some other → epoch_in mine ≤ epoch_in other → i ≤ j
not_after hash stored i j mine other chain at_i at_j le = ⊎_elim
    (λ (less : j < i).
    let more = increasing hash (entries_in stored) (linked_of hash stored chain) j i (entry_in other) (entry_in mine) (entry_at stored j other at_j) (entry_at stored i mine at_i) less in
    absurd (omega arith))
    (λ (done : i ≤ j). done)
    (cases_lt j i)

-- in a chain an epoch has one place
one_place : (hash : List ℕ → List ℕ) (stored : List StoredEntry) (i j : ℕ) (mine other : StoredEntry) → IsChain hash stored
    → slice_get stored i ≡ Some mine → slice_get stored j ≡ Some other → epoch_in mine ≡ epoch_in other → mine ≡ other
one_place hash stored i j mine other chain at_i at_j same =
    let left = not_after hash stored i j mine other chain at_i at_j (omega arith) in
    let right = not_after hash stored j i other mine chain at_j at_i (omega arith) in
    let place : i ≡ j = omega arith in
    same_Some mine other (sym at_i ∙ ap (slice_get stored) place ∙ at_j)

-- what the records show up to the head
pub record AreMet (hash : List ℕ → List ℕ) (scheme : Scheme) (epoch : ℕ) (owner : OwnerRecord) (contact : ContactRecord) (answer : Option (List ℕ)) (xs ys : List StoredEntry) : Type 0 where
  pub one : HaveOneEntry epoch xs ys
  pub hers : IsShownIn hash scheme xs epoch owner.watch.name.now owner.reply.now (expected_by owner epoch)
  pub his : IsShownIn hash scheme ys epoch owner.watch.name.now contact.reply.now answer

pub met : (hash : List ℕ → List ℕ) (scheme : Scheme) (head : Head) (epoch : ℕ) (owner : OwnerRecord) (contact : ContactRecord) (answer : Option (List ℕ)) (p q : ℕ) (xs ys : List StoredEntry)
    → IsOwnerRecord hash scheme head epoch owner → IsContactRecord hash scheme head epoch owner.watch.name.now contact answer
    → HasHeadAt hash owner.stored.now head p → HasHeadAt hash contact.stored.now head q → xs ≡ take (suc p) owner.stored.now → ys ≡ take (suc q) contact.stored.now
    → HasNoFork hash (entries_in xs) (entries_in ys) → AreMet hash scheme epoch owner contact answer xs ys
met hash scheme head epoch owner contact answer p q xs ys hers his top_a top_b is_x is_y apart =
    let all = owner.stored.now in
    let all' = contact.stored.now in
    let first_up = take (suc p) all in
    let other_up = take (suc q) all' in
    let chain_a = take-chain hash all (suc p) hers.chain in
    let chain_b = take-chain hash all' (suc q) his.chain in
    let end_a = ends_at hash all p top_a.0 head top_a.1 top_a.2 in
    let end_b = ends_at hash all' q top_b.0 head top_b.1 top_b.2 in
    let top_epoch : epoch_in top_b.0 ≡ head.epoch = top_b.2.epoch in
    let in_time = his.in_time in
    let epoch_is = his.epoch_is in
    let below : his.place ≤ q = not_after hash all' his.place q his.mine top_b.0 his.chain his.there top_b.1 (omega arith) in
    let at_b : slice_get other_up his.place ≡ Some his.mine = get-take all' (suc q) his.place (omega arith) ∙ his.there in
    let at_f = entry_at other_up his.place his.mine at_b in
    let within = slice_get_within (entries_in other_up) his.place (entry_in his.mine) at_f in
    let low : (e : Entry) → slice_get (entries_in first_up) 0 ≡ Some e → (e.body.t ≤ epoch_in his.mine) ⊎ (e.body.t_prev < epoch_in his.mine) = λ e at_e.
    let first = stored_of first_up 0 e at_e in
    let begins = hers.begins first.0 (of_take all (suc p) 0 first.0 first.1) in
    let same : epoch_in first.0 ≡ e.body.t = ap (λ (x : Entry). x.body.t) first.2 in
    inl (omega arith) in
    let stop : (e f : Entry) → IsFork hash (entries_in first_up) (entries_in other_up) e f → ⊥ = λ e f fork.
    no_stop hash (entries_in first_up) (entries_in other_up) e f fork (subst (λ (l : List StoredEntry). HasNoFork hash (entries_in first_up) (entries_in l)) is_y
    (subst (λ (l : List StoredEntry). HasNoFork hash (entries_in l) (entries_in ys)) is_x apart)) in
    let reached = walk hash (entries_in first_up) (entries_in other_up) (linked_of hash first_up chain_a) (linked_of hash other_up chain_b) his.place (entry_in his.mine) at_f low
    (length (entries_in first_up) - 1) (length (entries_in other_up) - 1) end_a.last end_b.last (ends hash (entries_in first_up) (entries_in other_up) head.link.0 end_a end_b)
    (end_a.linked ∙ sym end_b.linked) (omega arith) in
    let found : (k : ℕ) × (slice_get (entries_in first_up) k ≡ Some (entry_in his.mine)) = ⊎_elim (λ there. there) (λ fork. absurd (stop fork.0 fork.1 fork.2)) reached in
    let mine = stored_of first_up found.0 (entry_in his.mine) found.1 in
    let mine_epoch : epoch_in mine.0 ≡ epoch = ap (λ (x : Entry). x.body.t) mine.2 ∙ his.epoch_is in
    let result : AreMet hash scheme epoch owner contact answer first_up other_up = record {
      one = λ k l x y at_x at_y of_x of_y.
          let left : x ≡ mine.0 = one_place hash first_up k found.0 x mine.0 chain_a at_x mine.1 (of_x ∙ sym mine_epoch) in
          let right : y ≡ his.mine = one_place hash other_up l his.place y his.mine chain_b at_y at_b (of_y ∙ sym his.epoch_is) in
          ap entry_in left ∙ mine.2 ∙ ap entry_in (sym right);
      hers = record {
        stored_there = (found.0, mine.0, mine.1, mine_epoch);
        accepted = λ k x at_x of_x. hers.shown k x (of_take all (suc p) k x at_x) of_x;
      };
      his = record {
        stored_there = (his.place, his.mine, at_b, his.epoch_is);
        accepted = λ k y at_y of_y.
            let right : his.mine ≡ y = one_place hash other_up his.place k his.mine y chain_b at_b at_y (his.epoch_is ∙ sym of_y) in
            subst (λ (z : StoredEntry). IsAccepted hash scheme (entry_in z) owner.watch.name.now contact.reply.now answer) right his.accepted;
      };
    } in
    subst (λ (l : List StoredEntry). AreMet hash scheme epoch owner contact answer xs l) (sym is_y)
    (subst (λ (l : List StoredEntry). AreMet hash scheme epoch owner contact answer l other_up) (sym is_x) result)
