-- The chain of stored epochs, one after another.
use Rattle.std.proofs.Common.{◌≡◌, ◌<◌, ◌≤◌, ℕ, suc, ◌+◌, List, [], ◌∷◌, length, map, get_or, Bool, true, false, IsTrue, Option, Some, refl, sym, ap, subst, ◌∙◌, ⊎_elim, arith}
use Rattle.std.specs.List.{slice_get}
use Rattle.std.proofs.lemmas.Bool.{cases_lt}
use Rattle.std.proofs.lemmas.List.{get_or-map, length-map}
use Rattle.std.proofs.lemmas.Option.{same_Some, slice_get-get_or, slice_get_within}
use Rattle.coniks_chain.specs.Chain.{Follows, auditor_after}
use Rattle.coniks_chain.specs.declared.auditor.AuditorState.{AuditorState}
use Rattle.coniks_chain.specs.declared.entry.Entry.{Entry}
use Rattle.coniks_client.specs.Feeding.{IsVerified}
use Rattle.coniks_client.specs.StoredEntry.{IsChain, entry_in, verified_before}
use Rattle.coniks_client.specs.declared.stored.StoredEntry.{StoredEntry}
use Rattle.coniks_quorum.specs.Restoring.{AreGoodTo, AreVerified, FollowsAt, IsFirstBad, IsGoodAt}
use Rattle.coniks_quorum.specs.Saved.{stored_from}

module _ (hash : List ℕ → List ℕ) (verdict : List ℕ → List ℕ → Bool) (policy : List ℕ) (stored : List StoredEntry) where
  good_none : AreGoodTo hash verdict policy stored 0
  good_none k mine below at = absurd (omega arith)

  good_more : (n : ℕ) (x : StoredEntry) → AreGoodTo hash verdict policy stored n → slice_get stored n ≡ Some x → IsGoodAt hash verdict policy stored n x → AreGoodTo hash verdict policy stored (n + 1)
  good_more n x good there here k mine below at = ⊎_elim
      (λ (less : k < n). good k mine less at)
      (λ (least : n ≤ k).
      let same : k ≡ n = omega arith in
      let one : x ≡ mine = same_Some x mine (sym there ∙ ap (slice_get stored) (sym same) ∙ at) in
      subst (λ j. IsGoodAt hash verdict policy stored j mine) (sym same) (subst (λ y. IsGoodAt hash verdict policy stored n y) one here))
      (cases_lt k n)

  follows_here : (i : ℕ) (b x : StoredEntry) → slice_get stored i ≡ Some b → Follows verified_before (Some (auditor_after hash (entry_in b))) (entry_in x) → FollowsAt hash stored (suc i) x
  follows_here i b x there follows k before next at =
      let same : i ≡ k = omega arith in
      let one : b ≡ before = same_Some b before (sym there ∙ ap (slice_get stored) same ∙ at) in
      subst (λ y. Follows verified_before (Some (auditor_after hash (entry_in y))) (entry_in x)) one follows

  are-chain : (n : ℕ) → length stored ≤ n → AreGoodTo hash verdict policy stored n → IsChain hash stored
  are-chain n all good k before mine at_before at_mine =
      let within = slice_get_within stored (suc k) mine at_mine in (good (suc k) mine (omega arith) at_mine).follows k before refl at_before

  are-verified : (n : ℕ) → length stored ≤ n → AreGoodTo hash verdict policy stored n → AreVerified verdict policy stored
  are-verified n all good k mine at = let within = slice_get_within stored k mine at in (good k mine (omega arith) at).verified

module _ (hash : List ℕ → List ℕ) (verdict : List ℕ → List ℕ → Bool) (policy : List ℕ) (chunks : List (List ℕ)) where
  there : (j : ℕ) → j < length chunks → slice_get (map stored_from chunks) j ≡ Some (stored_from (get_or chunks j []))
  there j within =
      slice_get-get_or (map stored_from chunks) j (stored_from []) (omega (arith, length-map chunks stored_from))
      ∙ ap (λ x. Some x) (get_or-map stored_from chunks j [] (stored_from []) within)

  module _ (first : List ℕ) (later : List (List ℕ)) (parts : chunks ≡ first ∷ later) where
    at_first : slice_get (map stored_from chunks) 0 ≡ Some (stored_from first)
    at_first = ap (λ cs. slice_get (map stored_from cs) 0) parts

    at_later : (j : ℕ) → j < length later → slice_get (map stored_from chunks) (suc j) ≡ Some (stored_from (get_or later j []))
    at_later j within =
        let size : length chunks ≡ suc (length later) = ap length parts in
        there (suc j) (omega arith) ∙ ap (λ cs. Some (stored_from (get_or cs (suc j) []))) parts

    pub first-bad : ¬ IsVerified verdict policy (stored_from first).entry → IsFirstBad hash verdict policy (map stored_from chunks) 0
    first-bad not = record {
      earlier = good_none hash verdict policy (map stored_from chunks);
      here = (stored_from first, at_first, λ good. not good.verified);
    }

    pub first-good : IsVerified verdict policy (stored_from first).entry → AreGoodTo hash verdict policy (map stored_from chunks) 1
    first-good is = good_more hash verdict policy (map stored_from chunks) 0 (stored_from first) (good_none hash verdict policy (map stored_from chunks)) at_first
        (record { verified = is; follows = λ k before next at. absurd (omega arith) })

    -- what the next one is compared with
    pub next_is : (j : ℕ) → get_or chunks (j + 1) [] ≡ get_or later j []
    next_is j =
        let step : j + 1 ≡ suc j = omega arith in
        ap (λ n. get_or chunks n []) step ∙ ap (λ cs. get_or cs (suc j) []) parts

    pub first_is : get_or chunks 0 [] ≡ first
    first_is = ap (λ cs. get_or cs 0 []) parts

    size-all : (j : ℕ) → length later ≤ j → length (map stored_from chunks) ≤ j + 1
    size-all j end = let size : length chunks ≡ suc (length later) = ap length parts in omega (arith, length-map chunks stored_from)

    -- all of them
    pub all-chain : (j : ℕ) → length later ≤ j → AreGoodTo hash verdict policy (map stored_from chunks) (j + 1) → IsChain hash (map stored_from chunks)
    all-chain j end good = are-chain hash verdict policy (map stored_from chunks) (j + 1) (size-all j end) good

    pub all-verified : (j : ℕ) → length later ≤ j → AreGoodTo hash verdict policy (map stored_from chunks) (j + 1) → AreVerified verdict policy (map stored_from chunks)
    all-verified j end good = are-verified hash verdict policy (map stored_from chunks) (j + 1) (size-all j end) good

    module _ (j : ℕ) (within : j < length later) (good : AreGoodTo hash verdict policy (map stored_from chunks) (j + 1)) where
      bad_here : ¬ IsGoodAt hash verdict policy (map stored_from chunks) (suc j) (stored_from (get_or later j [])) → IsFirstBad hash verdict policy (map stored_from chunks) (j + 1)
      bad_here not =
          let step : suc j ≡ j + 1 = omega arith in
          record {
            earlier = good;
            here = (
              stored_from (get_or later j []),
              ap (slice_get (map stored_from chunks)) (sym step) ∙ at_later j within,
              subst (λ n. ¬ IsGoodAt hash verdict policy (map stored_from chunks) n (stored_from (get_or later j []))) step not,
            );
          }

      pub later-unverified : ¬ IsVerified verdict policy (stored_from (get_or later j [])).entry → IsFirstBad hash verdict policy (map stored_from chunks) (j + 1)
      later-unverified not = bad_here (λ is. not is.verified)

      -- whether the next one follows what is before it
      module _ (before : Option AuditorState) (entry : Entry) (before_is : before ≡ Some (auditor_after hash (entry_in (stored_from (get_or chunks j [])))))
          (entry_is : entry ≡ entry_in (stored_from (get_or later j []))) (follow : Bool)
          (tells : (IsTrue follow → Follows verified_before before entry) × (Follows verified_before before entry → IsTrue follow)) where
        at_before : slice_get (map stored_from chunks) j ≡ Some (stored_from (get_or chunks j []))
        at_before = let size : length chunks ≡ suc (length later) = ap length parts in there j (omega arith)

        pub later-bad : follow ≡ false → IsFirstBad hash verdict policy (map stored_from chunks) (j + 1)
        later-bad fails = bad_here (λ is.
            let follows = is.follows j (stored_from (get_or chunks j [])) refl at_before in
            let no : IsTrue false = subst IsTrue fails (tells.1 (subst (λ b. Follows verified_before b entry) (sym before_is)
            (subst (λ e. Follows verified_before (Some (auditor_after hash (entry_in (stored_from (get_or chunks j []))))) e) (sym entry_is) follows))) in
            cc)

        pub later-good : follow ≡ true → IsVerified verdict policy (stored_from (get_or later j [])).entry → AreGoodTo hash verdict policy (map stored_from chunks) ((j + 1) + 1)
        later-good passes verified =
            let step : suc j ≡ j + 1 = omega arith in
            let follows = subst (λ e. Follows verified_before (Some (auditor_after hash (entry_in (stored_from (get_or chunks j []))))) e) entry_is
            (subst (λ b. Follows verified_before b entry) before_is (tells.0 (subst IsTrue (sym passes) refl))) in
            let x = stored_from (get_or later j []) in
            good_more hash verdict policy (map stored_from chunks) (j + 1) x good (ap (slice_get (map stored_from chunks)) (sym step) ∙ at_later j within)
            (subst (λ n. IsGoodAt hash verdict policy (map stored_from chunks) n x) step
            (record { verified = verified; follows = follows_here hash verdict policy (map stored_from chunks) j (stored_from (get_or chunks j [])) x at_before follows }))

-- what an auditor compares the next entry with, when it begins and when it goes on
pub begun : {A : Type 0} (hash : List ℕ → List ℕ) (h : A) (auditor : A × Option AuditorState) (state : AuditorState) (entry e : Entry) → auditor ≡ (h, Some state)
    → state ≡ auditor_after hash entry → entry ≡ e → auditor ≡ (h, Some (auditor_after hash e))
begun hash h auditor state entry e is state_is entry_is = is ∙ ap (λ s. (h, Some s)) state_is ∙ ap (λ x. (h, Some (auditor_after hash x))) entry_is

pub goes_on : {A : Type 0} (digest : A → List ℕ → List ℕ) (h : A) (old new : A × Option AuditorState) (before : Option AuditorState) (entry e : Entry) → old ≡ (h, before)
    → new ≡ (old.0, Some (auditor_after (digest old.0) entry)) → entry ≡ e → new ≡ (h, Some (auditor_after (digest h) e))
goes_on digest h old new before entry e is next entry_is =
    next ∙ ap (λ x. (x, Some (auditor_after (digest x) entry))) (ap (λ a. a.0) is) ∙ ap (λ x. (h, Some (auditor_after (digest h) x))) entry_is

pub before_of : {A : Type 0} (h : A) (old : A × Option AuditorState) (before : Option AuditorState) → old ≡ (h, before) → old.1 ≡ before
before_of h old before is = ap (λ a. a.1) is
