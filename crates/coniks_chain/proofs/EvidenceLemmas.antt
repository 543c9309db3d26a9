-- Evidence: chains that part have it, and one chain under one policy has none.
use Rattle.std.proofs.Common.{◌≡◌, ◌≢◌, ℕ, zero, suc, ◌+◌, ◌<◌, ◌≤◌, List, [], length, Bool, Some, None, refl, sym, ap, subst, ◌∙◌, ◌⊎◌, inl, inr, ⊎_elim, arith, get_or}
use Rattle.std.specs.List.{slice_get}
use Rattle.std.proofs.lemmas.Option.{slice_get_within, slice_get-get_or, same_Some}
use Rattle.std.proofs.lemmas.Bool.{cases_lt}
use Rattle.coniks_proof.specs.Preimages.{zeros}
use Rattle.coniks_chain.specs.declared.entry.Entry.{Entry}
use Rattle.coniks_chain.specs.declared.auditor.AuditFault.TheVariants.{Version, FirstEpoch, NotLater, PreviousEpoch, PreviousLink}
use Rattle.coniks_chain.specs.declared.evidence.Evidence.{Evidence}
use Rattle.coniks_chain.specs.declared.evidence.EvidenceKind.{EvidenceKind}
use Rattle.coniks_chain.specs.declared.evidence.EvidenceKind.TheVariants.{Overlap, OtherPolicy, Malformed}
use Rattle.coniks_chain.specs.Chain.{before_at, GoodChain}
use Rattle.coniks_chain.specs.Evidence.{Covers, Overlaps, IsWellFormed, Convicts, IsOfFirstKind, HasNoEvidence, HasNoEvidenceTo, IsFirstEvidence, HaveSameBodiesTo, Begins, HasBodyOf, HasPolicy}
use Rattle.coniks_chain.proofs.ChainLemmas.{row, after}
use Rattle.coniks_chain.proofs.ForkLemmas.{positive}
use Rattle.coniks_chain.proofs.ClientLemmas.{increasing}
use Rattle.coniks_chain.proofs.EqualityLemmas.{decide_body}

module _ (xs ys : List Entry) where
  -- one place more has no evidence
  pub none-more : (n : ℕ) (d : Entry) → n < length xs → n < length ys → ((kind : EvidenceKind) → ¬ Convicts (get_or xs n d) (get_or ys n d) kind)
      → HasNoEvidenceTo xs ys n → HasNoEvidenceTo xs ys (n + 1)
  none-more n d in_x in_y none before = λ k a b less at_a at_b. ⊎_elim
      (λ (below : k < n). before k a b below at_a at_b)
      (λ (le : n ≤ k).
      let here : k ≡ n = omega arith in
      let left : get_or xs n d ≡ a = same_Some (get_or xs n d) a (sym (slice_get-get_or xs n d in_x) ∙ ap (slice_get xs) (sym here) ∙ at_a) in
      let right : get_or ys n d ≡ b = same_Some (get_or ys n d) b (sym (slice_get-get_or ys n d in_y) ∙ ap (slice_get ys) (sym here) ∙ at_b) in
      subst (λ x. (kind : EvidenceKind) → ¬ Convicts x b kind) left (subst (λ y. (kind : EvidenceKind) → ¬ Convicts (get_or xs n d) y kind) right none))
      (cases_lt k n)

  -- no place has evidence
  pub none-all : (n : ℕ) → (length xs ≤ n) ⊎ (length ys ≤ n) → HasNoEvidenceTo xs ys n → HasNoEvidence xs ys
  none-all n all none = λ k a b at_a at_b.
      let in_x = slice_get_within xs k a at_a in
      let in_y = slice_get_within ys k b at_b in
      let within : k < n = ⊎_elim (λ x. omega arith) (λ y. omega arith) all in
      none k a b within at_a at_b

  -- the first place that has evidence
  pub found_here : (n : ℕ) (d : Entry) (kind : EvidenceKind) → n < length xs → n < length ys
      → IsOfFirstKind (get_or xs n d) (get_or ys n d) kind → HasNoEvidenceTo xs ys n → IsFirstEvidence xs ys (record { place = n; kind = kind })
  found_here n d kind in_x in_y first before = record {
    earlier = before;
    here = record {
      a = get_or xs n d;
      b = get_or ys n d;
      left = slice_get-get_or xs n d in_x;
      right = slice_get-get_or ys n d in_y;
      convicts = first;
    };
  }

module _ (hash : List ℕ → List ℕ) (verdict : List ℕ → List ℕ → Bool) (xs : List Entry) (good : GoodChain hash verdict xs) where
  -- an entry and the one before it
  pub preceded : (m : ℕ) (e : Entry) → slice_get xs (suc m) ≡ Some e → (d : Entry) × (slice_get xs m ≡ Some d) × (e.body.t_prev ≡ d.body.t) × (d.body.t < e.body.t)
  preceded m e at =
      let within = slice_get_within xs (suc m) e at in
      let short : m < length xs = omega arith in
      let there : slice_get xs m ≡ Some (get_or xs m e) = slice_get-get_or xs m e short in
      (get_or xs m e, there, after hash verdict xs m (get_or xs m e) e good there at PreviousEpoch, after hash verdict xs m (get_or xs m e) e good there at NotLater)

  -- the epoch before is earlier
  advances : (k : ℕ) (e : Entry) → slice_get xs k ≡ Some e → e.body.t_prev < e.body.t
  advances zero e at =
      let start : e.body.t_prev ≡ 0 = row verdict None e (good 0 e at) PreviousEpoch in
      let later : 0 < e.body.t = row verdict None e (good 0 e at) FirstEpoch in
      omega arith
  advances (suc m) e at = let before = preceded m e at in omega (arith, before.2, before.3)

  begins : (k : ℕ) (e : Entry) → slice_get xs k ≡ Some e → e.body.t_prev ≡ 0 → e.body.previous.0 ≡ zeros
  begins zero e at start = row verdict None e (good 0 e at) PreviousLink
  begins (suc m) e at start =
      let before = preceded m e at in
      let some = positive verdict (before_at hash None xs m) before.0 (good m before.0 before.1) in
      absurd (omega (arith, before.2, some))

  -- the entries of a good chain are well-formed
  pub well_formed : (k : ℕ) (e : Entry) → slice_get xs k ≡ Some e → IsWellFormed e.body
  well_formed k e at = record {
    version = row verdict (before_at hash None xs k) e (good k e at) Version;
    later = advances k e at;
    begins = begins k e at;
  }

  -- a later entry covers only later numbers
  apart : (i j : ℕ) (e f : Entry) → slice_get xs i ≡ Some e → slice_get xs j ≡ Some f → i < j → e.body.t ≤ f.body.t_prev
  apart i zero e f at_i at_j less = absurd (omega arith)
  apart i (suc m) e f at_i at_j less =
      let before = preceded m f at_j in
      ⊎_elim
      (λ (more : i < m). let earlier = increasing hash verdict xs i m e before.0 good at_i before.1 more in omega (arith, before.2, earlier))
      (λ (le : m ≤ i).
      let here : m ≡ i = omega arith in
      let same : before.0 ≡ e = same_Some before.0 e (sym before.1 ∙ ap (slice_get xs) here ∙ at_i) in
      omega (arith, before.2, ap (λ x. x.body.t) same))
      (cases_lt i m)

  -- one number is covered by one entry
  covered_once : (i j number : ℕ) (e f : Entry) → slice_get xs i ≡ Some e → slice_get xs j ≡ Some f → Covers e.body number → Covers f.body number → e ≡ f
  covered_once i j number e f at_i at_j of_e of_f = ⊎_elim
      (λ (less : i < j). absurd (omega (arith, apart i j e f at_i at_j less, of_e.up_to, of_f.after)))
      (λ (le : j ≤ i). ⊎_elim
      (λ (less : j < i). absurd (omega (arith, apart j i f e at_j at_i less, of_f.up_to, of_e.after)))
      (λ (ge : i ≤ j). let place : i ≡ j = omega arith in same_Some e f (sym at_i ∙ ap (slice_get xs) place ∙ at_j))
      (cases_lt j i))
      (cases_lt i j)

  -- two entries with bodies of one good chain, which has one policy, are no evidence
  pub one_chain : (policy : List ℕ) (a b : Entry) → HasPolicy policy xs → HasBodyOf xs a → HasBodyOf xs b → (kind : EvidenceKind) → ¬ Convicts a b kind
  one_chain policy a b one is_a is_b Overlap = λ over.
      let first = subst (λ x. Covers x over.number) is_a.same over.first in
      let second = subst (λ x. Covers x over.number) is_b.same over.second in
      let same = covered_once is_a.place is_b.place over.number is_a.member is_b.member is_a.there is_b.there first second in
      over.differ (is_a.same ∙ ap (λ x. x.body) same ∙ sym is_b.same)
  one_chain policy a b one is_a is_b OtherPolicy = λ differ.
      let of_a = ap (λ x. x.policy) is_a.same ∙ one is_a.place is_a.member is_a.there in
      let of_b = ap (λ x. x.policy) is_b.same ∙ one is_b.place is_b.member is_b.there in
      differ (of_a ∙ sym of_b)
  one_chain policy a b one is_a is_b Malformed = λ bad. ⊎_elim
      (λ no. no (subst IsWellFormed (sym is_a.same) (well_formed is_a.place is_a.member is_a.there)))
      (λ no. no (subst IsWellFormed (sym is_b.same) (well_formed is_b.place is_b.member is_b.there)))
      bad

-- an entry for a place beyond the ends of both lists
empty_entry : Entry
empty_entry = record {
  body =
      record { version = 0; t = 0; t_prev = 0; root = record { 0 = [] }; previous = record { 0 = [] }; nonce = record { 0 = [] }; policy = [] };
  signature = record { 0 = [] };
}

module _ (hash : List ℕ → List ℕ) (verdict other : List ℕ → List ℕ → Bool) (xs ys : List Entry) (good_x : GoodChain hash verdict xs) (good_y : GoodChain hash other ys) where
  -- two entries after the same bodies have the same epoch before
  same_before : (k : ℕ) (a b : Entry) → slice_get xs k ≡ Some a → slice_get ys k ≡ Some b → HaveSameBodiesTo xs ys k → a.body.t_prev ≡ b.body.t_prev
  same_before zero a b at_a at_b same = row verdict None a (good_x 0 a at_a) PreviousEpoch ∙ sym (row other None b (good_y 0 b at_b) PreviousEpoch)
  same_before (suc m) a b at_a at_b same =
      let left = preceded hash verdict xs good_x m a at_a in
      let right = preceded hash other ys good_y m b at_b in
      left.2 ∙ ap (λ x. x.t) (same m left.0 right.0 (omega arith) left.1 right.1) ∙ sym right.2

  -- two different bodies after the same ones overlap
  parts : (k : ℕ) (a b : Entry) → slice_get xs k ≡ Some a → slice_get ys k ≡ Some b → HaveSameBodiesTo xs ys k → a.body ≢ b.body → Overlaps a.body b.body
  parts k a b at_a at_b same differ =
      let before = same_before k a b at_a at_b same in
      record {
        number = suc a.body.t_prev;
        first = record { after = omega arith; up_to = omega (arith, (well_formed hash verdict xs good_x k a at_a).later) };
        second = record { after = omega (arith, before); up_to = omega (arith, before, (well_formed hash other ys good_y k b at_b).later) };
        differ = differ;
      }

  -- two entries with one body are no evidence
  same_body_convicts_not : (k : ℕ) (a b : Entry) → slice_get xs k ≡ Some a → slice_get ys k ≡ Some b → a.body ≡ b.body → (kind : EvidenceKind) → ¬ Convicts a b kind
  same_body_convicts_not k a b at_a at_b same Overlap = λ over. over.differ same
  same_body_convicts_not k a b at_a at_b same OtherPolicy = λ differ. differ (ap (λ x. x.policy) same)
  same_body_convicts_not k a b at_a at_b same Malformed = λ bad. ⊎_elim
      (λ no. no (well_formed hash verdict xs good_x k a at_a)) (λ no. no (well_formed hash other ys good_y k b at_b)) bad

  same_at_next : (n : ℕ) (a b : Entry) → slice_get xs n ≡ Some a → slice_get ys n ≡ Some b → HaveSameBodiesTo xs ys n
      → a.body ≡ b.body → HaveSameBodiesTo xs ys (suc n)
  same_at_next n a b at_a at_b before same = λ k d g less at_d at_g. ⊎_elim
      (λ (below : k < n). before k d g below at_d at_g)
      (λ (le : n ≤ k).
      let here : k ≡ n = omega arith in
      let left : d ≡ a = same_Some d a (sym at_d ∙ ap (slice_get xs) here ∙ at_a) in
      let right : g ≡ b = same_Some g b (sym at_g ∙ ap (slice_get ys) here ∙ at_b) in
      ap (λ x. x.body) left ∙ same ∙ ap (λ x. x.body) (sym right))
      (cases_lt k n)

  -- where no evidence is, the bodies are the same
  pub same_to : (n : ℕ) → HasNoEvidenceTo xs ys n → HaveSameBodiesTo xs ys n
  same_to zero none = λ k a b less at_a at_b. absurd (omega arith)
  same_to (suc n) none =
      let before = same_to n (λ k a b less at_a at_b. none k a b (omega arith) at_a at_b) in
      λ k a b less at_a at_b. ⊎_elim
      (λ (below : k < n). before k a b below at_a at_b)
      (λ (le : n ≤ k).
      let here : k ≡ n = omega arith in
      let to_k : HaveSameBodiesTo xs ys k = subst (HaveSameBodiesTo xs ys) (sym here) before in
      ⊎_elim (λ same. same) (λ differ. absurd (none k a b less at_a at_b Overlap (parts k a b at_a at_b to_k differ))) (decide_body a.body b.body))
      (cases_lt k n)

  -- without evidence one list begins the other
  pub begins_one : HasNoEvidence xs ys → Begins xs ys ⊎ Begins ys xs
  begins_one none = ⊎_elim
      (λ (less : length xs < length ys). inl (record { shorter = omega arith; same = same_to (length xs) (λ k a b _ at_a at_b. none k a b at_a at_b) }))
      (λ (le : length ys ≤ length xs). inr (record {
        shorter = le;
        same = λ k b a within at_b at_a. sym (same_to (length ys) (λ i c d _ at_c at_d. none i c d at_c at_d) k a b within at_a at_b);
      }))
      (cases_lt (length xs) (length ys))

  -- where one list begins the other, no evidence is
  pub begins_not : (evidence : Evidence) → IsFirstEvidence xs ys evidence → Begins xs ys ⊎ Begins ys xs → ⊥
  begins_not evidence found one =
      let here = found.here in
      let in_x = slice_get_within xs evidence.place here.a here.left in
      let in_y = slice_get_within ys evidence.place here.b here.right in
      let same : here.a.body ≡ here.b.body = ⊎_elim
      (λ begins. begins.same evidence.place here.a here.b in_x here.left here.right)
      (λ begins. sym (begins.same evidence.place here.b here.a in_y here.right here.left))
      one in
      same_body_convicts_not evidence.place here.a here.b here.left here.right same evidence.kind here.convicts.here

  is_overlap : (k : ℕ) (a b : Entry) (kind : EvidenceKind) → slice_get xs k ≡ Some a → slice_get ys k ≡ Some b
      → HaveSameBodiesTo xs ys k → IsOfFirstKind a b kind → kind ≡ Overlap
  is_overlap k a b Overlap at_a at_b same first = refl
  is_overlap k a b OtherPolicy at_a at_b same first =
      absurd (first.earlier (parts k a b at_a at_b same (λ (e : a.body ≡ b.body). first.here (ap (λ x. x.policy) e))))
  is_overlap k a b Malformed at_a at_b same first = absurd (⊎_elim
      (λ no. no (well_formed hash verdict xs good_x k a at_a)) (λ no. no (well_formed hash other ys good_y k b at_b)) first.here)

  -- the first evidence is an overlap, after the same bodies
  pub first_is_overlap : (evidence : Evidence) → IsFirstEvidence xs ys evidence → (evidence.kind ≡ Overlap) × HaveSameBodiesTo xs ys evidence.place
  first_is_overlap evidence found =
      let same = same_to evidence.place found.earlier in
      (is_overlap evidence.place found.here.a found.here.b evidence.kind found.here.left found.here.right same found.here.convicts, same)

  -- the first n bodies are the same, or there is evidence among them
  walked : (n : ℕ) → n ≤ length xs → n ≤ length ys → HaveSameBodiesTo xs ys n ⊎ ((evidence : Evidence) × IsFirstEvidence xs ys evidence)
  walked zero in_x in_y = inl (λ k a b less at_a at_b. absurd (omega arith))
  walked (suc n) in_x in_y = ⊎_elim
      (λ (same : HaveSameBodiesTo xs ys n).
      let short_x : n < length xs = omega arith in
      let short_y : n < length ys = omega arith in
      let d : Entry = empty_entry in
      let at_a = slice_get-get_or xs n d short_x in
      let at_b = slice_get-get_or ys n d short_y in
      ⊎_elim
      (λ one. inl (same_at_next n (get_or xs n d) (get_or ys n d) at_a at_b same one))
      (λ differ. inr (
        record { place = n; kind = Overlap },
        record {
          earlier = λ k a b less left right. same_body_convicts_not k a b left right (same k a b less left right);
          here = record {
            a = get_or xs n d;
            b = get_or ys n d;
            left = at_a;
            right = at_b;
            convicts = record { here = parts n (get_or xs n d) (get_or ys n d) at_a at_b same differ; earlier = tt };
          };
        },
      ))
      (decide_body (get_or xs n d).body (get_or ys n d).body))
      (λ found. inr found)
      (walked n (omega arith) (omega arith))

  -- good chains of which neither begins the other have evidence
  pub forked : ¬ Begins xs ys → ¬ Begins ys xs → (evidence : Evidence) × IsFirstEvidence xs ys evidence
  forked not_x not_y = ⊎_elim
      (λ (less : length xs < length ys). ⊎_elim
      (λ same. absurd (not_x (record { shorter = omega arith; same = same }))) (λ found. found)
      (walked (length xs) (omega arith) (omega arith)))
      (λ (le : length ys ≤ length xs). ⊎_elim
      (λ same. absurd (not_y (record { shorter = le; same = λ k b a within at_b at_a. sym (same k a b within at_a at_b) }))) (λ found. found)
      (walked (length ys) le (omega arith)))
      (cases_lt (length xs) (length ys))
