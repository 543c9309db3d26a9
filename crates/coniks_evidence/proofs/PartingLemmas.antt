-- Two paths with different answers differ at a level, or in their commitments.
use Rattle.std.proofs.Common.{◌≡◌, ◌≢◌, ℕ, suc, ◌+◌, ◌<◌, List, [], ◌∷◌, length, Bool, refl, sym, ap, subst, ◌∙◌, arith, Option, Some, ◌⊎◌, inl, inr, drop, drop-cons}
use Rattle.std.specs.List.{slice_get}
use Rattle.std.proofs.lemmas.Option.{get_or_from_slice_get, slice_get_within}
use Rattle.std.proofs.Math.Seq.{drop-length}
use Rattle.coniks_proof.specs.Bits.{bit_at, first_bits}
use Rattle.coniks_proof.specs.Preimages.{commitment_preimage, leaf_preimage}
use Rattle.coniks_proof.specs.Proofs.{end_preimage, joined, preimage, LengthsFit, answer_of}
use Rattle.coniks_proof.specs.Collisions.{committed, hashed, KeepsOff, IsSized, Parts}
use Rattle.coniks_proof.specs.Hashing.{Hashing}
use Rattle.coniks_proof.specs.declared.values.Digest.{Digest}
use Rattle.coniks_proof.specs.declared.paths.End.{End}
use Rattle.coniks_proof.specs.declared.paths.End.TheVariants.{Empty, Other, Here}
use Rattle.coniks_evidence.specs.Parting.{Meets, OpenOne}
use Rattle.coniks_evidence.specs.declared.parting.Meeting.{Meeting}
use Rattle.coniks_evidence.proofs.PreimageLemmas.{joined_same, joined_same_sibling, empty-not_joined, leaf-not_joined, empty-not_leaf, leaf_same, commitment_same}

-- what is hashed first is the level's byte list
hashed_first : (by : Hashing) (index : List ℕ) (level : ℕ) (ss : List Digest) (a : End)
    → (rest : List (List ℕ)) × (hashed by index level ss a ≡ preimage by index level ss a ∷ rest)
hashed_first by index level [] Empty = ([], refl)
hashed_first by index level [] (Other other c) = ([], refl)
hashed_first by index level [] (Here name key o) = (commitment_preimage o.0 name key ∷ [], refl)
hashed_first by index level (s ∷ ss) a = (hashed by index (level + 1) ss a, refl)

-- the byte lists of this level differ
pub parts_here : (by : Hashing) (index : List ℕ) (level : ℕ) (ss : List Digest) (a : End) (ts : List Digest) (b : End) (x y : List ℕ)
    → x ≡ preimage by index level ss a → y ≡ preimage by index level ts b → preimage by index level ss a ≢ preimage by index level ts b
    → Parts by index level ss a ts b x y
parts_here by index level ss a ts b x y x-is y-is differ =
    let first_a = hashed_first by index level ss a in
    let first_b = hashed_first by index level ts b in
    record {
      place = record {
        before = [];
        after_x = first_a.0;
        after_y = first_b.0;
        xs_are = first_a.1 ∙ ap (λ z. z ∷ first_a.0) (sym x-is);
        ys_are = first_b.1 ∙ ap (λ z. z ∷ first_b.0) (sym y-is);
        differ = λ same. differ (sym x-is ∙ same ∙ y-is);
      };
      same_hash = λ same. ap by.hash x-is ∙ same ∙ ap by.hash (sym y-is);
    }

-- the byte lists of this level are the same, and those below part
pub parts_below : (by : Hashing) (index : List ℕ) (level : ℕ) (s : Digest) (ss : List Digest) (a : End) (t : Digest) (ts : List Digest) (b : End) (x y : List ℕ)
    → length s.0 ≡ length t.0 → preimage by index level (s ∷ ss) a ≡ preimage by index level (t ∷ ts) b
    → Parts by index (level + 1) ss a ts b x y → Parts by index level (s ∷ ss) a (t ∷ ts) b x y
parts_below by index level s ss a t ts b x y size same below =
    let here = preimage by index level (s ∷ ss) a in
    let place = below.place in
    record {
      place = record {
        before = here ∷ place.before;
        after_x = place.after_x;
        after_y = place.after_y;
        xs_are = ap (λ zs. here ∷ zs) place.xs_are;
        ys_are = ap (λ z. z ∷ hashed by index (level + 1) ts b) (sym same) ∙ ap (λ zs. here ∷ zs) place.ys_are;
        differ = place.differ;
      };
      same_hash = λ _. below.same_hash (joined_same (bit_at index level) s.0 t.0 (by.hash (preimage by index (level + 1) ss a)) (by.hash (preimage by index (level + 1) ts b)) size same);
    }

-- an end isn't an interior node
end-not_joined : (by : Hashing) (index : List ℕ) (level : ℕ) (a : End) (right : Bool) (s u : List ℕ) → end_preimage by index level a ≢ joined right s u
end-not_joined by index level Empty right s u = empty-not_joined by.nonce (first_bits index level) right s u
end-not_joined by index level (Other other c) right s u = leaf-not_joined by.nonce other.0 level c.0 right s u
end-not_joined by index level (Here name key o) right s u = leaf-not_joined by.nonce index level (by.hash (commitment_preimage o.0 name key)) right s u

same_key : (k l : List ℕ) → k ≡ l → let x : Option (List ℕ) = Some k in let y : Option (List ℕ) = Some l in x ≡ y
same_key k l same = ap Some same

-- the ends are at one level and open one commitment: what is hashed to it differs
parts_in_commitments : (by : Hashing) (index : List ℕ) (level : ℕ) (a b : End) (x y : List ℕ)
    → IsSized a → IsSized b → LengthsFit a → LengthsFit b → answer_of a ≢ answer_of b
    → OpenOne by.hash a b → x ≡ committed a → y ≡ committed b → Parts by index level [] a [] b x y
parts_in_commitments by index level Empty b x y sa sb la lb differ one x-is y-is = absurd one
parts_in_commitments by index level (Other other c) b x y sa sb la lb differ one x-is y-is = absurd one
parts_in_commitments by index level (Here n k o) Empty x y sa sb la lb differ one x-is y-is = absurd one
parts_in_commitments by index level (Here n k o) (Other other c) x y sa sb la lb differ one x-is y-is = absurd one
parts_in_commitments by index level (Here n k o) (Here m l p) x y sa sb la lb differ one x-is y-is =
    let here = end_preimage by index level (Here n k o) in
    let leaf = ap (leaf_preimage by.nonce index level) one in
    record {
      place = record {
        before = here ∷ [];
        after_x = [];
        after_y = [];
        xs_are = ap (λ z. here ∷ z ∷ []) (sym x-is);
        ys_are = ap (λ z. z ∷ commitment_preimage p.0 m l ∷ []) (sym leaf) ∙ ap (λ z. here ∷ z ∷ []) (sym y-is);
        differ = λ same. differ (same_key k l (commitment_same o.0 p.0 n m k l (sa ∙ sym sb) (omega (arith, la.0)) (omega (arith, lb.0)) (sym x-is ∙ same ∙ y-is)).2);
      };
      same_hash = λ _. ap by.hash x-is ∙ one ∙ ap by.hash (sym y-is);
    }

-- two ends at one level that open no one commitment are hashed from different bytes
ends_differ : (by : Hashing) (index : List ℕ) (level : ℕ) (a b : End) → length index ≡ 32 → IsSized a → IsSized b → KeepsOff index a → KeepsOff index b
    → answer_of a ≢ answer_of b → ¬ OpenOne by.hash a b → end_preimage by index level a ≢ end_preimage by index level b
ends_differ by index level Empty Empty size sa sb ka kb differ none = absurd (differ refl)
ends_differ by index level Empty (Other other c) size sa sb ka kb differ none = absurd (differ refl)
ends_differ by index level (Other other c) Empty size sa sb ka kb differ none = absurd (differ refl)
ends_differ by index level (Other other c) (Other other' c') size sa sb ka kb differ none = absurd (differ refl)
ends_differ by index level Empty (Here m l p) size sa sb ka kb differ none =
    empty-not_leaf by.nonce (first_bits index level) by.nonce index level (by.hash (commitment_preimage p.0 m l))
ends_differ by index level (Here n k o) Empty size sa sb ka kb differ none =
    λ same. empty-not_leaf by.nonce (first_bits index level) by.nonce index level (by.hash (commitment_preimage o.0 n k)) (sym same)
ends_differ by index level (Other other c) (Here m l p) size sa sb ka kb differ none =
    λ same. ka (leaf_same by.nonce other.0 index level c.0 (by.hash (commitment_preimage p.0 m l)) (sa ∙ sym size) same).0
ends_differ by index level (Here n k o) (Other other c) size sa sb ka kb differ none =
    λ same. kb (leaf_same by.nonce other.0 index level c.0 (by.hash (commitment_preimage o.0 n k)) (sb ∙ sym size) (sym same)).0
ends_differ by index level (Here n k o) (Here m l p) size sa sb ka kb differ none =
    λ same. none (leaf_same by.nonce index index level (by.hash (commitment_preimage o.0 n k)) (by.hash (commitment_preimage p.0 m l)) refl same).1

-- the siblings from a place on are the one there and those after it
pub drop_at : (siblings : List Digest) (k : ℕ) (s : Digest) → slice_get siblings k ≡ Some s → drop k siblings ≡ s ∷ drop (suc k) siblings
drop_at siblings k s there =
    drop-cons siblings k s (slice_get_within siblings k s there) ∙ ap (λ x. x ∷ drop (suc k) siblings) (get_or_from_slice_get siblings k s s there)

-- a path that ends at a level has no siblings from there on
pub ended : (siblings : List Digest) (k : ℕ) → length siblings ≡ k → drop k siblings ≡ []
ended siblings k is = ap (λ n. drop n siblings) (sym is) ∙ drop-length siblings

-- one path ends at the level, the other has siblings there
apart : (by : Hashing) (index : List ℕ) (level : ℕ) (ss : List Digest) (a : End) (ts : List Digest) (b : End)
    → ss ≡ [] → 0 < length ts → preimage by index level ss a ≢ preimage by index level ts b
apart by index level [] a [] b none some = absurd (omega arith)
apart by index level [] a (t ∷ ts) b none some = end-not_joined by index level a (bit_at index level) t.0 (by.hash (preimage by index (level + 1) ts b))
apart by index level (s ∷ ss) a ts b none some = absurd (cc)

pub parts_right_longer : (by : Hashing) (index : List ℕ) (level : ℕ) (ss : List Digest) (a : End) (ts : List Digest) (b : End) (x y : List ℕ)
    → ss ≡ [] → 0 < length ts → x ≡ preimage by index level ss a → y ≡ preimage by index level ts b → Parts by index level ss a ts b x y
parts_right_longer by index level ss a ts b x y none some x-is y-is = parts_here by index level ss a ts b x y x-is y-is (apart by index level ss a ts b none some)

pub parts_left_longer : (by : Hashing) (index : List ℕ) (level : ℕ) (ss : List Digest) (a : End) (ts : List Digest) (b : End) (x y : List ℕ)
    → ts ≡ [] → 0 < length ss → x ≡ preimage by index level ss a → y ≡ preimage by index level ts b → Parts by index level ss a ts b x y
parts_left_longer by index level ss a ts b x y none some x-is y-is =
    parts_here by index level ss a ts b x y x-is y-is (λ same. apart by index level ts b ss a none some (sym same))

-- both end at the level, and open one commitment
pub parts_opened : (by : Hashing) (index : List ℕ) (level : ℕ) (ss : List Digest) (a : End) (ts : List Digest) (b : End) (x y : List ℕ)
    → ss ≡ [] → ts ≡ [] → IsSized a → IsSized b → LengthsFit a → LengthsFit b → answer_of a ≢ answer_of b
    → OpenOne by.hash a b → x ≡ committed a → y ≡ committed b → Parts by index level ss a ts b x y
parts_opened by index level [] a [] b x y none none' sa sb la lb differ one x-is y-is = parts_in_commitments by index level a b x y sa sb la lb differ one x-is y-is
parts_opened by index level [] a (t ∷ ts) b x y none none' sa sb la lb differ one x-is y-is = absurd (cc)
parts_opened by index level (s ∷ ss) a ts b x y none none' sa sb la lb differ one x-is y-is = absurd (cc)

-- both end at the level, and open none
pub parts_at_ends : (by : Hashing) (index : List ℕ) (level : ℕ) (ss : List Digest) (a : End) (ts : List Digest) (b : End) (x y : List ℕ)
    → ss ≡ [] → ts ≡ [] → length index ≡ 32 → IsSized a → IsSized b → KeepsOff index a → KeepsOff index b → answer_of a ≢ answer_of b → ¬ OpenOne by.hash a b
    → x ≡ preimage by index level ss a → y ≡ preimage by index level ts b → Parts by index level ss a ts b x y
parts_at_ends by index level [] a [] b x y none none' size sa sb ka kb differ apart x-is y-is =
    parts_here by index level [] a [] b x y x-is y-is (ends_differ by index level a b size sa sb ka kb differ apart)
parts_at_ends by index level [] a (t ∷ ts) b x y none none' size sa sb ka kb differ apart x-is y-is = absurd (cc)
parts_at_ends by index level (s ∷ ss) a ts b x y none none' size sa sb ka kb differ apart x-is y-is = absurd (cc)

same_digest : (d e : Digest) → d.0 ≡ e.0 → d ≡ e
same_digest d e same = ap (λ (z : List ℕ). let x : Digest = record { 0 = z } in x) same

-- interior nodes of one level: the same bytes exactly where siblings and hashes below are the same
pub nodes_same : (by : Hashing) (index : List ℕ) (level : ℕ) (s : Digest) (ss : List Digest) (a : End) (t : Digest) (ts : List Digest) (b : End) (u v : Digest)
    → u.0 ≡ by.hash (preimage by index (level + 1) ss a) → v.0 ≡ by.hash (preimage by index (level + 1) ts b)
    → (s ≡ t) × (u ≡ v) → preimage by index level (s ∷ ss) a ≡ preimage by index level (t ∷ ts) b
nodes_same by index level s ss a t ts b u v u-is v-is same =
    ap (λ (z : Digest). joined (bit_at index level) z.0 (by.hash (preimage by index (level + 1) ss a))) same.0
    ∙ ap (joined (bit_at index level) t.0) (sym u-is ∙ ap (λ (z : Digest). z.0) same.1 ∙ v-is)

pub same_nodes : (by : Hashing) (index : List ℕ) (level : ℕ) (s : Digest) (ss : List Digest) (a : End) (t : Digest) (ts : List Digest) (b : End) (u v : Digest)
    → u.0 ≡ by.hash (preimage by index (level + 1) ss a) → v.0 ≡ by.hash (preimage by index (level + 1) ts b)
    → length s.0 ≡ length t.0 → preimage by index level (s ∷ ss) a ≡ preimage by index level (t ∷ ts) b → (s ≡ t) × (u ≡ v)
same_nodes by index level s ss a t ts b u v u-is v-is size same = (
  same_digest s t (joined_same_sibling (bit_at index level) s.0 t.0 _ _ size same),
  same_digest u v (u-is ∙ joined_same (bit_at index level) s.0 t.0 _ _ size same ∙ sym v-is),
)

-- what is hashed one level up
pub node_up : (by : Hashing) (index : List ℕ) (siblings : List Digest) (end : End) (k m : ℕ) (s : Digest) (right : Bool) (node below above : List ℕ)
    → m ≡ suc k → slice_get siblings k ≡ Some s → node ≡ preimage by index m (drop m siblings) end → below ≡ by.hash node
    → right ≡ bit_at index k → above ≡ joined right s.0 below → above ≡ preimage by index k (drop k siblings) end
node_up by index siblings end k m s right node below above next there node-is below-is right-is above-is =
    let one_more : m ≡ k + 1 = omega arith in
    let below_at : below ≡ by.hash (preimage by index (k + 1) (drop (suc k) siblings) end) =
    below-is ∙ ap by.hash node-is ∙ ap (λ l. by.hash (preimage by index l (drop m siblings) end)) one_more
    ∙ ap (λ j. by.hash (preimage by index (k + 1) (drop j siblings) end)) next in
    above-is ∙ ap (λ r. joined r s.0 below) right-is ∙ ap (joined (bit_at index k) s.0) below_at
    ∙ ap (λ ss. preimage by index k ss end) (sym (drop_at siblings k s there))

-- two paths one level up
module _ (by : Hashing) (index : List ℕ) (level : ℕ) (s : Digest) (ss : List Digest) (a : End) (t : Digest) (ts : List Digest) (b : End)
    (below : Meeting) (right : Bool) (x y : List ℕ) (result : Meeting) (met : Meets by index (level + 1) ss a ts b below)
    (right-is : right ≡ bit_at index level) (x-is : x ≡ joined right s.0 below.a.0) (y-is : y ≡ joined right t.0 below.b.0)
    (a-is : result.a.0 ≡ by.hash x) (b-is : result.b.0 ≡ by.hash y) (size : length s.0 ≡ length t.0) where
  node_a : x ≡ preimage by index level (s ∷ ss) a
  node_a = x-is ∙ ap (λ r. joined r s.0 below.a.0) right-is ∙ ap (joined (bit_at index level) s.0) met.first

  node_b : y ≡ preimage by index level (t ∷ ts) b
  node_b = y-is ∙ ap (λ r. joined r t.0 below.b.0) right-is ∙ ap (joined (bit_at index level) t.0) met.second

  -- the nodes are the same
  pub climbed_same : (s ≡ t) × (below.a ≡ below.b) → result.parts.x ≡ below.parts.x → result.parts.y ≡ below.parts.y → Meets by index level (s ∷ ss) a (t ∷ ts) b result
  climbed_same pairs left-is right-is = record {
    first = a-is ∙ ap by.hash node_a;
    second = b-is ∙ ap by.hash node_b;
    parts = subst (λ (z : List ℕ). Parts by index level (s ∷ ss) a (t ∷ ts) b z result.parts.y) (sym left-is)
        (subst (λ (z : List ℕ). Parts by index level (s ∷ ss) a (t ∷ ts) b below.parts.x z) (sym right-is)
        (parts_below by index level s ss a t ts b below.parts.x below.parts.y size
        (nodes_same by index level s ss a t ts b below.a below.b met.first met.second pairs) met.parts));
  }

  -- they differ
  pub climbed_apart : ¬ ((s ≡ t) × (below.a ≡ below.b)) → result.parts.x ≡ x → result.parts.y ≡ y → Meets by index level (s ∷ ss) a (t ∷ ts) b result
  climbed_apart pairs left-is right-is = record {
    first = a-is ∙ ap by.hash node_a;
    second = b-is ∙ ap by.hash node_b;
    parts = parts_here by index level (s ∷ ss) a (t ∷ ts) b result.parts.x result.parts.y (left-is ∙ node_a) (right-is ∙ node_b)
        (λ same. pairs (same_nodes by index level s ss a t ts b below.a below.b met.first met.second size same));
  }

-- a step of the climb, at the places of two paths
pub meets_up : (by : Hashing) (index : List ℕ) (sa : List Digest) (a : End) (sb : List Digest) (b : End) (k m : ℕ) (s t : Digest) (below result : Meeting)
    → m ≡ suc k → slice_get sa k ≡ Some s → slice_get sb k ≡ Some t → Meets by index m (drop m sa) a (drop m sb) b below
    → ((ss ts : List Digest) (c d : End) → Meets by index (k + 1) ss c ts d below → Meets by index k (s ∷ ss) c (t ∷ ts) d result)
    → Meets by index k (drop k sa) a (drop k sb) b result
meets_up by index sa a sb b k m s t below result next at_a at_b met step =
    let one_more : m ≡ k + 1 = omega arith in
    let at_next = subst (λ (j : ℕ). Meets by index m (drop j sa) a (drop j sb) b below) next met in
    let up = step (drop (suc k) sa) (drop (suc k) sb) a b (subst (λ (j : ℕ). Meets by index j (drop (suc k) sa) a (drop (suc k) sb) b below) one_more at_next) in
    subst (λ (ss : List Digest). Meets by index k ss a (drop k sb) b result) (sym (drop_at sa k s at_a))
    (subst (λ (ts : List Digest). Meets by index k (s ∷ drop (suc k) sa) a ts b result) (sym (drop_at sb k t at_b)) up)

-- at the root
pub meets_root : (by : Hashing) (index : List ℕ) (sa : List Digest) (a : End) (sb : List Digest) (b : End) (k : ℕ) (meeting : Meeting)
    → k ≡ 0 → Meets by index k (drop k sa) a (drop k sb) b meeting → Parts by index 0 sa a sb b meeting.parts.x meeting.parts.y
meets_root by index sa a sb b k meeting root met = (subst (λ (j : ℕ). Meets by index j (drop j sa) a (drop j sb) b meeting) root met).parts

-- where one of two paths goes on, the other ends
pub other_ended : (m n level : ℕ) → (m ≡ level) ⊎ (n ≡ level) → level < m → n ≡ level
other_ended m n level (inl here) more = absurd (omega arith)
other_ended m n level (inr here) more = here
