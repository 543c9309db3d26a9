-- Two ways to one index, climbed together.
use Rattle.std.proofs.Common.{◌≡◌, ◌≢◌, ℕ, ◌+◌, ◌<◌, List, [], ◌∷◌, ◌++◌, length, Bool, true, false, refl, sym, ap, ◌∙◌, arith, Option, Some, None, ◌⊎◌, inl, inr}
use Rattle.coniks_proof.specs.Bits.{bit_at, first_bits}
use Rattle.coniks_proof.specs.Preimages.{commitment_preimage, leaf_preimage}
use Rattle.coniks_proof.specs.Proofs.{end_preimage, joined, preimage, LengthsFit, answer_of}
use Rattle.coniks_proof.specs.Collisions.{committed, KeepsOff, IsSized, Parts}
use Rattle.coniks_proof.specs.Hashing.{Hashing}
use Rattle.coniks_proof.specs.Meetings.{PartsAt, CommitmentIs}
use Rattle.coniks_proof.specs.declared.values.Digest.{Digest}
use Rattle.coniks_proof.specs.declared.paths.End.{End}
use Rattle.coniks_proof.specs.declared.paths.End.TheVariants.{Empty, Other, Here}
use Rattle.coniks_proof.specs.declared.meeting.Place.{Place}
use Rattle.coniks_proof.specs.declared.meeting.Place.TheVariants.{Level, Commitments}
use Rattle.coniks_proof.proofs.PreimageLemmas.{joined_same, split_same, split_same_end, empty-not_leaf, leaf_same}
use Rattle.coniks_proof.proofs.CollisionLemmas.{parts_here, parts_below, parts_in_commitments, end-not_joined}

same_tail : (x y : ℕ) (xs ys : List ℕ) → x ∷ xs ≡ y ∷ ys → xs ≡ ys
same_tail x y xs ys same = cc

joined_same_sibling : (right : Bool) (s t u v : List ℕ) → length s ≡ length t → joined right s u ≡ joined right t v → s ≡ t
joined_same_sibling true s t u v size same = (split_same s t u v size (same_tail 73 73 (s ++ u) (t ++ v) same)).0
joined_same_sibling false s t u v size same = (split_same_end u v s t size (same_tail 73 73 (u ++ s) (v ++ t) same)).1

same_digest : (d e : Digest) → d.0 ≡ e.0 → d ≡ e
same_digest d e same = ap (λ (z : List ℕ). let x : Digest = record { 0 = z } in x) same

-- two ends at one level with the same bytes are both the name's, with one commitment
pub ends_alike : (by : Hashing) (index : List ℕ) (level : ℕ) (a b : End) (c d : Digest)
    → CommitmentIs by.hash a (Some c) → CommitmentIs by.hash b (Some d) → end_preimage by index level a ≡ end_preimage by index level b → c ≡ d
ends_alike by index level Empty b c d p q same = cc
ends_alike by index level (Other other e) b c d p q same = cc
ends_alike by index level (Here n k o) Empty c d p q same = cc
ends_alike by index level (Here n k o) (Other other e) c d p q same = cc
ends_alike by index level (Here n k o) (Here m l r) c d p q same =
    same_digest c d (p ∙ (leaf_same by.nonce index index level (by.hash (commitment_preimage o.0 n k)) (by.hash (commitment_preimage r.0 m l)) refl same).1 ∙ sym q)

pub alike_ends : (by : Hashing) (index : List ℕ) (level : ℕ) (a b : End) (c d : Digest)
    → CommitmentIs by.hash a (Some c) → CommitmentIs by.hash b (Some d) → c ≡ d → end_preimage by index level a ≡ end_preimage by index level b
alike_ends by index level Empty b c d p q same = cc
alike_ends by index level (Other other e) b c d p q same = cc
alike_ends by index level (Here n k o) Empty c d p q same = cc
alike_ends by index level (Here n k o) (Other other e) c d p q same = cc
alike_ends by index level (Here n k o) (Here m l r) c d p q same =
    ap (leaf_preimage by.nonce index level) (sym p ∙ ap (λ (z : Digest). z.0) same ∙ q)

-- one of the ends has no commitment, and the answers differ
pub ends_differ : (by : Hashing) (index : List ℕ) (level : ℕ) (a b : End) (c d : Option Digest)
    → CommitmentIs by.hash a c → CommitmentIs by.hash b d → length index ≡ 32 → IsSized a → IsSized b → KeepsOff index a → KeepsOff index b → answer_of a ≢ answer_of b
    → (let none : Option Digest = None in (c ≡ none → end_preimage by index level a ≢ end_preimage by index level b)
    × (d ≡ none → end_preimage by index level a ≢ end_preimage by index level b))
ends_differ by index level Empty Empty c d p q size sa sb ka kb differ = absurd (differ refl)
ends_differ by index level Empty (Other o e) c d p q size sa sb ka kb differ = absurd (differ refl)
ends_differ by index level (Other o e) Empty c d p q size sa sb ka kb differ = absurd (differ refl)
ends_differ by index level (Other o e) (Other o' e') c d p q size sa sb ka kb differ = absurd (differ refl)
ends_differ by index level Empty (Here m l r) c d p q size sa sb ka kb differ =
    let apart = empty-not_leaf by.nonce (first_bits index level) by.nonce index level (by.hash (commitment_preimage r.0 m l)) in ((λ _. apart), (λ _. apart))
ends_differ by index level (Here n k o) Empty c d p q size sa sb ka kb differ =
    let apart = empty-not_leaf by.nonce (first_bits index level) by.nonce index level (by.hash (commitment_preimage o.0 n k)) in ((λ _ same. apart (sym same)), (λ _ same. apart (sym same)))
ends_differ by index level (Other other e) (Here m l r) c d p q size sa sb ka kb differ =
    let apart : leaf_preimage by.nonce other.0 level e.0 ≢ leaf_preimage by.nonce index level (by.hash (commitment_preimage r.0 m l)) =
    λ same. ka (leaf_same by.nonce other.0 index level e.0 (by.hash (commitment_preimage r.0 m l)) (sa ∙ sym size) same).0 in ((λ _. apart), (λ _. apart))
ends_differ by index level (Here n k o) (Other other e) c d p q size sa sb ka kb differ =
    let apart : leaf_preimage by.nonce index level (by.hash (commitment_preimage o.0 n k)) ≢ leaf_preimage by.nonce other.0 level e.0 =
    λ same. kb (leaf_same by.nonce other.0 index level e.0 (by.hash (commitment_preimage o.0 n k)) (sb ∙ sym size) (sym same)).0 in ((λ _. apart), (λ _. apart))
ends_differ by index level (Here n k o) (Here m l r) None d p q size sa sb ka kb differ = absurd p
ends_differ by index level (Here n k o) (Here m l r) (Some c) None p q size sa sb ka kb differ = absurd q
ends_differ by index level (Here n k o) (Here m l r) (Some c) (Some d) p q size sa sb ka kb differ = ((λ none. cc), (λ none. cc))

pub place_here : (by : Hashing) (index : List ℕ) (level : ℕ) (ss : List Digest) (a : End) (ts : List Digest) (b : End)
    → preimage by index level ss a ≢ preimage by index level ts b
    → Parts by index level ss a ts b (preimage by index level ss a) (preimage by index level ts b)
place_here by index level ss a ts b differ = parts_here by index level ss a ts b _ _ refl refl differ

pub apart_at_end : (by : Hashing) (index : List ℕ) (level : ℕ) (ss : List Digest) (a : End) (ts : List Digest) (b : End)
    → length ss ≡ 0 → 0 < length ts → preimage by index level ss a ≢ preimage by index level ts b
apart_at_end by index level [] a [] b none some = absurd (omega arith)
apart_at_end by index level [] a (t ∷ ts) b none some = end-not_joined by index level a (bit_at index level) t.0 (by.hash (preimage by index (level + 1) ts b))
apart_at_end by index level (s ∷ ss) a ts b none some = absurd (omega arith)

pub both_end : (by : Hashing) (index : List ℕ) (level : ℕ) (ss : List Digest) (a : End) (ts : List Digest) (b : End)
    → length ss ≡ 0 → length ts ≡ 0 → (preimage by index level ss a ≡ end_preimage by index level a) × (preimage by index level ts b ≡ end_preimage by index level b)
both_end by index level [] a [] b none none' = (refl, refl)
both_end by index level [] a (t ∷ ts) b none none' = absurd (omega arith)
both_end by index level (s ∷ ss) a ts b none none' = absurd (omega arith)

pub in_commitments : (by : Hashing) (index : List ℕ) (level : ℕ) (ss : List Digest) (a : End) (ts : List Digest) (b : End)
    → length ss ≡ 0 → length ts ≡ 0 → length index ≡ 32 → IsSized a → IsSized b → LengthsFit a → LengthsFit b → KeepsOff index a → KeepsOff index b → answer_of a ≢ answer_of b
    → end_preimage by index level a ≡ end_preimage by index level b → Parts by index level ss a ts b (committed a) (committed b)
in_commitments by index level [] a [] b none none' size sa sb la lb ka kb differ same = parts_in_commitments by index level a b size sa sb la lb ka kb differ same
in_commitments by index level [] a (t ∷ ts) b none none' size sa sb la lb ka kb differ same = absurd (omega arith)
in_commitments by index level (s ∷ ss) a ts b none none' size sa sb la lb ka kb differ same = absurd (omega arith)

pub place_below : (by : Hashing) (index : List ℕ) (level : ℕ) (rs : List Digest) (s : Digest)
    (ss : List Digest) (a : End) (us : List Digest) (t : Digest) (ts : List Digest) (b : End) (place : Place)
    → rs ≡ s ∷ ss → us ≡ t ∷ ts → length s.0 ≡ length t.0 → preimage by index level rs a ≡ preimage by index level us b
    → PartsAt by index (level + 1) ss a ts b place → PartsAt by index level rs a us b place
place_below by index level rs s ss a us t ts b (Level l xs ys) some_a some_b size same below =
    rw (some_a, some_b) (parts_below by index level s ss a t ts b _ _ size (rw (some_a, some_b) at same) below)
place_below by index level rs s ss a us t ts b Commitments some_a some_b size same below =
    rw (some_a, some_b) (parts_below by index level s ss a t ts b _ _ size (rw (some_a, some_b) at same) below)

-- interior nodes of one level: the same bytes exactly where siblings and hashes below are the same
pub nodes_same : (by : Hashing) (index : List ℕ) (level : ℕ) (rs : List Digest) (s : Digest)
    (ss : List Digest) (a : End) (us : List Digest) (t : Digest) (ts : List Digest) (b : End) (u v : Digest)
    → rs ≡ s ∷ ss → us ≡ t ∷ ts → u.0 ≡ by.hash (preimage by index (level + 1) ss a) → v.0 ≡ by.hash (preimage by index (level + 1) ts b)
    → (s ≡ t) × (u ≡ v) → preimage by index level rs a ≡ preimage by index level us b
nodes_same by index level rs s ss a us t ts b u v some_a some_b u-is v-is same =
    rw (some_a, some_b) (ap (λ (z : Digest). joined (bit_at index level) z.0 (by.hash (preimage by index (level + 1) ss a))) same.0
    ∙ ap (joined (bit_at index level) t.0) (sym u-is ∙ ap (λ (z : Digest). z.0) same.1 ∙ v-is))

pub same_nodes : (by : Hashing) (index : List ℕ) (level : ℕ) (rs : List Digest) (s : Digest)
    (ss : List Digest) (a : End) (us : List Digest) (t : Digest) (ts : List Digest) (b : End) (u v : Digest)
    → rs ≡ s ∷ ss → us ≡ t ∷ ts → u.0 ≡ by.hash (preimage by index (level + 1) ss a) → v.0 ≡ by.hash (preimage by index (level + 1) ts b)
    → length s.0 ≡ length t.0 → preimage by index level rs a ≡ preimage by index level us b → (s ≡ t) × (u ≡ v)
same_nodes by index level rs s ss a us t ts b u v some_a some_b u-is v-is size same =
    let both = rw (some_a, some_b) at same in (
      same_digest s t (joined_same_sibling (bit_at index level) s.0 t.0 _ _ size both),
      same_digest u v (u-is ∙ joined_same (bit_at index level) s.0 t.0 _ _ size both ∙ sym v-is),
    )

pub other_ended : (m n : ℕ) → (m ≡ 0) ⊎ (n ≡ 0) → 0 < m → n ≡ 0
other_ended m n (inl none) some = absurd (omega arith)
other_ended m n (inr none) some = none
