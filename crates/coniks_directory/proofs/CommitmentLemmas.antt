-- The records of a batch and their commitments.
use Rattle.std.proofs.Common.{◌≡◌, ◌<◌, ◌≤◌, ◌+◌, ℕ, zero, suc, List, [], ◌∷◌, ◌++◌, length, map, take, drop, set, get_or, arith, length-append, take-append-drop, refl, sym, ap, subst, ◌∙◌, Some, slice_get}
use Rattle.std.proofs.lemmas.List.{drop_all, get_or-map}
use Rattle.std.proofs.lemmas.List.Edits.{map_over_more}
use Rattle.std.proofs.Math.Seq.{map-set_same}
use Rattle.coniks_directory.proofs.Words.{ArePendingRecords, AreCommitmentsFrom, AreCommitted, AreCommittedTo, AreWithin, BTreeMap, Digest, IsCommitmentAt, IsPendingRecord, IsLength, MAX_KEY, MAX_NAME, Record, Registered}
use Rattle.coniks_directory.proofs.Words.{append-nil, commitment_to, length-map, map-map, number_at, option_map, registered_of, committed_by}
use Rattle.coniks_directory.proofs.Words.{slice_get-map, slice_get_read, take_all}

-- the record with another commitment
abbrev pub with_commitment : Record → Digest → Record
with_commitment r c = record r { commitment = c }

-- a whole list that is written back replaces the old one
pub written_back : {T : Type 0} (old new : List T) (n : ℕ) → length new ≡ length old → n ≡ length old → take n (new ++ drop (length new) old) ≡ new
written_back old new n many all = rw (drop_all (length new) old (omega (arith, many)), append-nil) (take_all n new (omega (arith, many, all)))

-- ---- one record after another

-- name and key of a record are within their limits
pub within_at : (records : List Record) (n : ℕ) (r : Record) → AreWithin (map registered_of records) → n < length records → r ≡ get_or records n r
    → IsLength MAX_NAME r.binding.name × IsLength MAX_KEY r.binding.key
within_at [] n r within there is = absurd (omega arith)
within_at (x ∷ xs) zero r within there is = rw is (within.0, within.1)
within_at (x ∷ xs) (suc n) r within there is = within_at xs n r within.2 (omega arith) is

-- the binding of the record at a place
pub found_at : (records : List Record) (n : ℕ) (r : Record) → n < length records → r ≡ get_or records n r → slice_get (map registered_of records) n ≡ Some (registered_of r)
found_at records n r there is = slice_get-map registered_of records n ∙ ap (option_map registered_of) (slice_get_read records (length records) n r refl there is)

pub bound_at : (records : List Record) (n : ℕ) (r : Record) (b : Registered) → n < length records → r ≡ get_or records n r → slice_get (map registered_of records) n ≡ Some b → registered_of r ≡ b
bound_at records n r b there is at = let found = found_at records n r there is in cc

-- the bindings are unchanged
pub binds_still : (records : List Record) (place : ℕ) (r : Record) (c : Digest) → r ≡ get_or records place r
    → map registered_of (set records place (with_commitment r c)) ≡ map registered_of records
binds_still records place r c is = map-set_same registered_of records place (with_commitment r c) r (ap registered_of is)

-- the commitment of each of these records
pub commitment_from : (hash : List ℕ → List ℕ) (records : List Record) (place : ℕ) (bytes : List (List ℕ)) (n : ℕ) → n < length bytes
    → AreCommitmentsFrom hash records place bytes → IsCommitmentAt hash records (place + n) (get_or bytes n [])
commitment_from hash records place [] n lt from = absurd (omega arith)
commitment_from hash records place (x ∷ xs) zero lt from = subst (λ (k : ℕ). IsCommitmentAt hash records k x) (omega arith) from.0
commitment_from hash records place (x ∷ xs) (suc n) lt from =
    subst (λ (k : ℕ). IsCommitmentAt hash records k (get_or xs n [])) (omega arith) (commitment_from hash records (place + 1) xs n (omega arith) from.1)

-- the commitments of eight records
pub eight_from : (hash : List ℕ → List ℕ) (records : List Record) (place : ℕ) {a b c d e f g h : List ℕ}
    → IsCommitmentAt hash records place a → IsCommitmentAt hash records (place + 1) b → IsCommitmentAt hash records (place + 2) c
    → IsCommitmentAt hash records (place + 3) d → IsCommitmentAt hash records (place + 4) e → IsCommitmentAt hash records (place + 5) f
    → IsCommitmentAt hash records (place + 6) g → IsCommitmentAt hash records (place + 7) h
    → AreCommitmentsFrom hash records place (a ∷ b ∷ c ∷ d ∷ e ∷ f ∷ g ∷ h ∷ [])
eight_from hash records place {c = c} {d = d} {e = e} {f = f} {g = g} {h = h} at_a at_b at_c at_d at_e at_f at_g at_h =
    let at = λ (k : ℕ) (bytes : List ℕ). IsCommitmentAt hash records k bytes in (
      at_a,
      (
        at_b,
        (
          subst (λ k. at k c) (omega arith) at_c,
          (
            subst (λ k. at k d) (omega arith) at_d,
            (
              subst (λ k. at k e) (omega arith) at_e,
              (subst (λ k. at k f) (omega arith) at_f, (subst (λ k. at k g) (omega arith) at_g, (subst (λ k. at k h) (omega arith) at_h, tt))),
            ),
          ),
        ),
      ),
    )

-- the commitment of one of these records, whose bindings are unchanged
pub commitment_still : (hash : List ℕ → List ℕ) (first records : List Record) (place n : ℕ) (commitments : List Digest) (c d : Digest) → n < length commitments
    → c ≡ get_or commitments n d → map registered_of records ≡ map registered_of first → AreCommitmentsFrom hash first place (map (λ d. d.0) commitments)
    → IsCommitmentAt hash records (place + n) c.0
commitment_still hash first records place n commitments c d lt is same from = λ b at.
    let many : n < length (map (λ d. d.0) commitments) = omega (arith, length-map commitments (λ d. d.0)) in
    ap (λ x. x.0) is ∙ sym (get_or-map (λ x. x.0) commitments n d [] lt)
    ∙ commitment_from hash first place (map (λ d. d.0) commitments) n many from b (subst (λ rs. slice_get rs (place + n) ≡ Some b) same at)

module _ (hash : List ℕ → List ℕ) where
  as_many : (all records : List Record) (place : ℕ) → AreCommittedTo hash all place records → length records ≡ length all
  as_many all records place so =
      ap length so ∙ length-append (map (committed_by hash) (take place all)) (drop place all) ∙ ap (λ n. n + length (drop place all)) (length-map (take place all) (committed_by hash))
      ∙ sym (length-append (take place all) (drop place all)) ∙ ap length (take-append-drop place all)

  -- one more record is committed
  pub committed_next : (all records : List Record) (place : ℕ) (r : Record) (c : Digest) → place < length records → r ≡ get_or records place r → c.0 ≡ commitment_to hash (registered_of r)
      → AreCommittedTo hash all place records → AreCommittedTo hash all (place + 1) (set records place (with_commitment r c))
  committed_next all records place r c there is committed so =
      let same : with_commitment r c ≡ committed_by hash r = ap (λ d. with_commitment r (record { 0 = d })) committed in
      rw same (map_over_more (committed_by hash) all records place r (omega (arith, there, as_many all records place so)) so is)

  -- ---- all records

  pub committed_end : (all records : List Record) (place : ℕ) → length records ≤ place → AreCommittedTo hash all place records → records ≡ map (committed_by hash) all
  committed_end all records place past so =
      let long : length all ≤ place = let many = as_many all records place so in omega arith in
      rw (take_all place all long, drop_all place all long, append-nil) at so

  committed_at : (records : List Record) (n : ℕ) (r : Record) → slice_get (map (committed_by hash) records) n ≡ Some r
      → (x : Record) × (slice_get records n ≡ Some x) × (committed_by hash x ≡ r)
  committed_at [] n r at = absurd (let never = at in cc)
  committed_at (x ∷ xs) zero r at = let same : committed_by hash x ≡ r = cc in (x, refl, same)
  committed_at (x ∷ xs) (suc n) r at = committed_at xs n r at

  at_committed : (records : List Record) (n : ℕ) (x : Record) → slice_get records n ≡ Some x → slice_get (map (committed_by hash) records) n ≡ Some (committed_by hash x)
  at_committed records n x at = rw (slice_get-map, at) refl

  pub are_committed : (records : List Record) → AreCommitted hash (map (committed_by hash) records)
  are_committed records n r at = let k = committed_at records n r at in subst (λ (x : Record). x.commitment.0 ≡ commitment_to hash (registered_of x)) k.2 refl

  -- committed pending records are pending records
  module _ (other index_of : List ℕ → List ℕ) (bound : List Registered) (records : List Record) (numbers : BTreeMap (List ℕ) ℕ) (s : ArePendingRecords other index_of bound records numbers) where
    pub drafts_committed : ArePendingRecords other index_of bound (map (committed_by hash) records) numbers
    drafts_committed = record {
      binds = map-map registered_of (committed_by hash) records ∙ s.binds;
      drafted = λ n r at. let k = committed_at records n r at in let d = s.drafted n k.0 k.1 in subst
          (IsPendingRecord index_of) k.2 (record { indexed = d.indexed; ranged = d.ranged; named = d.named; keyed = d.keyed });
      retained = λ index n some. let k = s.retained index n some in (committed_by hash k.0, at_committed records n k.0 k.1, k.2);
      all = λ n r at. let k = committed_at records n r at in subst (λ (x : Record). number_at numbers x.index.0 ≡ Some n) k.2 (s.all n k.0 k.1);
      ordered = s.ordered;
      counted = s.counted ∙ sym (length-map records (committed_by hash));
      distinct = s.distinct;
    }

-- the names and keys of pending records are within their limits
within_all : (index_of : List ℕ → List ℕ) (records : List Record) → ((n : ℕ) (r : Record) → slice_get records n ≡ Some r → IsPendingRecord index_of r) → AreWithin (map registered_of records)
within_all index_of [] drafted = tt
within_all index_of (x ∷ xs) drafted = let d = drafted 0 x refl in (d.named, d.keyed, within_all index_of xs (λ n r at. drafted (suc n) r at))

pub drafts_within : (hash index_of : List ℕ → List ℕ) (bound : List Registered) (records : List Record) (numbers : BTreeMap (List ℕ) ℕ) → ArePendingRecords hash index_of bound records numbers
    → AreWithin (map registered_of records)
drafts_within hash index_of bound records numbers s = within_all index_of records s.drafted
