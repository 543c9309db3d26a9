-- The bindings of a restore, by functions that give their names the same indices.
use Rattle.std.proofs.Common.{◌≡◌, ◌≤◌, ◌⊎◌, ℕ, zero, suc, List, [], ◌∷◌, ◌++◌, length, map, take, drop, slice_get, refl, sym, ap, subst, ◌∙◌, arith, inl, inr, Some, None, true}
use Rattle.std.proofs.Math.Seq.{drop-append_seam}
use Rattle.std.proofs.lemmas.List.{drop-map, length-append, take-map}
use Rattle.coniks_chain.specs.declared.entry.Entry.{Entry as Signed}
use Rattle.coniks_directory.proofs.Words.{ArePendingRecords, BTreeMap, Entry, IsMap, Operation, Record, Registered, State, after, bound_by, fault_from, first_fault, has_name, length-map, registered_of}
use Rattle.coniks_directory.specs.Restored.{IsRestoring, registration, registrations}
use Rattle.coniks_directory.specs.Supplied.{AgreeOn, Supplied, is_supplied, supplied_index}
use Rattle.coniks_directory.specs.SuppliedBatches.{AreOf, binding_index, indices_by, indices_in, put_indices}
use Rattle.coniks_directory.specs.declared.supplied_batch.OwnedBindings.{OwnedBindings}
use Rattle.coniks_proof.proofs.Lemmas.{named_in}
use Rattle.coniks_directory.proofs.AgreementLemmas.{entries_agree, first_agree, has_either, has_old}
use Rattle.coniks_directory.proofs.PendingLemmas.{by_records, front, record_in}
use Rattle.coniks_directory.proofs.RestoreLemmas.{added_faultless, added_ops, bound_registrations}
use Rattle.coniks_directory.proofs.SuppliedBatchLemmas.{has_indices, stored_is, stored_take, retained_agree, put_of}

-- bound names keep their indices
pub bound_agree : (index_of : List ℕ → List ℕ) (bound : List Registered) (batch : OwnedBindings) → AgreeOn index_of (binding_index index_of bound batch) bound
bound_agree index_of bound batch = λ name has. rw has refl

pub agree_back : (index_of also : List ℕ → List ℕ) (bound : List Registered) → AgreeOn index_of also bound → AgreeOn also index_of bound
agree_back index_of also bound agree = λ name has. sym (agree name has)

-- the records of bindings are so by each function that gives the bound names the same indices
pub pending_agree : (hash index_of also : List ℕ → List ℕ) (bound : List Registered) (records : List Record) (numbers : BTreeMap (List ℕ) ℕ)
    → AgreeOn index_of also bound → ArePendingRecords hash index_of bound records numbers → ArePendingRecords hash also bound records numbers
pending_agree hash index_of also bound records numbers agree s = record {
  binds = s.binds;
  drafted = λ n r at.
      let d = s.drafted n r at in
      let has : has_name bound r.binding.name ≡ true = subst (λ (bs : List Registered). has_name bs r.binding.name ≡ true) s.binds
      (named_in (registered_of r) (map registered_of records) (record_in records n r at)) in
      record { indexed = d.indexed ∙ agree r.binding.name has; ranged = d.ranged; named = d.named; keyed = d.keyed };
  retained = s.retained;
  all = s.all;
  ordered = s.ordered;
  counted = s.counted;
  distinct = subst (λ (xs : List (Entry Registered)). IsMap xs) (entries_agree hash index_of also bound agree) s.distinct;
}

-- so is a restore
pub restoring_agree : (hash index_of also : List ℕ → List ℕ) (entry : Signed) (s : State) (records : List Record) (numbers : BTreeMap (List ℕ) ℕ)
    → AgreeOn index_of also (map registered_of records) → IsRestoring hash index_of entry s records numbers → IsRestoring hash also entry s records numbers
restoring_agree hash index_of also entry s records numbers agree r =
    let ops = registrations records in
    let all : AgreeOn index_of also (after [] ops) = λ name has.
    agree name (subst (λ (bs : List Registered). has_name bs name ≡ true) (bound_registrations (map registered_of records)) (has_old (map bound_by ops) name has)) in
    record {
      formed = r.formed;
      opened = r.opened;
      pending = pending_agree hash index_of also (map registered_of records) records numbers agree r.pending;
      faultless = sym (first_agree hash index_of also [] ops all) ∙ r.faultless;
    }

-- ---- the indices of records

-- records have the function's indices
stored_all : (index_of : List ℕ → List ℕ) (records : List Record) → ((n : ℕ) (r : Record) → slice_get records n ≡ Some r → r.index.0 ≡ index_of r.binding.name) → AreOf index_of (indices_in records)
stored_all index_of [] each = tt
stored_all index_of (r ∷ rs) each = (each 0 r refl, stored_all index_of rs (λ n x at. each (suc n) x at))

stored_drop : (index_of : List ℕ → List ℕ) (records : List Record) (n : ℕ) → AreOf index_of (indices_in records) → AreOf index_of (indices_in (drop n records))
stored_drop index_of records zero stored = stored
stored_drop index_of [] (suc n) stored = tt
stored_drop index_of (r ∷ rs) (suc n) stored = stored_drop index_of rs n stored.1

-- ---- bindings that come with their indices, after those of records

module _ (hash : List ℕ → List ℕ) (source : List Supplied) (batch : OwnedBindings) (entry : Signed) (s : State)
    (old new : List Record) (numbers numbers' : BTreeMap (List ℕ) ℕ) (ops : List Operation)
    (r : IsRestoring hash (supplied_index source) entry s old numbers) where
  abbrev bound : List Registered
  bound = map registered_of old

  abbrev given : List ℕ → List ℕ
  given = binding_index (supplied_index source) bound batch

  -- the restore as it was, by the indices that the bindings are checked by
  was : IsRestoring hash given entry s old numbers
  was = restoring_agree hash (supplied_index source) given entry s old numbers (bound_agree (supplied_index source) bound batch) r

  module _ (p : ArePendingRecords hash given (bound ++ map bound_by ops) new numbers') where
    abbrev rest : List Record
    rest = drop (length old) new

    pub long_enough : length old ≤ length new
    long_enough =
        omega (arith, length-map old registered_of, length-map new registered_of, ap length p.binds, length-append bound (map bound_by ops))

    stored_rest : AreOf given (indices_in rest)
    stored_rest = stored_drop given new (length old) (stored_all given new (λ n x at. (p.drafted n x at).indexed))

    rest_binds : map registered_of rest ≡ map bound_by ops
    rest_binds =
        sym (drop-map registered_of (length old) new) ∙ ap (drop (length old)) p.binds
        ∙ ap (λ n. drop n (bound ++ map bound_by ops)) (sym (length-map old registered_of)) ∙ drop-append_seam bound (map bound_by ops)

    pub rest_indices : indices_in rest ≡ indices_by given ops
    rest_indices = stored_is given rest ops rest_binds stored_rest

    pub first_indices : (n : ℕ) → indices_in (take n rest) ≡ take n (indices_by given ops)
    first_indices n = sym (take-map (λ (x : Record). (x.binding.name, x.index.0)) n rest) ∙ ap (take n) rest_indices

    -- all indices are supplied
    all_put : AgreeOn given (supplied_index (put_indices source (indices_in rest))) (map registered_of new)
    all_put name has =
        let known : (supplied_index source name ≡ given name) ⊎ (is_supplied (indices_in rest) name ≡ true) =
        has_either bound (map bound_by ops) name ((supplied_index source name ≡ given name) ⊎ (is_supplied (indices_in rest) name ≡ true))
        (λ before. inl (bound_agree (supplied_index source) bound batch name before))
        (λ later. inr (has_indices rest name ∙ ap (λ (bs : List Registered). has_name bs name) rest_binds ∙ later))
        (subst (λ (bs : List Registered). has_name bs name ≡ true) p.binds has) in
        sym (put_of given (indices_in rest) source name stored_rest known)

    pub restoring_more : fault_from given [] bound 0 ops ≡ None
        → IsRestoring hash (supplied_index (put_indices source (indices_in rest))) entry s new numbers'
    restoring_more none =
        restoring_agree hash given (supplied_index (put_indices source (indices_in rest))) entry s new numbers' all_put (record {
          formed = r.formed;
          opened = r.opened;
          pending = by_records hash given (bound ++ map bound_by ops) new numbers' p;
          faultless = added_faultless hash given old new numbers' ops p was.faultless none;
        })

    pub more_ops : fault_from given [] bound 0 ops ≡ None → registrations new ≡ registrations old ++ ops
    more_ops none = added_ops hash given old new numbers' ops p was.faultless none

    -- some are supplied, and the records of the bindings are removed
    module _ (left : List Record) (numbers'' : BTreeMap (List ℕ) ℕ) (n : ℕ) (is : left ≡ take (length old) new)
        (q : ArePendingRecords hash given (map registered_of left) left numbers'') where
      pub left_ops : registrations left ≡ registrations old
      left_ops = ap (map registration) left_binds
        where
          left_binds : map registered_of left ≡ bound
          left_binds = ap (map registered_of) is ∙ sym (take-map registered_of (length old) new)
              ∙ sym (front (map registered_of new) bound (map bound_by ops) (length old) p.binds (length-map old registered_of))

      pub some_retained : AgreeOn (supplied_index source) (supplied_index (put_indices source (indices_in (take n rest)))) bound
      some_retained = retained_agree given source (indices_in (take n rest)) bound (bound_agree (supplied_index source) bound batch) (stored_take given rest n stored_rest)

      pub restoring_less : IsRestoring hash (supplied_index (put_indices source (indices_in (take n rest)))) entry s left numbers''
      restoring_less =
          let some = supplied_index (put_indices source (indices_in (take n rest))) in
          let binds : map registered_of left ≡ bound = sym (bound_registrations (map registered_of left)) ∙ ap (map bound_by) left_ops ∙ bound_registrations bound in
          let agree : AgreeOn given some (map registered_of left) = λ name has.
          let before : has_name bound name ≡ true = subst (λ (bs : List Registered). has_name bs name ≡ true) binds has in
          sym (bound_agree (supplied_index source) bound batch name before) ∙ some_retained name before in
          restoring_agree hash given some entry s left numbers'' agree (record {
            formed = r.formed;
            opened = r.opened;
            pending = q;
            faultless = ap (first_fault given []) left_ops ∙ was.faultless;
          })
