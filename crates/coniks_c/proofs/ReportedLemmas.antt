-- What depends on a verification function and an index scheme only where the caller passed their results.
use Rattle.std.proofs.Common.{◌≡◌, ◌==◌, ◌-◌, ℕ, List, Bool, Option, Some, None, length, inl, inr, sym, ap, subst, ◌∙◌, refl, IfSome, drop}
use Rattle.std.specs.List.{slice_get}
use Rattle.std.proofs.lemmas.List.{drop-drop}
use Rattle.coniks_proof.specs.Sha256.{sha256}
use Rattle.coniks_chain.specs.Entries.{entry_from}
use Rattle.coniks_chain.specs.declared.entry.Entry.{Entry}
use Rattle.coniks_client.specs.Feeding.{IsRefusedAlone, IsSigned, IsUnsigned, IsVerified}
use Rattle.coniks_client.specs.Lookups.{Answers, AnswersNone, IsFound, IsNotFound, IsUnvetted, IsUnvettedReply, IsVetted, IsVettedReply}
use Rattle.coniks_client.specs.Owner.{Scheme}
use Rattle.coniks_client.specs.Replies.{after_entry, entry_part, proof_part, vrf_part}
use Rattle.coniks_client.specs.declared.feeding.EntryFault.{EntryFault}
use Rattle.coniks_client.specs.declared.feeding.EntryFault.TheVariants.{EntryLength, Signature, OtherPolicy, Malformed}
use Rattle.coniks_client.specs.declared.stored.StoredEntry.{StoredEntry}
use Rattle.coniks_client.specs.declared.lookups.LookupFault.{LookupFault}
use Rattle.coniks_client.specs.declared.lookups.LookupFault.TheVariants.{NoReply, OfEntry, Equivocation, UnknownEpoch, OtherEpoch, OffTime, VrfProof, Wire, Check}
use Rattle.coniks_client.specs.declared.times.Present.{Present}
use Rattle.coniks_client.specs.declared.changes.Change.{Change}
use Rattle.coniks_client.specs.declared.watching.Watch.{Watch}
use Rattle.coniks_client.specs.StoredEntry.{epoch_in}
use Rattle.coniks_client.specs.Steps.{Marks, given_changes, given_number}
use Rattle.coniks_proof.specs.Wire.{short_length}
use Rattle.coniks_c.proofs.KeyLemmas.{Ends, ends_drop, last_part, wire_ends}
use Rattle.coniks_c.specs.Checked.{part}
use Rattle.coniks_c.specs.CoreStatuses.{seen_of, shows_of}
use Rattle.coniks_c.specs.CoreReported.{IsAnswered, IsIndexedBy, reported_index}
use Rattle.coniks_c.specs.Crossing.{IsReportedBy}
use Rattle.coniks_c.specs.declared.core_values.RawFound.{RawFound}

-- the length of a VRF proof is after a version and an entry
pub vrf_start : (bytes : List ℕ) → drop 212 bytes ≡ drop 2 (after_entry bytes)
vrf_start bytes = sym (drop-drop 2 209 (drop 1 bytes) ∙ drop-drop 211 1 bytes)

-- the caller's verdict on one signature
abbrev pub By : ℕ → List ℕ → List ℕ → Bool
By reported body signature = reported == 1

module _ (reported : ℕ) (verdict : List ℕ → List ℕ → Bool) (policy : List ℕ) (stored : List StoredEntry) (entry : List ℕ) (alike : IsReportedBy verdict (entry_from entry) reported) where
  signed-alike : IsSigned (By reported) entry → IsSigned verdict entry
  signed-alike signed = record { whole = signed.whole; signed = alike ∙ signed.signed }

  unsigned-alike : (fault : EntryFault) → IsUnsigned (By reported) entry fault → IsUnsigned verdict entry fault
  unsigned-alike EntryLength other = other
  unsigned-alike Signature refused = (refused.0, alike ∙ refused.1)
  unsigned-alike (OtherPolicy conviction) none = none
  unsigned-alike (Malformed conviction) none = none

  pub verified-alike : IsVerified (By reported) policy entry → IsVerified verdict policy entry
  verified-alike verified = record { signed = signed-alike verified.signed; own = verified.own }

  pub alone-alike : (fault : EntryFault) → IsRefusedAlone (By reported) policy stored entry fault → IsRefusedAlone verdict policy stored entry fault
  alone-alike fault (inl unsigned) = inl (unsigned-alike fault unsigned)
  alone-alike fault (inr foreign) = inr (signed-alike foreign.0, foreign.1)

  vetted-alike : IsVetted (By reported) policy stored entry → IsVetted verdict policy stored entry
  vetted-alike (inl here) = inl here
  vetted-alike (inr verified) = inr (verified-alike verified.0, verified.1)

  unvetted-alike : (fault : LookupFault) → IsUnvetted (By reported) policy stored entry fault → IsUnvetted verdict policy stored entry fault
  unvetted-alike (NoReply fault) none = none
  unvetted-alike (OfEntry fault) refused = (refused.0, alone-alike fault refused.1)
  unvetted-alike (Equivocation evidence) refused = (refused.0, verified-alike refused.1, refused.2)
  unvetted-alike UnknownEpoch none = none
  unvetted-alike OtherEpoch none = none
  unvetted-alike (OffTime fault) none = none
  unvetted-alike VrfProof none = none
  unvetted-alike (Wire fault) none = none
  unvetted-alike (Check fault) none = none

-- an index scheme that has the result which the caller passed
abbrev pub At : ℕ → List ℕ → Scheme
At reported index name proof = reported_index reported index

module _ (reported : ℕ) (index : List ℕ) (scheme : Scheme) (name vrf : List ℕ) (indexed : IsIndexedBy scheme name vrf reported index) (entry : Entry) (proof : List ℕ) where
  answers-alike : (answer : Option (List ℕ)) → Answers sha256 (At reported index) entry name vrf proof answer → Answers sha256 scheme entry name vrf proof answer
  answers-alike answer answers = (answers.0, indexed ∙ answers.1, answers.2)

  none-alike : (fault : LookupFault) → AnswersNone sha256 (At reported index) entry name vrf proof fault → AnswersNone sha256 scheme entry name vrf proof fault
  none-alike fault (inl none) = inl (none.0, indexed ∙ none.1)
  none-alike fault (inr none) = inr (none.0, indexed ∙ none.1, none.2)

module _ (signed reported : ℕ) (index : List ℕ) (verdict : List ℕ → List ℕ → Bool) (scheme : Scheme) (present : Present) (policy : List ℕ) (stored : List StoredEntry) (name bytes : List ℕ) (epoch : Option ℕ)
    (alike : IsReportedBy verdict (entry_from (entry_part bytes)) signed) (indexed : IsIndexedBy scheme name (vrf_part bytes) reported index) where
  reply-alike : IsVettedReply (By signed) policy stored bytes → IsVettedReply verdict policy stored bytes
  reply-alike vetted = record { whole = vetted.whole; vetted = vetted-alike signed verdict policy stored (entry_part bytes) alike vetted.vetted }

  unvetted-reply-alike : (fault : LookupFault) → IsUnvettedReply (By signed) policy stored bytes fault → IsUnvettedReply verdict policy stored bytes fault
  unvetted-reply-alike (NoReply fault) refused = refused
  unvetted-reply-alike (OfEntry fault) refused = (refused.0, unvetted-alike signed verdict policy stored (entry_part bytes) alike (OfEntry fault) refused.1)
  unvetted-reply-alike (Equivocation evidence) refused = (refused.0, unvetted-alike signed verdict policy stored (entry_part bytes) alike (Equivocation evidence) refused.1)
  unvetted-reply-alike UnknownEpoch none = none
  unvetted-reply-alike OtherEpoch none = none
  unvetted-reply-alike (OffTime fault) none = none
  unvetted-reply-alike VrfProof none = none
  unvetted-reply-alike (Wire fault) none = none
  unvetted-reply-alike (Check fault) none = none

  pub found-alike : (place : ℕ) (answer : Option (List ℕ)) → IsFound present sha256 (By signed) (At reported index) policy stored name bytes epoch place answer
      → IsFound present sha256 verdict scheme policy stored name bytes epoch place answer
  found-alike place answer found = record {
    mine = found.mine;
    vetted = reply-alike found.vetted;
    there = found.there;
    answers = answers-alike reported index scheme name (vrf_part bytes) indexed (entry_from found.mine.entry) (proof_part bytes) answer found.answers;
  }

  pub not-found-alike : (fault : LookupFault) → IsNotFound present sha256 (By signed) (At reported index) policy stored name bytes epoch fault
      → IsNotFound present sha256 verdict scheme policy stored name bytes epoch fault
  not-found-alike fault (inl refused) = inl (unvetted-reply-alike fault refused)
  not-found-alike fault (inr (inl elsewhere)) = inr (inl (reply-alike elsewhere.0, elsewhere.1))
  not-found-alike fault (inr (inr none)) = inr (inr (
    reply-alike none.0,
    (none.1.0, none.1.1, none.1.2, none-alike reported index scheme name (vrf_part bytes) indexed (entry_from none.1.1.entry) (proof_part bytes) fault none.1.3),
  ))

  -- the key is at the end of the reply
  pub key-at-end : (place : ℕ) (answer : Option (List ℕ)) (key : List ℕ) → IsFound present sha256 (By signed) (At reported index) policy stored name bytes epoch place answer
      → answer ≡ Some key → part bytes (length bytes - length key) (length key) ≡ key
  key-at-end place answer key found is =
      let shows = found.answers.2 in
      let ends : Ends (proof_part bytes) key = wire_ends (proof_part bytes) key shows.0 shows.1 (shows.2.answered ∙ is) in
      let last = last_part bytes key (ends_drop 1 bytes key (ends_drop 209 _ key (ends_drop 2 _ key (ends_drop (short_length (after_entry bytes)) _ key ends)))) in
      last.1

  -- the place of the key that is written
  pub key-written : (place : ℕ) (answer : Option (List ℕ)) (start size : ℕ) → IsFound present sha256 (By signed) (At reported index) policy stored name bytes epoch place answer
      → IfSome answer (λ key. start ≡ length bytes - length key) → IfSome answer (λ key. size ≡ length key) → IfSome answer (λ key. part bytes start size ≡ key)
  key-written place None start size found is_start is_size = tt
  key-written place (Some key) start size found is_start is_size =
      ap (λ (n : ℕ). part bytes n size) is_start ∙ ap (λ (n : ℕ). part bytes (length bytes - length key) n) is_size ∙ key-at-end place (Some key) key found refl

  pub answered : (watch : Option Watch) (new : List StoredEntry) (before after : List Change) (raw : RawFound) (answer : Option (List ℕ)) (number : Option ℕ)
      → IsFound present sha256 (By signed) (At reported index) policy stored name bytes epoch raw.place answer
      → ((mine : StoredEntry) → slice_get stored raw.place ≡ Some mine → number ≡ given_number watch before name (epoch_in mine) answer)
      → ((mine : StoredEntry) → slice_get stored raw.place ≡ Some mine → after ≡ given_changes watch before name (epoch_in mine) answer)
      → Marks stored new raw.place number → raw.shows ≡ shows_of answer → raw.seen ≡ seen_of number
      → IfSome answer (λ key. raw.key_start ≡ length bytes - length key) → IfSome answer (λ key. raw.key_length ≡ length key)
      → IsAnswered watch stored new before after name bytes raw answer
  answered watch new before after raw answer number found is_number is_after marks shows seen start size =
      let mine = found.mine in
      let there = found.there.there in
      let given = is_number mine there in
      record {
        mine = mine;
        there = there;
        shows = shows;
        seen = seen ∙ ap seen_of given;
        key = key-written raw.place answer raw.key_start raw.key_length found start size;
        marks = subst (λ (n : Option ℕ). Marks stored new raw.place n) given marks;
        changes = is_after mine there;
      }
