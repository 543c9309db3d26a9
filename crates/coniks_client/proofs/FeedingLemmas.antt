-- A scan of the stored entries for one that convicts, and the errors of an entry.
use Rattle.std.proofs.Common.{◌≡◌, ℕ, ◌+◌, ◌<◌, ◌≤◌, List, Bool, length, sym, ap, subst, ◌∙◌, ⊎_elim, arith, get_or}
use Rattle.std.specs.List.{slice_get}
use Rattle.std.proofs.lemmas.Option.{slice_get_within, slice_get-get_or, same_Some}
use Rattle.std.proofs.lemmas.Bool.{cases_lt}
use Rattle.coniks_chain.specs.Entries.{entry_from}
use Rattle.coniks_chain.specs.Evidence.{Convicts, IsOfFirstKind}
use Rattle.coniks_chain.specs.declared.entry.Entry.{Entry}
use Rattle.coniks_chain.specs.declared.evidence.EvidenceKind.{EvidenceKind}
use Rattle.coniks_client.specs.Feeding.{ConvictsNone, ConvictsNoneTo, IsFirstConvicting, IsNotNext, IsNotSignedAgain, IsRefusedFeed, IsVerified}
use Rattle.coniks_client.specs.StoredEntry.{entry_in}
use Rattle.coniks_client.specs.declared.feeding.FeedFault.{FeedFault}
use Rattle.coniks_client.specs.declared.feeding.FeedFault.TheVariants.{OfEntry, Equivocation, NotNext}
use Rattle.coniks_client.specs.declared.stored.StoredEntry.{StoredEntry}

module _ (stored : List StoredEntry) (entry : Entry) (n : ℕ) (d : StoredEntry) (found : Entry) (within : n < length stored) (is : found ≡ entry_in (get_or stored n d)) where
  -- one stored entry more does not convict
  pub none-more : ((kind : EvidenceKind) → ¬ Convicts found entry kind) → ConvictsNoneTo stored entry n → ConvictsNoneTo stored entry (n + 1)
  none-more none before = λ k other less there. ⊎_elim
      (λ (below : k < n). before k other below there)
      (λ (le : n ≤ k).
      let here : k ≡ n = omega arith in
      let same : get_or stored n d ≡ other = same_Some (get_or stored n d) other (sym (slice_get-get_or stored n d within) ∙ ap (slice_get stored) (sym here) ∙ there) in
      subst (λ (x : Entry). (kind : EvidenceKind) → ¬ Convicts x entry kind) (is ∙ ap entry_in same) none)
      (cases_lt k n)

  -- the first one that does
  pub found_here : (kind : EvidenceKind) → IsOfFirstKind found entry kind → ConvictsNoneTo stored entry n
      → IsFirstConvicting stored entry (record { place = n; kind = kind })
  found_here kind first before = record {
    earlier = before;
    here = (get_or stored n d, slice_get-get_or stored n d within, subst (λ (x : Entry). IsOfFirstKind x entry kind) is first);
  }

-- none does
pub none-all : (stored : List StoredEntry) (entry : Entry) (n : ℕ) → length stored ≤ n → ConvictsNoneTo stored entry n → ConvictsNone stored entry
none-all stored entry n all none = λ k mine at.
    let below = slice_get_within stored k mine at in
    none k mine (omega arith) at

-- a verified entry that is neither signed again nor the next one is refused
pub not_next : (hash : List ℕ → List ℕ) (verdict : List ℕ → List ℕ → Bool) (policy : List ℕ) (stored : List StoredEntry) (bytes : List ℕ) (entry : Entry) (fault : FeedFault)
    → entry ≡ entry_from bytes → IsVerified verdict policy bytes → IsNotSignedAgain stored entry → IsNotNext hash stored entry fault
    → IsRefusedFeed hash verdict policy stored bytes fault
not_next hash verdict policy stored bytes entry (OfEntry fault) is verified other refused = absurd refused
not_next hash verdict policy stored bytes entry (Equivocation evidence fault) is verified other refused = (
  verified,
  subst (λ (e : Entry). IsNotSignedAgain stored e) is other,
  subst (λ (e : Entry). IsNotNext hash stored e (Equivocation evidence fault)) is refused,
)
not_next hash verdict policy stored bytes entry (NotNext fault) is verified other refused = (
  verified,
  subst (λ (e : Entry). IsNotSignedAgain stored e) is other,
  subst (λ (e : Entry). IsNotNext hash stored e (NotNext fault)) is refused,
)
