-- A refused succession, under each function that gives the caller's verdict on the first entry.
use Rattle.std.proofs.Common.{◌≡◌, ◌==◌, ℕ, [], List, Bool, subst, sym}
use Rattle.coniks_proof.specs.Sha256.{sha256}
use Rattle.coniks_chain.specs.Entries.{entry_from}
use Rattle.coniks_client.specs.declared.stored.StoredEntry.{StoredEntry}
use Rattle.coniks_quorum.specs.Successions.{IsRefusedSuccession}
use Rattle.coniks_quorum.specs.declared.successions.Succession.{Succession}
use Rattle.coniks_quorum.specs.declared.successions.SuccessionFault.{SuccessionFault}
use Rattle.coniks_quorum.specs.declared.successions.SuccessionFault.TheVariants.{SuccessionPolicy, SuccessionSignature, NextPolicy, UnknownEpoch, ChainDiffers, OfEntry, OtherStart}
use Rattle.coniks_c.specs.Crossing.{IsReportedBy}
use Rattle.coniks_c.proofs.ReportedLemmas.{By, alone-alike, verified-alike}

module _ (reported : ℕ) (verdict : List ℕ → List ℕ → Bool) (policy next : List ℕ) (stored : List StoredEntry) (succession : Succession) (bytes : List ℕ)
    (alike : IsReportedBy verdict (entry_from bytes) reported) where
  refused-alike : (fault : SuccessionFault) → IsRefusedSuccession sha256 (By reported) policy next stored succession bytes fault
      → IsRefusedSuccession sha256 verdict policy next stored succession bytes fault
  refused-alike SuccessionPolicy is = is
  refused-alike SuccessionSignature is = is
  refused-alike NextPolicy is = is
  refused-alike UnknownEpoch is = is
  refused-alike ChainDiffers is = is
  refused-alike (OfEntry fault) is = (is.0, is.1, alone-alike reported verdict next [] bytes alike fault is.2)
  refused-alike OtherStart is = (is.0, is.1, (verified-alike reported verdict next [] bytes alike is.2.0, is.2.1))

  pub refused-in : (fault : SuccessionFault) (taken : List StoredEntry) (read : Succession) → taken ≡ stored → read ≡ succession
      → IsRefusedSuccession sha256 (By reported) policy next taken read bytes fault → IsRefusedSuccession sha256 verdict policy next stored succession bytes fault
  refused-in fault taken read is_taken is_read is = refused-alike fault
      (subst (λ (s : Succession). IsRefusedSuccession sha256 (By reported) policy next stored s bytes fault) is_read
      (subst (λ (l : List StoredEntry). IsRefusedSuccession sha256 (By reported) policy next l read bytes fault) is_taken is))
