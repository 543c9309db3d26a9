-- The first error of an entry, computed.
use Rattle.std.specs.Prelude.{◌==◌, ◌||◌, Bool, true, Option, is_some, nat_lt, not, find}
use Rattle.std.specs.Option.{option_map_or}
use Rattle.std.specs.Str.{bytes_eq}
use Rattle.coniks_proof.specs.Octets.{Octets}
use Rattle.coniks_chain.specs.declared.entry.Entry.{Entry}
use Rattle.coniks_chain.specs.declared.auditor.AuditorState.{AuditorState}
use Rattle.coniks_chain.specs.declared.auditor.AuditFault.{AuditFault}
use Rattle.coniks_chain.specs.declared.auditor.AuditFault.TheVariants.{Version, VersionBack, FirstEpoch, NotLater, PreviousEpoch, PreviousLink, NonceChanged, Verdict}
use Rattle.coniks_chain.specs.Chain.{epoch_before, link_before, faults}
use Rattle.coniks_chain.specs.Entries.{body_bytes}

-- whether an entry does not have this error
abbrev pub meets : (Octets → Octets → Bool) → Option AuditorState → Entry → AuditFault → Bool
meets verdict before entry Version = entry.body.version == 1 || entry.body.version == 2
meets verdict before entry VersionBack = option_map_or (λ b. not (nat_lt entry.body.version b.version)) before true
meets verdict before entry FirstEpoch = is_some before || nat_lt 0 entry.body.t
meets verdict before entry NotLater = option_map_or (λ b. nat_lt b.t entry.body.t) before true
meets verdict before entry PreviousEpoch = entry.body.t_prev == epoch_before before
meets verdict before entry PreviousLink = bytes_eq entry.body.previous.0 (link_before before)
meets verdict before entry NonceChanged = option_map_or
    (λ b. not (entry.body.version == 1) || bytes_eq entry.body.nonce.0 b.nonce.0) before true
meets verdict before entry Verdict = verdict (body_bytes entry.body) entry.signature.0

-- the first error of an entry after what is before it
abbrev pub audit_fault : (Octets → Octets → Bool) → Option AuditorState → Entry → Option AuditFault
audit_fault verdict before entry = find (λ fault. not (meets verdict before entry fault)) faults
