-- What is stated about each refusal, in English and ASCII.
use Rattle.std.specs.Prelude.{[], ◌∷◌, ◌++◌, codes, take, drop, length}
use Rattle.coniks_proof.specs.Octets.{Octets}
use Rattle.coniks_proof.specs.declared.checker.CheckFault.{CheckFault}
use Rattle.coniks_proof.specs.declared.checker.CheckFault.TheVariants.{TooDeep, NameLength, KeyLength, WrongName, OtherIsSame, OtherOffPath, RootMismatch}
use Rattle.coniks_proof.specs.declared.wire.WireFault.{WireFault}
use Rattle.coniks_proof.specs.declared.wire.WireFault.TheVariants.{NoBytes, UnknownKind, CutInCount, CutInSiblings, CutInOther, CutInOpening, CutInName, CutInKey, BytesFollow}
use Rattle.coniks_chain.specs.declared.auditor.AuditFault.{AuditFault}
use Rattle.coniks_chain.specs.declared.auditor.AuditFault.TheVariants.{Version, VersionBack, FirstEpoch, NotLater, PreviousEpoch, PreviousLink, NonceChanged, Verdict}
use Rattle.coniks_c.specs.declared.text.Refusal.{Refusal}
use Rattle.coniks_c.specs.declared.text.Refusal.TheVariants.{Check, Wire, Audit, EntryLength, NoEntry}

-- of an error of a proof
abbrev pub check_text : CheckFault → Octets
-- formats.toml: proof
check_text TooDeep = codes "the proof has more than 256 siblings"
check_text NameLength = codes "the name is empty or longer than 255 bytes"
check_text KeyLength = codes "the proof's key is empty or longer than 16384 bytes"
check_text WrongName = codes "the proof's leaf contains another name"
check_text OtherIsSame = codes "the proof's other index is the requested index"
check_text OtherOffPath = codes "the proof's other index isn't on the path to the requested index"
check_text RootMismatch = codes "the root computed from the proof isn't the expected root"

-- formats.toml: end

-- of bytes that are no proof's
abbrev pub wire_text : WireFault → Octets
-- formats.toml: wire
wire_text NoBytes = codes "there are no bytes"
wire_text UnknownKind = codes "the first byte is no kind of proof"
wire_text CutInCount = codes "the bytes end within the number of siblings"
wire_text CutInSiblings = codes "the bytes end within the siblings"
wire_text CutInOther = codes "the bytes end within the other index or its commitment"
wire_text CutInOpening = codes "the bytes end within the opening"
wire_text CutInName = codes "the bytes end within the name or its length"
wire_text CutInKey = codes "the bytes end within the key or its length"
wire_text BytesFollow = codes "bytes follow the proof"

-- formats.toml: end

-- of an error of an entry
abbrev pub audit_text : AuditFault → Octets
-- formats.toml: chain
audit_text Version = codes "the version is neither 1 nor 2"
audit_text VersionBack = codes "the version is lower than that of the entry before"
audit_text FirstEpoch = codes "the first epoch is 0"
audit_text NotLater = codes "the epoch isn't later than that of the entry before"
audit_text PreviousEpoch = codes "the previous epoch isn't that of the entry before"
audit_text PreviousLink = codes "the previous link isn't that of the entry before"
audit_text NonceChanged = codes "the version is 1 and the nonce isn't that of the entry before"
audit_text Verdict = codes "the signature isn't valid for this body"

-- formats.toml: end

-- of whatever is refused
abbrev pub refusal_text : Refusal → Octets
refusal_text (Check fault) = check_text fault
refusal_text (Wire fault) = wire_text fault
refusal_text (Audit fault) = audit_text fault
-- formats.toml: others
refusal_text EntryLength = codes "the entry isn't 209 bytes long"
refusal_text NoEntry = codes "no entry was accepted yet"

-- formats.toml: end

-- a place with a text at its front and a zero byte after it: the text is cut to the room before that byte, and the rest of
-- the place is as it was
abbrev pub written : Octets → Octets → Octets
written [] text = []
written (b ∷ place) text = take (length place) text ++ 0 ∷ drop (length text) place
