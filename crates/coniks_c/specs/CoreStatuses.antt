-- The numbers that the client's calls return, and more on a refused entry.
use Rattle.std.specs.Prelude.{◌+◌, ◌-◌, ◌^◌, ℕ, Option, Some, None}
use Rattle.coniks_proof.specs.Faults.{number}
use Rattle.coniks_proof.specs.Octets.{Octets}
use Rattle.coniks_proof.specs.Wire.{order}
use Rattle.coniks_chain.specs.Chain.{place_of}
use Rattle.coniks_chain.specs.declared.evidence.Evidence.{Evidence}
use Rattle.coniks_client.specs.declared.expecting.ExpectFault.{ExpectFault}
use Rattle.coniks_client.specs.declared.expecting.ExpectFault.TheVariants.{ChangeOpen, SameKey, NotLater}
use Rattle.coniks_client.specs.declared.feeding.Conviction.{Conviction}
use Rattle.coniks_client.specs.declared.feeding.Conviction.TheVariants.{With, Alone}
use Rattle.coniks_client.specs.declared.feeding.EntryFault.{EntryFault}
use Rattle.coniks_client.specs.declared.feeding.EntryFault.TheVariants.{EntryLength, Signature, OtherPolicy, Malformed}
use Rattle.coniks_client.specs.declared.feeding.FeedFault.{FeedFault}
use Rattle.coniks_client.specs.declared.feeding.FeedFault.TheVariants as feed
use Rattle.coniks_client.specs.declared.lookups.LookupFault.{LookupFault}
use Rattle.coniks_client.specs.declared.lookups.LookupFault.TheVariants as lookup
use Rattle.coniks_client.specs.declared.replies.ReplyFault.{ReplyFault}
use Rattle.coniks_client.specs.declared.replies.ReplyFault.TheVariants as reply
use Rattle.coniks_client.specs.declared.times.AgeFault.{AgeFault}
use Rattle.coniks_client.specs.declared.times.AgeFault.TheVariants.{Stale, Future}
use Rattle.coniks_quorum.specs.declared.relying.Reliance.{Reliance}
use Rattle.coniks_quorum.specs.declared.relying.Reliance.TheVariants.{ReliedOn, Unconfirmed}
use Rattle.coniks_quorum.specs.declared.successions.SuccessionFault.{SuccessionFault}
use Rattle.coniks_quorum.specs.declared.successions.SuccessionFault.TheVariants as succession
use Rattle.coniks_quorum.specs.declared.vouching.StartFault.{StartFault}
use Rattle.coniks_quorum.specs.declared.vouching.StartFault.TheVariants as start
use Rattle.coniks_client.specs.declared.histories.faults.AcceptFault.{AcceptFault}
use Rattle.coniks_client.specs.declared.histories.faults.AcceptFault.TheVariants as accept
use Rattle.coniks_client.specs.declared.histories.faults.HistoryFault.{HistoryFault}
use Rattle.coniks_client.specs.declared.histories.faults.HistoryFault.TheVariants as history
use Rattle.coniks_quorum.specs.declared.states.reading.StateFault.{StateFault}
use Rattle.coniks_quorum.specs.declared.states.reading.StateFault.TheVariants as state
use Rattle.coniks_c.specs.Numbers.{auditors_differ, chain_differs, cut_in_entry, cut_in_step, cut_in_vrf, end_repeated, entry_length, epoch_order, equivocation, evidence_malformed, future, good, history_version, malformed, misuse_change_open, misuse_no_room, misuse_not_confirmed, misuse_not_later, misuse_same_key, next_policy, no_history, no_reply, not_vouched, other_epoch, other_policy, other_start, reply_version, sibling_map, sibling_repeated, signature, stale, state_damaged, state_form, state_length, state_policy, state_version, succession_policy, succession_signature, too_deep, unknown_end, unknown_epoch, vrf_proof}
use Rattle.coniks_c.specs.Statuses.{number_of_kind}
use Rattle.coniks_c.specs.declared.core_values.RawWhy.{RawWhy}

-- an entry that is none of the directory
abbrev pub entry_status : EntryFault → ℕ
entry_status EntryLength = entry_length
entry_status Signature = signature
entry_status (OtherPolicy conviction) = other_policy
entry_status (Malformed conviction) = malformed

-- an entry that does not continue the chain
abbrev pub feed_status : FeedFault → ℕ
feed_status (feed.OfEntry fault) = entry_status fault
feed_status (feed.Equivocation evidence fault) = equivocation
feed_status (feed.NotNext fault) = place_of fault + 33

-- bytes that are no reply
abbrev pub reply_status : ReplyFault → ℕ
reply_status reply.NoReply = no_reply
reply_status reply.ReplyVersion = reply_version
reply_status reply.CutInEntry = cut_in_entry
reply_status reply.CutInVrf = cut_in_vrf

-- a latest epoch that is not that of the present
abbrev pub age_status : AgeFault → ℕ
age_status Stale = stale
age_status Future = future

-- a refused reply
abbrev pub lookup_status : LookupFault → ℕ
lookup_status (lookup.NoReply fault) = reply_status fault
lookup_status (lookup.OfEntry fault) = entry_status fault
lookup_status (lookup.Equivocation evidence) = equivocation
lookup_status lookup.UnknownEpoch = unknown_epoch
lookup_status lookup.OtherEpoch = other_epoch
lookup_status (lookup.OffTime fault) = age_status fault
lookup_status lookup.VrfProof = vrf_proof
lookup_status (lookup.Wire fault) = order fault + 16
lookup_status (lookup.Check fault) = number fault + 1

-- bytes that are no history
abbrev pub history_status : HistoryFault → ℕ
history_status history.NoHistory = no_history
history_status history.HistoryVersion = history_version
history_status history.CutInVrf = cut_in_vrf
history_status history.CutInStep = cut_in_step
history_status history.EpochOrder = epoch_order
history_status history.UnknownEnd = unknown_end
history_status history.TooDeep = too_deep
history_status history.SiblingMap = sibling_map
history_status history.SiblingRepeated = sibling_repeated
history_status history.EndRepeated = end_repeated

-- a refused history
abbrev pub accept_status : AcceptFault → ℕ
accept_status (accept.NoHistory fault) = history_status fault
accept_status accept.VrfProof = vrf_proof
accept_status accept.NoRoom = misuse_no_room
accept_status accept.UnknownEpoch = unknown_epoch
accept_status (accept.Check fault) = number fault + 1

-- bytes that are no state
abbrev pub state_status : StateFault → ℕ
state_status state.StateLength = state_length
state_status state.StateVersion = state_version
state_status state.StateDamaged = state_damaged
state_status state.StatePolicy = state_policy
state_status state.StateForm = state_form

-- a change that can't be expected
abbrev pub expect_status : ExpectFault → ℕ
expect_status ChangeOpen = misuse_change_open
expect_status SameKey = misuse_same_key
expect_status NotLater = misuse_not_later

-- a first entry of a client that starts late that is refused
abbrev pub start_status : StartFault → ℕ
start_status (start.OfEntry fault) = entry_status fault
start_status (start.AuditorsDiffer place) = auditors_differ
start_status start.NotVouched = not_vouched

-- a succession by which a client does not go on
abbrev pub succession_status : SuccessionFault → ℕ
succession_status succession.SuccessionPolicy = succession_policy
succession_status succession.SuccessionSignature = succession_signature
succession_status succession.NextPolicy = next_policy
succession_status succession.UnknownEpoch = unknown_epoch
succession_status succession.ChainDiffers = chain_differs
succession_status (succession.OfEntry fault) = entry_status fault
succession_status succession.OtherStart = other_start

-- whether a client may rely on an epoch
abbrev pub reliance_status : Reliance → ℕ
reliance_status ReliedOn = good
reliance_status Unconfirmed = misuse_not_confirmed

-- nothing more is to be reported
abbrev pub no_more : RawWhy
no_more = record { status = 0; kind = 0; mine = 0 }

-- the stored entry that convicts with the refused one, and the status of an entry that does not follow, else 0
abbrev pub convicted : ℕ → Evidence → RawWhy
convicted status evidence = record { status = status; kind = number_of_kind evidence.kind; mine = evidence.place }

-- the refused entry convicts alone
abbrev pub alone : RawWhy
alone = record { status = 0; kind = evidence_malformed; mine = 2 ^ 64 - 1 }

-- what convicts with a refused entry
abbrev pub why_of_conviction : Conviction → RawWhy
why_of_conviction (With evidence) = convicted 0 evidence
why_of_conviction Alone = alone

-- more on an entry that is none of the directory
abbrev pub why_of_entry : EntryFault → RawWhy
why_of_entry (OtherPolicy (Some conviction)) = why_of_conviction conviction
why_of_entry (Malformed conviction) = why_of_conviction conviction
why_of_entry _ = no_more

-- on one that does not continue the chain
abbrev pub why_of_feed : FeedFault → RawWhy
why_of_feed (feed.OfEntry fault) = why_of_entry fault
why_of_feed (feed.Equivocation evidence fault) = convicted (place_of fault + 33) evidence
why_of_feed (feed.NotNext fault) = no_more

-- on the entry of a refused reply
abbrev pub why_of_lookup : LookupFault → RawWhy
why_of_lookup (lookup.OfEntry fault) = why_of_entry fault
why_of_lookup (lookup.Equivocation evidence) = convicted 0 evidence
why_of_lookup _ = no_more

-- on the first entry of a client that starts late: the place of the first auditor that has another link
abbrev pub why_of_start : StartFault → RawWhy
why_of_start (start.OfEntry fault) = why_of_entry fault
why_of_start (start.AuditorsDiffer place) = record { status = 0; kind = 0; mine = place }
why_of_start start.NotVouched = no_more

-- the number of what a reply shows: 1 for a key, 2 for none
abbrev pub shows_of : Option Octets → ℕ
shows_of (Some key) = 1
shows_of None = 2

-- the number of what an epoch shows of the watched name, 0 if the name is not watched there
abbrev pub seen_of : Option ℕ → ℕ
seen_of (Some number) = number
seen_of None = 0
