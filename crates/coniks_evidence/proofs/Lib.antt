mod FindingLemmas
mod ForkLemmas
mod LawLemmas
mod MeetingLemmas
mod PartingLemmas
mod PreimageLemmas
mod RecordLemmas
mod ScanLemmas
