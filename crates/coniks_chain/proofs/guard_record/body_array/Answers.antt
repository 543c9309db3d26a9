use Rattle.std.proofs.Common.{ap, ◌∙◌}
use Rattle.coniks_chain.specs.Entries.{body_from}
use Rattle.coniks_chain.proofs.EntryLemmas.{body_from-bytes}
use Rattle.coniks_chain.proofs.guard_record.body_array.Goals as goal

pub returns : goal.returns
returns c = ap body_from c.bytes.ensures ∙ body_from-bytes c.args.body.now c.known.ensures
