use Rattle.std.proofs.Common.{sym, ap, ◌∙◌}
use Rattle.coniks_chain.specs.Entries.{body_from}
use Rattle.coniks_chain.proofs.EntryLemmas.{body_from-bytes}
use Rattle.coniks_chain.proofs.guard_record.read_body.Goals as goal

pub returns : goal.returns
returns c = sym (body_from-bytes c.read-body.result c.known.ensures) ∙ ap body_from c.read-body.ensures.bytes
