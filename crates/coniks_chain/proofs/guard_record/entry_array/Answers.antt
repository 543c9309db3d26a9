use Rattle.std.proofs.Common.{ap, sym, ◌∙◌, length}
use Rattle.coniks_chain.specs.Entries.{entry_from}
use Rattle.coniks_chain.proofs.GuardLemmas.{entry_from-bytes}
use Rattle.coniks_chain.proofs.guard_record.entry_array.Goals as goal

pub returns : goal.returns
returns c =
    ap entry_from c.bytes-bytes.ensures
    ∙ entry_from-bytes c.args.entry.now c.known.ensures (sym (ap length c.bytes-bytes.ensures) ∙ c.full.ensures)
