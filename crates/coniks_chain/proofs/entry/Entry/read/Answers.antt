use Rattle.std.proofs.Common.{◌≡◌, ◌∙◌, length, rules, sym}
use Rattle.coniks_chain.proofs.EntryLemmas.{last_part, entry_from-parts, bytes-parts, same_entry_bytes}
use Rattle.coniks_chain.proofs.entry.Entry.read.Goals as goal

pub returns-clause-from : goal.returns-clause-from
returns-clause-from c =
    entry_from-parts c.args.bytes.now c.part-2.result c.read-body.result c.known.ensures (c.read-body.ensures.bytes ∙ c.part.ensures) (c.part-2.ensures ∙ last_part c.args.bytes.now c.told-bytes)

pub returns-clause-bytes : goal.returns-clause-bytes
returns-clause-bytes c = bytes-parts c.args.bytes.now c.part-2.result c.read-body.result (c.read-body.ensures.bytes ∙ c.part.ensures) (c.part-2.ensures ∙ last_part c.args.bytes.now c.told-bytes)

pub returns-clause-same : goal.returns-clause-same
returns-clause-same c = λ entry sized same.
    let long : length c.part-2.result ≡ 64 = search rules in
    same_entry_bytes c.args.bytes.now c.part-2.result c.read-body.result entry long sized (c.read-body.ensures.bytes ∙ c.part.ensures) (c.part-2.ensures ∙ last_part c.args.bytes.now c.told-bytes) same
    (λ is. c.read-body.ensures.same entry.body sized.body (is ∙ sym c.part.ensures))
