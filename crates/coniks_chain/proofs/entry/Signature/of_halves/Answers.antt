use Rattle.std.proofs.Common.{rules, ◌≡◌, ◌∙◌, ap, length, take, zero-add, sym}
use Rattle.coniks_chain.proofs.EntryLemmas.{two_parts}
use Rattle.coniks_chain.proofs.entry.Signature.of_halves.Goals as goal

pub returns : goal.returns
returns c =
    let first : take (length c.args.first.now) c.put.new.bytes ≡ c.args.first.now = ap (λ n. take n c.put.new.bytes) (sym (zero-add (length c.args.first.now))) ∙ c.put.ensures in
    two_parts c.put.new.bytes c.put-2.new.bytes c.args.first.now c.args.second.now c.told-first c.told-second (search rules) first c.put-2.ensures
