use Rattle.std.proofs.Common.{rules, ◌≡◌, ◌∙◌, ap, length, take, zero-add, sym}
use Rattle.coniks_chain.proofs.EntryLemmas.{body_and_signature}
use Rattle.coniks_chain.proofs.entry.joined.Goals as goal

pub returns : goal.returns
returns c =
    let first : take (length c.args.body.now) c.put.new.bytes ≡ c.args.body.now = ap (λ n. take n c.put.new.bytes) (sym (zero-add (length c.args.body.now))) ∙ c.put.ensures in
    body_and_signature c.put.new.bytes c.put-2.new.bytes c.args.body.now c.args.signature.now c.told-body c.told-signature (search rules) first c.put-2.ensures
