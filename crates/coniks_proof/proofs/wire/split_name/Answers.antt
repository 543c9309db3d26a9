use Rattle.std.proofs.Common.{◌≡◌, ◌++◌, length, ◌∙◌}
use Rattle.std.specs.Int.{w16, to_be_bytes}
use Rattle.coniks_proof.proofs.WireLemmas.{name_whole, of_split}
use Rattle.coniks_proof.proofs.wire.split_name.Goals as goal

pub returns-clause-whole : goal.returns-clause-whole
returns-clause-whole c =
    of_split c.in_ok-length.rest.now _ (λ a b. c.args.bytes.now ≡ to_be_bytes w16 (length a) ++ a ++ b)
    (name_whole c.args.bytes.now c.in_ok-length.length.now c.in_ok-length.rest.now _ (λ i. (c.type_inv.bytes i).fits) c.in_ok-length.ensures.cases
    (c.from.ensures ∙ c.from_be_bytes.ensures)) c.split_at_checked.result c.split_at_checked.ensures.cases
