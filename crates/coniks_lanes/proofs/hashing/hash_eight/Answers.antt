use Rattle.std.proofs.Common.{[], arith, map, sym, ◌∙◌}
use Rattle.std.proofs.lemmas.List.{ext_get_or, length-map}
use Rattle.sha2.specs.Sha256.{sha256}
use Rattle.coniks_lanes.proofs.hashing.hash_eight.Goals as goal

pub returns : goal.returns
returns c =
    ext_get_or [] c.write_lanes.new.hashes (map (λ m. sha256 m.now) c.args.messages.now)
    (c.write_lanes.ensures.long ∙ sym (length-map c.args.messages.now (λ m. sha256 m.now) ∙ c.told-messages))
    (λ j lt. c.write_lanes.ensures.each j (omega (arith, c.write_lanes.ensures.long)) ∙ c.compress_all-state.ensures j (omega (arith, c.write_lanes.ensures.long)))
