use Rattle.std.proofs.Common.{◌≡◌, ◌++◌, take}
use Rattle.coniks_proof.specs.Wire.{AreSized, sibling_bytes}
use Rattle.coniks_proof.proofs.wire.put_siblings.Given as goal

abbrev pub invariant-loop-sibling : goal.invariant-loop-sibling
invariant-loop-sibling l =
    (l.bytes.items ≡ l.initial.bytes.items ++ sibling_bytes (take l.sibling-index l.siblings)) × AreSized (take l.sibling-index l.siblings)
