use Rattle.std.proofs.Common.{[], refl}
use Rattle.coniks_proof.proofs.LookupLemmas.{end_of-in, end_of-present}
use Rattle.coniks_proof.proofs.MapLemmas.{IsMap-apart}
use Rattle.coniks_proof.proofs.laws.ends.Goals as goal

pub returns-clause-present : goal.returns-clause-present
returns-clause-present g c index entries e map there same = end_of-present 256 [] index entries e refl (IsMap-apart entries map) same there

pub returns-clause-found : goal.returns-clause-found
returns-clause-found g c index entries e map is = end_of-in 256 [] index entries e refl (IsMap-apart entries map) is
