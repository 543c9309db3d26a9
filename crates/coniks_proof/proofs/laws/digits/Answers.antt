use Rattle.coniks_proof.proofs.PrefixLemmas.{packed_index, packed_at}
use Rattle.coniks_proof.proofs.laws.digits.Goals as goal

pub returns-clause-bytes : goal.returns-clause-bytes
returns-clause-bytes c prefix = packed_index prefix

pub returns-clause-bits : goal.returns-clause-bits
returns-clause-bits c prefix k within = packed_at prefix k within
