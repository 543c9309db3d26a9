use Rattle.coniks_proof.proofs.BatchLemmas.{faultless, may_follow, own_after, own_of_map}
use Rattle.coniks_proof.proofs.laws.faultless_batches.Goals as goal

pub returns-clause-exactly : goal.returns-clause-exactly
returns-clause-exactly c = λ index_of registry ops own. (may_follow index_of registry ops own, faultless index_of registry ops)

pub returns-clause-after : goal.returns-clause-after
returns-clause-after c = λ index_of registry ops. own_after index_of registry ops

pub returns-clause-first : goal.returns-clause-first
returns-clause-first c = λ index_of x y has. absurd (let never = has in cc)

pub returns-clause-maps : goal.returns-clause-maps
returns-clause-maps c = λ hash index_of registry. own_of_map hash index_of registry
