use Rattle.coniks_directory.proofs.OneEntryLemmas.{one_entry, restored_from}
use Rattle.coniks_directory.proofs.laws.one_entry_has_one_epoch.Goals as goal

pub returns-clause-epochs : goal.returns-clause-epochs
returns-clause-epochs c = λ hash index_of also s r. λ long whole other.
    one_entry hash index_of also (λ nonce. c.roots_bind.ensures hash index_of also nonce) long s r whole other

pub returns-clause-restored : goal.returns-clause-restored
returns-clause-restored c = λ hash index_of also s r. λ long whole other.
    restored_from hash index_of also (λ nonce. c.roots_bind.ensures hash index_of also nonce) long s r whole other
