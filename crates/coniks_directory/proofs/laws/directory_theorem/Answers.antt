use Rattle.std.proofs.Common.{refl, sym, ◌∙◌}
use Rattle.coniks_directory.proofs.RunLemmas.{accepted_by, defined_by, history_by}
use Rattle.coniks_directory.proofs.laws.directory_theorem.Goals as goal

pub returns-clause-epochs : goal.returns-clause-epochs
returns-clause-epochs c = history_by

pub returns-clause-accepted : goal.returns-clause-accepted
returns-clause-accepted c = accepted_by

pub returns-clause-entries : goal.returns-clause-entries
returns-clause-entries c = λ hash index_of start batches s run chain.
    rw (← history_by hash index_of start batches s run, ← (defined_by hash index_of start batches s run).policy_is, ← (defined_by hash index_of start batches s run).before_is) chain

pub returns-clause-roots : goal.returns-clause-roots
returns-clause-roots c = λ hash index_of start batches s run t root is. rw (← history_by hash index_of start batches s run) is

pub returns-clause-paths : goal.returns-clause-paths
returns-clause-paths c = λ hash index_of start batches s run t name proof is. rw (← history_by hash index_of start batches s run) is

pub returns-clause-lookups : goal.returns-clause-lookups
returns-clause-lookups c = λ hash index_of start batches s run t name proof is. rw (← history_by hash index_of start batches s run) is

pub returns-clause-answers : goal.returns-clause-answers
returns-clause-answers c = λ by root index name_a name_b a b x y left right differ.
    record {
      left = record { well_formed = left.well_formed; root_met = left.root_met; answered = refl };
      right = record { well_formed = right.well_formed; root_met = right.root_met; answered = refl };
      differ = λ same. differ (sym left.answered ∙ same ∙ right.answered);
    }
