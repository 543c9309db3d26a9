use Rattle.coniks_directory.proofs.AgreementLemmas.{prepared_agree, update_of_agree, whole_agree}
use Rattle.coniks_directory.proofs.laws.indices_may_be_supplied.Goals as goal

pub returns-clause-directories : goal.returns-clause-directories
returns-clause-directories c = whole_agree

pub returns-clause-updates : goal.returns-clause-updates
returns-clause-updates c = update_of_agree

pub returns-clause-prepared : goal.returns-clause-prepared
returns-clause-prepared c = prepared_agree
