use Rattle.coniks_directory.proofs.HeadLemmas.{no_older}
use Rattle.coniks_directory.proofs.laws.answers_are_no_older.Goals as goal

pub returns : goal.returns
returns c = λ hash index_of policy before history chain had has latest answer. no_older hash index_of policy before history chain had has latest answer
