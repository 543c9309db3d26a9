use Rattle.coniks_tree.proofs.LessLemmas.{before-less, less-before}
use Rattle.coniks_tree.proofs.laws.less_by_bits_and_bytes.Goals as goal

pub returns-clause-bytes : goal.returns-clause-bytes
returns-clause-bytes c = λ index other ix iy less. less-before index other ix iy less

pub returns-clause-bits : goal.returns-clause-bits
returns-clause-bits c = λ index other ix iy before. before-less index other ix iy before
