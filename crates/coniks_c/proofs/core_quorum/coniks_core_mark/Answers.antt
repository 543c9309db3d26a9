use Rattle.std.proofs.Common.{◌++◌, List, subst, sym}
use Rattle.coniks_proof.specs.Sha256.{sha256}
use Rattle.coniks_client.specs.declared.stored.StoredEntry.{StoredEntry}
use Rattle.coniks_quorum.specs.Marks.{AreMarks}
use Rattle.coniks_c.proofs.core_quorum.coniks_core_mark.Goals as goal

pub returns-clause-right : goal.returns-clause-right
returns-clause-right c = λ auditors dropped cosigned are.
    let is = c.stored.ensures in
    subst (λ (l : List StoredEntry). AreMarks sha256 auditors (dropped ++ l) c.remember.new.marks) is
    (c.remember.ensures.right sha256 c.stored.result.now c.compare-outcome.ensures.compares auditors dropped cosigned
    (subst (λ (l : List StoredEntry). AreMarks sha256 auditors (dropped ++ l) c.args.core.now.marks.items.now) (sym is) are))
