use Rattle.std.proofs.Common.{subst}
use Rattle.coniks_chain.specs.Entries.{entry_from}
use Rattle.coniks_chain.specs.Evidence.{Convicts, IsOfFirstKind}
use Rattle.coniks_chain.specs.declared.evidence.EvidenceKind.{EvidenceKind}
use Rattle.coniks_c.proofs.evidence.coniks_convicts.Goals as goal

pub returns-in-Some-convicts-clause-evidence : goal.returns-in-Some-convicts-clause-evidence
returns-in-Some-convicts-clause-evidence c = λ _. (
  c.in-Some-convicts.found,
  subst (λ a. IsOfFirstKind a (entry_from c.args.b.now) c.in-Some-convicts.found) c.in-Some.ensures.from
      (subst (λ b. IsOfFirstKind c.in-Some.a b c.in-Some-convicts.found) c.in-Some-entry_of.ensures.from c.in-Some-convicts.ensures.some),
  c.kind_number.ensures,
)

pub returns-in-None-clause-none : goal.returns-in-None-clause-none
returns-in-None-clause-none c = λ _.
    subst (λ a. (kind : EvidenceKind) → ¬ Convicts a (entry_from c.args.b.now) kind) c.in-Some.ensures.from
    (subst (λ b. (kind : EvidenceKind) → ¬ Convicts c.in-Some.a b kind) c.in-Some-entry_of.ensures.from c.in-None.ensures.none)
