use Rattle.std.proofs.Common.{List, subst}
use Rattle.coniks_chain.specs.declared.entry.Entry.{Entry}
use Rattle.coniks_client.specs.Feeding.{ConvictsNone}
use Rattle.coniks_client.specs.declared.stored.StoredEntry.{StoredEntry}
use Rattle.coniks_c.specs.Core.{stored_in}
use Rattle.coniks_c.proofs.core_compare.coniks_core_evidence.Goals as goal

pub returns-in-None-clause-none : goal.returns-in-None-clause-none
returns-in-None-clause-none c = λ good. subst (λ (e : Entry). ConvictsNone (stored_in c.args.core.now) e) c.in-Ok.ensures.from
    (subst (λ (l : List StoredEntry). ConvictsNone l c.in-Ok.entry) c.stored.ensures c.in-None.ensures)
