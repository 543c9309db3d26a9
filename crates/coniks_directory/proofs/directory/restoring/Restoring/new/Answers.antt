use Rattle.std.proofs.Common.{[], List, ap, map}
use Rattle.coniks_directory.proofs.Words.{Registered, first_fault}
use Rattle.coniks_directory.specs.Restored.{registration}
use Rattle.coniks_directory.proofs.PendingLemmas.{by_records}
use Rattle.coniks_directory.proofs.RestoreLemmas.{view_is}
use Rattle.coniks_directory.proofs.directory.restoring.Restoring.new.Goals as goal

pub invariant_of-result : goal.invariant_of-result
invariant_of-result g c =
    let hash = g.H.Hash32.digest_of c.args.h in
    let index_of = g.X.IndexSource.index_of c.args.source in
    let s = c.in-Ok.ensures hash index_of in
    record {
      formed = c.in_ok-check_entry.ensures.formed;
      opened = c.new-stored.ensures.opened;
      pending = by_records hash index_of [] _ _ s;
      faultless = ap (λ (bs : List Registered). first_fault index_of [] (map registration bs)) s.binds;
    }

pub returns-clause-begun : goal.returns-clause-begun
returns-clause-begun g c =
    let s = c.in-Ok.ensures (g.H.Hash32.digest_of c.args.h) (g.X.IndexSource.index_of c.args.source) in
    view_is c.args.h c.args.source c.args.entry _ _ (ap (map registration) s.binds)
