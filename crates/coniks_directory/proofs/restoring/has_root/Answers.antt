use Rattle.std.proofs.Common.{sym, ◌∙◌}
use Rattle.coniks_directory.proofs.Words.{bytes_eq-Decides, state_of}
use Rattle.coniks_directory.proofs.RestoreLemmas.{part_root}
use Rattle.coniks_directory.proofs.restoring.has_root.Goals as goal

pub returns-clause-same : goal.returns-clause-same
returns-clause-same g c = λ is index_of u.
    let met = (bytes_eq-Decides c.part_hash.result.0 c.args.root.now.0).0 (sym c.eq.ensures ∙ is) in
    sym met ∙ part_root (g.H.Hash32.digest_of c.args.h.now) index_of (state_of c.args.stored.now) c.args.update.now c.part_hash.result.0 u c.part_hash.ensures

pub returns-clause-other : goal.returns-clause-other
returns-clause-other g c = λ is index_of u same.
    let root = part_root (g.H.Hash32.digest_of c.args.h.now) index_of (state_of c.args.stored.now) c.args.update.now c.part_hash.result.0 u c.part_hash.ensures in
    let yes = (bytes_eq-Decides c.part_hash.result.0 c.args.root.now.0).1 (root ∙ sym same) in
    let no = sym c.eq.ensures ∙ is in
    cc
