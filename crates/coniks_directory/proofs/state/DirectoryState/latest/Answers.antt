use Rattle.coniks_directory.proofs.Words.{Shown, map-map, shown_of}
use Rattle.coniks_directory.proofs.state.DirectoryState.latest.Goals as goal

pub returns : goal.returns
returns c =
    let stored = c.args.self.now in
    rw (map-map (λ (x : Shown). x.t) (shown_of stored.tree.records) stored.epochs.items, ← c.deref.ensures.value) c.latest.ensures
