use Rattle.std.proofs.Common.{refl}
use Rattle.coniks_tree.specs.Parts.{entries_in}
use Rattle.coniks_directory.proofs.GrowthLemmas.{overlaid-Lists}
use Rattle.coniks_directory.proofs.growth.growth_of.Goals as goal

pub returns : goal.returns
returns c =
    let listed = c.in_ok-entries.entries.items in
    let changes = c.args.changes.items in
    let e = c.in_ok-overlay.ensures in
    record {
      retained = λ off. absurd (let never = off in cc);
      none = λ on. refl;
      all = λ on by entries old map own ordered. overlaid-Lists listed _ entries (entries_in changes) (c.in_ok-entries.ensures.lists by entries old) map own ordered
          (rw (c.deref.ensures.value, c.deref-2.ensures.value, c.in_ok-all.ensures.items) at e.lists);
      placed = λ further grown placed.
          (rw (c.deref.ensures.value, c.deref-2.ensures.value, c.in_ok-all.ensures.items) at e.placed) further (c.in_ok-entries.ensures.placed further grown) placed tt;
    }
