use Rattle.std.proofs.Common.{◌≡◌, List, Some, length, rules, subst, sym, take}
use Rattle.std.specs.List.{slice_get}
use Rattle.coniks_proof.specs.Proofs.{stated}
use Rattle.coniks_client.specs.StoredEntry.{IsChain, epoch_in}
use Rattle.coniks_client.specs.Steps.{Marks, given_changes}
use Rattle.coniks_client.specs.declared.changes.Change.{Change}
use Rattle.coniks_client.specs.declared.stored.StoredEntry.{StoredEntry}
use Rattle.coniks_c.proofs.CoreLemmas.{put-back}
use Rattle.coniks_c.proofs.core_lookup.look_up_first.Goals as goal

pub returns-clause-ok : goal.returns-clause-ok
returns-clause-ok g c =
    let used = c.args.used.now in
    let asking = c.args.asking.now in
    let old = take used.stored c.args.stored.now in
    let before = take used.changes c.args.changes.now in
    let shown = c.in_ok-look_up.field-0 in
    let is = c.in_ok-look_up.ensures in
    let hash = g.H.Hash32.digest_of c.args.by.now.hash.now in
    let size : length c.look_up.new.stored ≡ length old = search rules in
    let many : length c.look_up.new.changes ≡ length before = search rules in
    let stored = sym (put-back used.stored c.args.stored.now c.look_up.new.stored c.requires.stored size) in
    let changes = sym (put-back used.changes c.args.changes.now c.look_up.new.changes c.requires.changes many) in
    record {
      found = is.ok;
      number = is.number;
      changes = subst (λ (l : List Change). (mine : StoredEntry) → slice_get old shown.place ≡ Some mine
          → l ≡ given_changes used.watch before asking.name.now (epoch_in mine) (stated shown.answer)) changes is.changes;
      marks = subst (λ (l : List StoredEntry). Marks old l shown.place shown.number) stored is.marks;
      chain = λ chain. subst (λ (l : List StoredEntry). IsChain hash l) stored (is.chain chain);
    }
