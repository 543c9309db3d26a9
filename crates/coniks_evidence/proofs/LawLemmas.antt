-- Which records of clients are sound.
use Rattle.std.proofs.Common.{◌≡◌, ℕ, List, Option, sym, ap, subst, ◌∙◌, arith}
use Rattle.std.proofs.lemmas.Option.{same_Some}
use Rattle.coniks_client.specs.Changes.{IsDecided, wanted}
use Rattle.coniks_client.specs.StoredEntry.{entry_in, epoch_in}
use Rattle.coniks_client.specs.Owner.{IsSame}
use Rattle.coniks_client.specs.Reported.{AgainLaw}
use Rattle.coniks_evidence.specs.Laws.{FoundLaw, WatcherLaw}
use Rattle.coniks_evidence.specs.Records.{IsAccepted, expected_by}

pub watcher : AgainLaw → WatcherLaw
watcher again hash scheme head epoch owner watches headed shows = record {
  chain = watches.chain;
  headed = headed;
  begins = watches.begins;
  shown = λ k mine at of_epoch.
      let found = shows k mine at of_epoch in
      let seen : IsSame mine.seen = watches.same k mine at (omega arith) (omega arith) in
      let decided : IsDecided owner.changes.now epoch = subst (λ (t : ℕ). IsDecided owner.changes.now t) of_epoch (watches.watched.decided k mine at seen) in
      let is : found.0 ≡ expected_by owner epoch = (again (wanted owner.watch.key.now) owner.changes.now epoch found.0 watches.watched.order decided).0 found.2 in
      subst (λ (answer : Option (List ℕ)). IsAccepted hash scheme (entry_in mine) owner.watch.name.now owner.reply.now answer) is found.1;
}

pub found_record : FoundLaw
found_record present hash verdict scheme policy name head epoch place contact answer chain headed in_time found =
    let requested = found.there.requested in
    let same : requested.0 ≡ found.mine = same_Some requested.0 found.mine (sym requested.1 ∙ found.there.there) in
    record {
      chain = chain;
      headed = headed;
      in_time = in_time;
      place = place;
      mine = found.mine;
      there = found.there.there;
      epoch_is = ap epoch_in (sym same) ∙ requested.2;
      accepted = record { whole = found.vetted.whole; same = found.there.same; answers = found.answers };
    }
