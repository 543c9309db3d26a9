use Rattle.std.proofs.Common.{◌≡◌, ◌∙◌, ◌∷◌, ℕ, [], ap, rules, take}
use Rattle.coniks_client.specs.Steps.{new_number}
use Rattle.coniks_client.specs.StoredEntry.{epoch_in}
use Rattle.coniks_c.specs.CoreReported.{watch_in}
use Rattle.coniks_c.proofs.StartLemmas.{first-set}
use Rattle.coniks_c.proofs.core_succeed.begin.Goals as goal

pub returns-clause-stored : goal.returns-clause-stored
returns-clause-stored c =
    let mine = c.args.mine.now in
    let number : c.first_number.result ≡ new_number (watch_in c.next_watch-next.result) (epoch_in mine) = search rules in
    ap (take 1) c.put_first.ensures ∙ first-set c.args.next.now.stored.items.now (record mine { seen = c.first_number.result }) c.requires.rooms.0
    ∙ ap (λ (n : ℕ). record mine { seen = n } ∷ []) number
