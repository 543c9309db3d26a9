use Rattle.std.proofs.Common.{map, refl, sym}
use Rattle.coniks_directory.proofs.Words.{Epoch, last_number}
use Rattle.coniks_directory.proofs.LastLemmas.{last_found, none_last}
use Rattle.coniks_directory.proofs.epochs.Epoch.latest.Goals as goal

pub returns-in-Some : goal.returns-in-Some
returns-in-Some c = sym (last_found (λ es. last_number 0 (map (λ (e : Epoch). e.t) es)) (λ e. e.t) (λ e. refl) (λ d e es. refl) c.args.epochs.now c.in-Some.epoch (sym c.in-Some.ensures))

pub returns-in-None : goal.returns-in-None
returns-in-None c = rw (none_last c.args.epochs.now (sym c.in-None.ensures)) refl
