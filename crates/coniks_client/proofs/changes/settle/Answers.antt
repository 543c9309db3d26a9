use Rattle.std.proofs.Common.{ℕ, ◌≡◌, List, Option, sym, subst, drop}
use Rattle.coniks_client.specs.Changes.{AreInOrder, Keeps, begun, is_accepted, wanted}
use Rattle.coniks_client.proofs.ChangeLemmas.{settled-accepts, settled-keeps, settled-order}
use Rattle.coniks_client.specs.StoredEntry.{epoch_in}
use Rattle.coniks_client.proofs.WatchLemmas.{watched-keeps}
use Rattle.coniks_client.proofs.changes.settle.Goals as goal

pub returns-clause-order : goal.returns-clause-order
returns-clause-order c = λ order. subst (λ (n : ℕ). AreInOrder 0 (drop n c.args.changes.now)) (sym c.stage_at.ensures.count) (settled-order 0 c.args.changes.now c.args.oldest order)

pub returns-clause-keeps : goal.returns-clause-keeps
returns-clause-keeps c = λ epoch le order.
    subst (λ (n : ℕ). Keeps (wanted c.args.key.now) c.args.changes.now (wanted c.stage_at.result.key.now) (drop n c.args.changes.now) epoch) (sym c.stage_at.ensures.count)
    (subst (λ (k : Option (List ℕ)). Keeps (wanted c.args.key.now) c.args.changes.now k (drop (begun c.args.changes.now c.args.oldest) c.args.changes.now) epoch) (sym c.stage_at.ensures.key)
    (settled-keeps 0 (wanted c.args.key.now) c.args.changes.now c.args.oldest epoch le order))

pub returns-clause-accepts : goal.returns-clause-accepts
returns-clause-accepts c = λ epoch answer le.
    subst (λ (n : ℕ). is_accepted (wanted c.stage_at.result.key.now) (drop n c.args.changes.now) epoch answer ≡ is_accepted (wanted c.args.key.now) c.args.changes.now epoch answer) (sym c.stage_at.ensures.count)
    (subst (λ (k : Option (List ℕ)). is_accepted k (drop (begun c.args.changes.now c.args.oldest) c.args.changes.now) epoch answer ≡ is_accepted (wanted c.args.key.now) c.args.changes.now epoch answer) (sym c.stage_at.ensures.key)
    (settled-accepts (wanted c.args.key.now) c.args.changes.now c.args.oldest epoch answer le))

pub returns-clause-watched : goal.returns-clause-watched
returns-clause-watched c = λ hash scheme name stored from watched.
    watched-keeps hash scheme name (wanted c.args.key.now) (wanted c.stage_at.result.key.now) c.args.changes.now (drop c.stage_at.result.count c.args.changes.now) stored
    (λ k mine at. returns-clause-keeps c (epoch_in mine) (from k mine at) watched.order) (returns-clause-order c watched.order) watched
