use Rattle.std.proofs.Common.{ℕ, List, refl, subst, sym}
use Rattle.coniks_proof.specs.Sha256.{sha256}
use Rattle.coniks_client.specs.Owner.{IsSame, IsWatched, IsWatcher}
use Rattle.coniks_client.specs.StoredEntry.{IsChain}
use Rattle.coniks_client.specs.declared.stored.StoredEntry.{StoredEntry}
use Rattle.coniks_quorum.specs.Alarms.{AreLogged}
use Rattle.coniks_quorum.specs.declared.alarms.Alarm.{Alarm}
use Rattle.coniks_c.specs.Core.{stored_in}
use Rattle.coniks_c.proofs.QuorumLemmas.{of_good}
use Rattle.coniks_c.proofs.core_report.coniks_core_report.Goals as goal

pub returns-clause-good : goal.returns-clause-good
returns-clause-good c = λ zero six scheme name key changes chain watched.
    let is = c.stored.ensures in
    of_good (λ (from : ℕ) (to : ℕ). IsWatcher sha256 scheme name key changes from to (stored_in c.args.core.now)) c.report_of-outcome.result c.of.result c.of.ensures six
    (λ span good. subst (λ (l : List StoredEntry). IsWatcher sha256 scheme name key changes span.from span.to l) is
    (c.report_of-outcome.ensures.good sha256 scheme name key changes span good (subst (λ (l : List StoredEntry). IsChain sha256 l) (sym is) chain)
    (subst (λ (l : List StoredEntry). IsWatched sha256 scheme name key changes l) (sym is) watched)))

pub returns-clause-past : goal.returns-clause-past
returns-clause-past c = λ zero six from dropped log k mine at le.
    let logged = subst (λ (l : List Alarm). AreLogged from dropped l) (sym c.alarms.ensures) log in
    of_good (λ (a : ℕ) (b : ℕ). IsSame mine.seen) c.report_of-outcome.result c.of.result c.of.ensures six
    (λ span is. c.report_of-outcome.ensures.past span from dropped is logged k mine at le)

pub returns-clause-reported : goal.returns-clause-reported
returns-clause-reported c = λ zero. (
  c.confirmed_to.result,
  c.report_of-outcome.result,
  c.confirmed_to.ensures,
  (
    record { stored = c.stored.result; alarms = c.alarms.result; since = c.args.core.now.watch.since; present = c.present.result; promise = c.promise.result },
    record { stored = c.stored.ensures; alarms = c.alarms.ensures; since = refl; present = c.present.ensures; promise = c.promise.ensures },
    c.report_of-outcome.ensures.reports,
  ),
  c.of.ensures,
)
