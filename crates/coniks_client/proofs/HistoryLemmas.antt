-- One step more.
use Rattle.std.proofs.Common.{ℕ, ◌+◌, ◌<◌, List, ◌∷◌, length, refl, sym, subst, arith}
use Rattle.coniks_client.specs.Histories.{AreNoSteps, IsReadTo}
use Rattle.coniks_client.specs.HistorySteps.{EpochProof, IsNoStep, IsStep, Past, after}
use Rattle.coniks_client.specs.declared.histories.faults.HistoryFault.{HistoryFault}

pub step-more : (bytes : List ℕ) (past : Past) (rest next : List ℕ) (count : ℕ) (step : EpochProof) → IsReadTo bytes past rest count
    → IsStep past rest step next → IsReadTo bytes (after step) next (count + 1)
step-more bytes past rest next count step read is = (
  step ∷ read.0,
  (rest, read.1, subst (λ (p : Past). IsStep p rest step next) (sym read.2) is),
  refl,
  omega (arith, read.3),
)

pub step-none : (bytes : List ℕ) (past : Past) (rest : List ℕ) (count : ℕ) (fault : HistoryFault) → IsReadTo bytes past rest count → 0 < length rest
    → IsNoStep past rest fault → AreNoSteps bytes fault
step-none bytes past rest count fault read some is = (read.0, rest, read.1, some, subst (λ (p : Past). IsNoStep p rest fault) (sym read.2) is)
