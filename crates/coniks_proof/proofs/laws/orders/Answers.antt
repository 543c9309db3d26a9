use Rattle.coniks_proof.proofs.MapLemmas.{IsMap-apart}
use Rattle.coniks_proof.proofs.OrderLemmas.{AreIncreasing-in_order, in_order-AreIncreasing, increasing_map}
use Rattle.coniks_proof.proofs.laws.orders.Goals as goal

pub returns-clause-increasing : goal.returns-clause-increasing
returns-clause-increasing g c entries rising = AreIncreasing-in_order entries (increasing_map entries rising) rising

pub returns-clause-apart : goal.returns-clause-apart
returns-clause-apart g c entries map = IsMap-apart entries map

pub returns-clause-one : goal.returns-clause-one
returns-clause-one g c entries rising = increasing_map entries rising

pub returns-clause-rising : goal.returns-clause-rising
returns-clause-rising g c entries map ordered = in_order-AreIncreasing entries map ordered
