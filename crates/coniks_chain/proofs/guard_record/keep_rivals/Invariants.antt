use Rattle.std.proofs.lemmas.List.Filters.{FiltersInPlace}
use Rattle.coniks_chain.specs.Guard.{has_same_before, raw_body}
use Rattle.coniks_chain.proofs.guard_record.keep_rivals.Given as goal

abbrev pub invariant-loop-place : goal.invariant-loop-place
invariant-loop-place l = FiltersInPlace (λ raw. has_same_before l.body (raw_body raw)) l.initial.bodies l.bodies l.retained l.place
