use Rattle.std.proofs.Common.{◌≡◌, ◌≢◌, rules, ltb, subst, sym, ◌∙◌}
use Rattle.std.proofs.lemmas.List.Sorted.{IsPartitionPoint-from_clause}
use Rattle.coniks_directory.specs.declared.epochs.Epoch.{Epoch}
use Rattle.coniks_directory.proofs.NumberLemmas.{find_at, not_found}
use Rattle.coniks_directory.proofs.epochs.Epoch.of_number.Goals as goal

pub returns-in-Some-clause-found : goal.returns-in-Some-clause-found
returns-in-Some-clause-found c = λ up.
    sym (find_at (λ (e : Epoch). e.t) 0 c.args.t c.partition_point-place.result c.args.epochs.now c.in-Some.epoch up (sym c.in-Some.ensures) c.if-epoch-t.true)

pub returns-in_default-clause-found : goal.returns-in_default-clause-found
returns-in_default-clause-found c = λ up.
    let cut = c.partition_point-place.ensures.partitioned in
    sym (not_found (λ (e : Epoch). e.t) 0 c.args.t c.partition_point-place.result c.args.epochs.now up
    (λ sorted. IsPartitionPoint-from_clause (λ (e : Epoch). ltb e.t c.args.t) c.args.epochs.now c.partition_point-place.result cut sorted (λ a r f' k. search rules))
    (λ e at. let one : c.in-Some.epoch ≡ e = cc (c.in-Some.ensures, at) in subst (λ (f : Epoch). f.t ≢ c.args.t) one c.if-epoch-t.false))

pub returns-in_default-2-clause-found : goal.returns-in_default-2-clause-found
returns-in_default-2-clause-found c = λ up.
    let cut = c.partition_point-place.ensures.partitioned in
    sym (not_found (λ (e : Epoch). e.t) 0 c.args.t c.partition_point-place.result c.args.epochs.now up
    (λ sorted. IsPartitionPoint-from_clause (λ (e : Epoch). ltb e.t c.args.t) c.args.epochs.now c.partition_point-place.result cut sorted (λ a r f' k. search rules))
    (λ e at. absurd (let never = c.in_default.ensures ∙ at in cc)))
