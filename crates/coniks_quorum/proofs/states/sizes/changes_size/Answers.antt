use Rattle.std.proofs.Common.{◌≤◌, ◌+◌, ◌^◌, List, ℕ, [], arith, length, subst, sym, ap, ◌∙◌}
use Rattle.coniks_client.specs.declared.changes.Change.{Change}
use Rattle.coniks_quorum.specs.Saved.{change_bytes, saved_change}
use Rattle.coniks_quorum.proofs.StatePutLemmas.{flat-least, flat-size, flat_all, flat_map-map}
use Rattle.coniks_quorum.proofs.states.sizes.changes_size.Goals as goal

abbrev no_change : Change
no_change = record { last_old = 0; first_new = 0; key = record { ref_ptr = (0, 0); now = [] } }

abbrev bytes_of : Change → List ℕ
bytes_of change = change_bytes (saved_change change)

pub returns-in_default-clause-none : goal.returns-in_default-clause-none
returns-in_default-clause-none c =
    let least = flat-least bytes_of c.args.changes.now (c.loop-change.change-index + 1) in
    let more = flat-size bytes_of c.args.changes.now c.loop-change.change-index no_change c.loop-change-test.true in
    let so_far = c.loop-change.invariant in let large = c.in_default.ensures.none in
    subst (λ (ys : List ℕ). 2 ^ 64 ≤ length ys) (sym (flat_map-map change_bytes saved_change c.args.changes.now)) (omega arith)

pub returns-clause-some : goal.returns-clause-some
returns-clause-some c =
    c.loop-change.invariant ∙ ap length (flat_all bytes_of c.args.changes.now c.loop-change.change-index c.loop-change-test.false)
    ∙ ap length (sym (flat_map-map change_bytes saved_change c.args.changes.now))
