use Rattle.std.proofs.Common.{◌+◌, ◌<◌, List, ℕ, [], length, subst, sym, arith}
use Rattle.std.proofs.lemmas.List.{get_or-map, length-map}
use Rattle.coniks_client.specs.declared.changes.Change.{Change}
use Rattle.coniks_quorum.specs.StateForms.{IsSizedChange}
use Rattle.coniks_quorum.specs.Saved.{change_bytes, saved_change}
use Rattle.coniks_quorum.specs.StateWriting.{HasPut}
use Rattle.coniks_quorum.proofs.StatePutLemmas.{flat_map-map, put-none, put_all, put_more}
use Rattle.coniks_quorum.proofs.states.writing.put_changes.Goals as goal

abbrev no_change : Change
no_change = record { last_old = 0; first_new = 0; key = record { ref_ptr = (0, 0); now = [] } }

abbrev bytes_of : Change → List ℕ
bytes_of change = change_bytes (saved_change change)

pub put_change-requires-clause-sized : goal.put_change-requires-clause-sized
put_change-requires-clause-sized c =
    subst IsSizedChange (get_or-map saved_change c.args.changes.now c.loop-change.change-index no_change (saved_change no_change) c.loop-change-test.true) (
    c.requires.sized c.loop-change.change-index (saved_change no_change) (omega (arith, length-map c.args.changes.now saved_change))
    )

pub returns-in_default : goal.returns-in_default
returns-in_default c =
    subst (λ (ys : List ℕ). length c.args.out.now < c.args.at + length ys) (sym (flat_map-map change_bytes saved_change c.args.changes.now)) (
    put-none bytes_of c.args.out.now c.loop-change.out c.args.at c.loop-change.end c.args.changes.now c.loop-change.change-index no_change
    c.loop-change-test.true c.loop-change.auto.out c.loop-change.invariant c.in_default.ensures
    )

pub loop-change-preserved : goal.loop-change-preserved
loop-change-preserved c =
    put_more bytes_of c.args.out.now c.loop-change.out c.put_change.new.out c.args.at c.loop-change.end c.args.changes.now c.loop-change.change-index no_change c.in-Some.next
    c.loop-change-test.true c.loop-change.auto.out c.loop-change.invariant c.in-Some.ensures

pub returns : goal.returns
returns c =
    subst (λ (ys : List ℕ). HasPut c.args.out.now c.args.at ys c.loop-change.out c.loop-change.end) (sym (flat_map-map change_bytes saved_change c.args.changes.now)) (
    put_all bytes_of c.args.out.now c.loop-change.out c.args.at c.args.changes.now c.loop-change.change-index c.loop-change.end c.loop-change-test.false
    c.loop-change.invariant
    )
