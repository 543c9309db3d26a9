use Rattle.std.proofs.Common.{◌++◌, ◌∙◌, Some}
use Rattle.std.specs.Int.{to_be_bytes, w64}
use Rattle.coniks_quorum.specs.Saved.{key_bytes}
use Rattle.coniks_quorum.proofs.StatePutLemmas.{puts_then}
use Rattle.coniks_quorum.proofs.states.writing.put_change.Goals as goal

pub returns : goal.returns
returns c =
    let old = to_be_bytes w64 c.args.change.now.last_old in let new = to_be_bytes w64 c.args.change.now.first_new in
    puts_then c.args.out.now c.put_number-2.new.out c.put_key.new.out c.args.at c.in_ok-at-2.at (old ++ new) (key_bytes c.args.change.now.key.now) c.put_key.result
    (puts_then c.args.out.now c.put_number.new.out c.put_number-2.new.out c.args.at c.in_ok-at.at old new (Some c.in_ok-at-2.at) c.in_ok-at.ensures c.put_number.auto.out c.in_ok-at-2.ensures)
    (c.put_number-2.auto.out ∙ c.put_number.auto.out) c.put_key.ensures
