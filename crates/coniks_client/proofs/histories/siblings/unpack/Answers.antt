use Rattle.std.proofs.Common.{◌≡◌, ◌+◌, ℕ, List, true, false, sym, ap, subst, ◌∙◌, arith}
use Rattle.std.specs.List.{slice_get}
use Rattle.coniks_proof.specs.Bits.{bit_at}
use Rattle.coniks_client.specs.SiblingMaps.{rank}
use Rattle.coniks_client.specs.Siblings.{AreUnpacked}
use Rattle.coniks_client.proofs.MapLemmas.{rank-no, rank-small, rank-within, rank-yes}
use Rattle.coniks_client.proofs.SiblingLemmas.{unpacked-no, unpacked-yes}
use Rattle.coniks_client.proofs.histories.siblings.unpack.Goals as goal
use Rattle.coniks_client.proofs.histories.siblings.unpack.Goals.{then-bit_of, else-bit_of}

pub string_at-requires : goal.string_at-requires
string_at-requires c =
    let set : bit_at c.args.map.now c.loop-i.i ≡ true = sym c.bit_of.ensures ∙ c.if-bit_of.true in
    let within = rank-within c.args.map.now c.loop-i.i c.args.n (omega arith) set in
    omega (arith, c.loop-i.invariant.taken, c.requires.sent, within)

pub overflow_add-taken : goal.overflow_add-taken
overflow_add-taken c =
    let small = rank-small c.args.map.now c.loop-i.i in
    omega (arith, c.loop-i.invariant.taken, small, c.ranges.n.fits)

pub loop-i-preserved : goal.loop-i-preserved
loop-i-preserved c = elim c.if-bit_of.branch [
  | then-bit_of w ↦
      let set : bit_at c.args.map.now c.loop-i.i ≡ true = sym c.bit_of.ensures ∙ w.if-bit_of.true in
      let at : slice_get c.args.sent.now (rank c.args.map.now c.loop-i.i) ≡ slice_get c.args.sent.now c.loop-i.taken = ap (slice_get c.args.sent.now) (sym c.loop-i.invariant.taken) in
      let more = unpacked-yes c.args.map.now c.loop-i.i c.args.sent.now c.args.siblings.now c.loop-i.siblings c.loop-i.invariant.unpacked w.put.new.siblings w.string_at.result set (at ∙ w.string_at.ensures) w.put.ensures in
      record {
        taken = w.taken-is ∙ ap (λ (t : ℕ). t + 1) c.loop-i.invariant.taken ∙ sym (rank-yes c.args.map.now c.loop-i.i set);
        unpacked = subst (λ (l : List (List ℕ)). AreUnpacked c.args.map.now (c.loop-i.i + 1) c.args.sent.now c.args.siblings.now l) (sym w.siblings-is) more;
      }
  | else-bit_of w ↦
      let unset : bit_at c.args.map.now c.loop-i.i ≡ false = sym c.bit_of.ensures ∙ w.if-bit_of.false in
      let more = unpacked-no c.args.map.now c.loop-i.i c.args.sent.now c.args.siblings.now c.loop-i.siblings c.loop-i.invariant.unpacked unset in
      record {
        taken = w.taken-is ∙ c.loop-i.invariant.taken ∙ sym (rank-no c.args.map.now c.loop-i.i unset);
        unpacked = subst (λ (l : List (List ℕ)). AreUnpacked c.args.map.now (c.loop-i.i + 1) c.args.sent.now c.args.siblings.now l) (sym w.siblings-is) more;
      }
]
