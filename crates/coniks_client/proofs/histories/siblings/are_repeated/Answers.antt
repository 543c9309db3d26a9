use Rattle.std.proofs.Common.{◌≡◌, true, sym, ◌∙◌, arith}
use Rattle.coniks_proof.specs.Bits.{bit_at}
use Rattle.coniks_client.proofs.MapLemmas.{rank-small, rank-within}
use Rattle.coniks_client.proofs.histories.siblings.are_repeated.Goals as goal

pub string_at-value-requires : goal.string_at-value-requires
string_at-value-requires c =
    let set : bit_at c.args.map.now c.loop-i.i ≡ true = sym c.bit_of.ensures ∙ c.if-bit_of.true in
    let within = rank-within c.args.map.now c.loop-i.i c.args.n (omega arith) set in
    omega (arith, c.loop-i.invariant.taken, c.requires.sent, within)

pub overflow_add-taken : goal.overflow_add-taken
overflow_add-taken c =
    let small = rank-small c.args.map.now c.loop-i.i in
    omega (arith, c.loop-i.invariant.taken, small, c.ranges.n.fits)
