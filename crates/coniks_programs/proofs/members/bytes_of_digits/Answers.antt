use Rattle.std.proofs.Common.{◌*◌, ℕ, List, arith, ap, sym, ◌∙◌}
use Rattle.std.specs.Result.{result_ok}
use Rattle.std.proofs.lemmas.List.{length-set}
use Rattle.hex.specs.Hex.{decode_sized}
use Rattle.hex.proofs.Pairs.{decode_done, decode_err, decode_sized-pairs, decode_step}
use Rattle.coniks_programs.proofs.DigitLemmas.{err_from, ok_from}
use Rattle.coniks_programs.proofs.members.bytes_of_digits.Goals as goal

pub returns-in_err-bytes : goal.returns-in_err-bytes
returns-in_err-bytes g c =
    let was = err_from _ (sym (c.pair.ensures (2 * c.loop-i.i)) ∙ c.in_err-bytes.was) in
    let d = decode_sized-pairs _ _ c.if-digits-ne0.false c.if-digits.false ∙ decode_err _ c.loop-i.bytes c.loop-i.i _ (omega arith) was.1 c.loop-i.invariant.1 in
    c.from_residual.ensures ∙ sym (ap result_ok d) ∙ ap (λ (s : List ℕ). result_ok (decode_sized s g.row.N)) c.as_bytes-digits.ensures.value

pub loop-i-preserved : goal.loop-i-preserved
loop-i-preserved g c = (
  length-set _ _ _ ∙ c.loop-i.invariant.0,
  decode_step _ _ c.loop-i.i _ (omega arith) (omega arith) (ok_from _ _ (sym (c.pair.ensures (2 * c.loop-i.i)) ∙ c.in_ok-bytes.was)) c.loop-i.invariant.1,
)

pub returns : goal.returns
returns g c =
    let d = decode_sized-pairs _ _ c.if-digits-ne0.false c.if-digits.false ∙ decode_done _ c.loop-i.bytes c.loop-i.i (omega arith) (omega arith) c.loop-i.invariant.1 in
    sym (ap result_ok d) ∙ ap (λ (s : List ℕ). result_ok (decode_sized s g.row.N)) c.as_bytes-digits.ensures.value
