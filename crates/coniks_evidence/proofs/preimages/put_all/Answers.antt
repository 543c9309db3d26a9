use Rattle.std.proofs.Common.{◌≡◌, ◌+◌, ℕ, List, [], ◌++◌, length, drop, get_or, sym, ap, ◌∙◌, arith, length-append}
use Rattle.std.specs.Borrow.{Bor}
use Rattle.std.proofs.lemmas.List.{drop-drop}
use Rattle.std.proofs.lemmas.List.Folds.{length-flat_map-take}
use Rattle.coniks_evidence.proofs.PreimageLemmas.{joined_more}
use Rattle.coniks_evidence.proofs.preimages.put_all.Goals as goal

-- what is after a part that was written is as it was
rest_same : (at next n : ℕ) (old before after : List ℕ) → next ≡ at + n → drop next after ≡ drop next before → drop at before ≡ drop at old → drop next after ≡ drop next old
rest_same at next n old before after is written was =
    written ∙ ap (λ m. drop m before) is ∙ sym (drop-drop n at before) ∙ ap (drop n) was ∙ drop-drop n at old ∙ ap (λ m. drop m old) (sym is)

pub put-at-requires : goal.put-at-requires
put-at-requires c =
    let more = length-flat_map-take (λ (piece : Bor (List ℕ)). piece.now) c.args.pieces.now c.loop-piece.piece-index (record { ref_ptr = (0, 0); now = [] }) c.loop-piece-test.true in
    omega (arith, more, c.loop-piece.invariant.place, c.loop-piece.invariant.size, c.requires)

pub loop-piece-preserved : goal.loop-piece-preserved
loop-piece-preserved c =
    let more = joined_more c.args.pieces.now c.loop-piece.piece-index (record { ref_ptr = (0, 0); now = [] }) c.loop-piece-test.true in
    record {
      place = omega (arith, ap length more, length-append {A = ℕ}, c.put-at.ensures.next, c.loop-piece.invariant.place);
      size = c.put-at.ensures.size ∙ c.loop-piece.invariant.size;
      put = c.put-at.ensures.put ∙ ap (λ z. z ++ (get_or c.args.pieces.now c.loop-piece.piece-index (record { ref_ptr = (0, 0); now = [] })).now) c.loop-piece.invariant.put ∙ sym more;
      rest = rest_same c.loop-piece.at c.put-at.result _ c.args.bytes.now c.loop-piece.bytes c.put-at.new.bytes c.put-at.ensures.next c.put-at.ensures.rest c.loop-piece.invariant.rest;
    }
