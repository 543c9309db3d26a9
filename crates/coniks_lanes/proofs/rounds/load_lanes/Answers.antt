use Rattle.std.proofs.Common.{rules, ◌≡◌, ℕ, [], ap, arith, inl, inr, length, map, slice_index_or, subst, sym, ◌∙◌}
use Rattle.std.proofs.lemmas.Bool.{cases_lt}
use Rattle.std.proofs.lemmas.List.{get_or-map}
use Rattle.sha2.specs.Sha256.{padded_message, word_at}
use Rattle.coniks_lanes.proofs.FillLemmas.{one_more_set}
use Rattle.coniks_lanes.specs.Messages.{block}
use Rattle.coniks_lanes.proofs.rounds.load_lanes.Goals as goal

pub lanes-preserved : goal.lanes-preserved
lanes-preserved g c =
    let blocks = map (λ m. block c.args.at.block m.now) c.args.messages.now in
    let next : c.block.result.now ≡ slice_index_or blocks c.lanes.j [] =
    c.block.ensures.is ∙ ap (λ m. block c.args.at.block m.now) c.index-messages-j.is
    ∙ sym (get_or-map (λ m. block c.args.at.block m.now) c.args.messages.now c.lanes.j c.index-messages-j.result [] (omega arith)) in
    let padded : padded_message c.index-messages-j.result.now ≡ slice_index_or (map (λ m. padded_message m.now) c.args.messages.now) c.lanes.j [] =
    ap (λ m. padded_message m.now) c.index-messages-j.is
    ∙ sym (get_or-map (λ m. padded_message m.now) c.args.messages.now c.lanes.j c.index-messages-j.result [] (omega arith)) in (
      search rules,
      one_more_set c.lanes.list (λ k. word_at (slice_index_or blocks k []) c.args.at.byte) c.lanes.j c.load_be.result 0
          (omega arith) c.lanes.invariant.1 (c.load_be.ensures ∙ ap (λ b. word_at b c.args.at.byte) next),
      λ k lt. elim (cases_lt k c.lanes.j) [
        | inl before ↦ c.lanes.invariant.2 k before
        | inr last ↦
            let e : c.lanes.j ≡ k = omega arith in
            subst (λ (i : ℕ). length (slice_index_or (map (λ m. padded_message m.now) c.args.messages.now) i []) ≡ 128) e
            (ap length (sym padded) ∙ c.block.ensures.two)
      ],
    )
