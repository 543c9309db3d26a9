use Rattle.std.proofs.Common.{◌≡◌, sym, ◌∙◌, inl, inr, true, false}
use Rattle.std.specs.Prelude.{◌==◌, ◌⊎◌, ◌<◌, length}
use Rattle.serde_json.specs.View.{view}
use Rattle.coniks_provider.proofs.ReplayLemmas.{no_group, whole_group}
use Rattle.coniks_provider.proofs.replay.snapshot.group_in.Goals as goal

pub returns-then-is_empty : goal.returns-then-is_empty
returns-then-is_empty c =
    let vs = c.in_ok-elements.elements.now in
    let out = elim c.then-is_empty.either as (λ _. ((length vs == 0) ≡ true) ⊎ (((length vs == 0) ≡ false) × (1000 < length vs))) [
      | inl empty ↦ inl (sym c.is_empty.ensures ∙ empty)
      | inr many ↦ inr (sym c.is_empty.ensures ∙ many.0, many.1)
    ] in
    no_group c.args.name.now (view c.args.object.now) vs c.in_ok-elements.ensures out

pub returns : goal.returns
returns c =
    whole_group c.args.name.now (view c.args.object.now) c.in_ok-elements.elements.now c.in_ok-elements.ensures
    (sym c.is_empty.ensures ∙ c.if-is_empty.false) c.if-elements-gt-GROUP.false
