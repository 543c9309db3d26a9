use Rattle.std.proofs.Common.{◌≡◌, ℕ, List, Some, sym, ◌∙◌}
use Rattle.std.specs.List.{slice_get}
use Rattle.std.proofs.lemmas.Option.{same_Some}
use Rattle.std.proofs.lemmas.Slice.Eq.{bytes_eq-Decides}
use Rattle.coniks_client.proofs.histories.siblings.is_repeated.Goals as goal

pub returns : goal.returns
returns c =
    let mine = c.string_at.result in
    let value = c.args.value.now in
    let decides = bytes_eq-Decides mine value in
    let there : slice_get c.args.old.now c.args.place ≡ Some mine = c.string_at.ensures in (
      λ yes. there ∙ some mine value (decides.0 (sym c.eq.ensures ∙ yes)),
      λ same. c.eq.ensures ∙ decides.1 (same_Some mine value (sym there ∙ same)),
    )
  where
    some : (x y : List ℕ) → x ≡ y → Some x ≡ Some y
    some x y e = cc
