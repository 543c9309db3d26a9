use Rattle.std.proofs.Common.{◌≡◌, ◌-◌, ◌<◌, ◌≤◌, ◌∷◌, ◌++◌, [], ℕ, List, length, take, drop, slice_set, sym, ap, ◌∙◌, arith, min}
use Rattle.std.proofs.Math.Nat.{min_comm, min-le_left, min-le_right}
use Rattle.std.proofs.Math.Seq.{drop-cons, set-append_seam}
use Rattle.std.proofs.Math.ListN.{get_or}
use Rattle.std.proofs.lemmas.List.{drop_min, length-take-le, take_min}
use Rattle.coniks_c.specs.Texts.{written}
use Rattle.coniks_c.proofs.text.write.Goals as goal

-- a byte of 0 set behind the text's part
ended : (place text : List ℕ) (count : ℕ) → 0 < length place → count ≡ min (length text) (length place - 1)
    → slice_set (take count text ++ drop count place) count 0 ≡ written place text
ended [] text count some is = absurd (omega (arith, some))
ended (b ∷ rest) text count some is =
    let size : length (b ∷ rest) - 1 ≡ length rest = omega arith in
    let least : count ≡ min (length text) (length rest) = is ∙ ap (min (length text)) size in
    let fits : count ≤ length rest = omega (arith, least, min-le_right (length text) (length rest)) in
    let short : count ≤ length text = omega (arith, least, min-le_left (length text) (length rest)) in
    let front : take count text ≡ take (length rest) text =
    ap (λ n. take n text) (least ∙ min_comm (length text) (length rest)) ∙ take_min (length rest) text in
    let back : drop count rest ≡ drop (length text) rest = ap (λ n. drop n rest) least ∙ drop_min (length text) rest in
    let old = get_or (b ∷ rest) count 0 in
    let opened : drop count (b ∷ rest) ≡ old ∷ drop count rest = drop-cons (b ∷ rest) count 0 (omega (arith, fits)) in
    let at : length (take count text) ≡ count = length-take-le count text short in
    ap (λ after. slice_set (take count text ++ after) count 0) opened
    ∙ ap (λ n. slice_set (take count text ++ old ∷ drop count rest) n 0) (sym at)
    ∙ set-append_seam (take count text) old (drop count rest) 0
    ∙ ap (λ part. part ++ 0 ∷ drop count rest) front
    ∙ ap (λ part. take (length rest) text ++ 0 ∷ part) back

pub returns : goal.returns
returns c =
    let place = c.args.place.now in
    let some : 0 < length place = grind (arith, c.is_empty.ensures, c.if-is_empty.ensures) in
    let least : c.min-count.result ≡ min (length c.args.text.now) (length place - 1) = grind (arith, c.min-count.ensures) in
    ap (λ part. slice_set (part ++ drop c.min-count.result place) c.min-count.result 0) c.copy_from_slice.ensures.after
    ∙ ended place c.args.text.now c.min-count.result some least
