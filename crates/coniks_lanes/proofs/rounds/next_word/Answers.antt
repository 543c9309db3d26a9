use Rattle.std.proofs.Common.{◌≡◌, ℕ, ◌+◌, ◌%◌, arith, refl}
use Rattle.std.proofs.lemmas.List.{get_or-map, map-set}
use Rattle.coniks_lanes.proofs.rounds.next_word.Goals as goal

pub returns-clause-value : goal.returns-clause-value
returns-clause-value g c = λ j lt.
    let p : ℕ = c.args.place in
    let e : p % 16 ≡ p = omega arith in
    let word = g.W.Words.lane j in
    let w = c.args.w.now in
    rw (
      c.add-word.ensures j lt,
      c.add-2.ensures j lt,
      c.add.ensures j lt,
      c.lower_sigma1.ensures j lt,
      c.lower_sigma0.ensures j lt,
      e,
      get_or-map word w ((p + 14) % 16) c.index-w-place.result 0 (omega (arith, c.told-w)),
      get_or-map word w ((p + 9) % 16) c.index-w-place-2.result 0 (omega (arith, c.told-w)),
      get_or-map word w ((p + 1) % 16) c.index-w-place-3.result 0 (omega (arith, c.told-w)),
      get_or-map word w p c.index-w-place-4.result 0 (omega (arith, c.told-w)),
    )
    refl

pub returns-clause-window : goal.returns-clause-window
returns-clause-window g c = λ j lt. map-set (g.W.Words.lane j) c.args.w.now c.args.place c.add-word.result
