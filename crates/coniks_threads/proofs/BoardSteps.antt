-- Each step on the board keeps the rule.
use Rattle.std.proofs.Common.{◌≡◌, ◌≢◌, ℕ, zero, suc, ◌+◌, ◌-◌, ◌*◌, ◌<◌, ◌≤◌, slice_index, slice_set, replicate, true, false, true≢false, List, [], ◌∷◌, ◌++◌, length, set, sym, refl, ap, ◌∙◌, subst, ⊎_elim, arith, append_assoc, length-append}
use Rattle.std.proofs.Math.Seq.{set-append_seam}
use Rattle.std.proofs.lemmas.List.{set-get_or}
use mathlib.Core.Option.{some, none}
use lib.ListN.{get_elem?}
use Rattle.atomic_table.specs.Table.{Me, step, Act, keeps, Allows, Splits, Joins, opening}
use Rattle.atomic_table.proofs.Lists.{at_set, at_snoc, set_again, set_else}
use Rattle.coniks_threads.specs.declared.board_rule.BoardView.{BoardView}
use Rattle.coniks_threads.specs.Blocks.{flat, AllFive}
use Rattle.coniks_threads.specs.Lists.{Begins}
use Rattle.coniks_threads.specs.BoardRule.{board_view, publisher_view, watcher_view, spent_view, FitsBoard, HoldsBoard, IsByBoard, Stored, Published, Looked, Read, Compared}
use Rattle.coniks_threads.proofs.BlockLemmas.{flat_length, flat_snoc, fives_snoc, begins_self, begins_more, begins_none, read_seen}

-- each view fits
abbrev AllFit : ℕ → ℕ → List (List ℕ) → List ℕ → List BoardView → Type 0
AllFit capacity writer log pending views = (i : ℕ) (v : BoardView) → get_elem? views i ≡ some v → FitsBoard capacity writer log pending i v

-- each view fits after one of them was changed, where the others fit
fits_set : (F : ℕ → BoardView → Type 0) (views : List BoardView) (id : ℕ) (w : BoardView) → F id w
    → ((j : ℕ) (u : BoardView) → j ≢ id → get_elem? views j ≡ some u → F j u) → (j : ℕ) (u : BoardView) → get_elem? (set views id w) j ≡ some u → F j u
fits_set F views id w mine others j u e = ⊎_elim (λ (x : (j ≡ id) × (w ≡ u)). subst (λ (y : ℕ × BoardView). F y.0 y.1) (λ i. (sym x.0 i, x.1 i)) mine)
    (λ (x : (j ≢ id) × (get_elem? views j ≡ some u)). others j u x.0 x.1) (at_set views id j w u e)

-- the state is as it was
same : (c writer : ℕ) (log : List (List ℕ)) (pending rest words words' : List ℕ) (views views' : List BoardView)
    → HoldsBoard c writer log pending rest words views → words ≡ words' → views ≡ views' → HoldsBoard c writer log pending rest words' views'
same c writer log pending rest words words' views views' h e f = subst (λ (y : List ℕ × List BoardView). HoldsBoard c writer log pending rest y.0 y.1) (λ i. (e i, f i)) h

-- the board holds the same for other views, where each of them fits
reseated : (c writer : ℕ) (log : List (List ℕ)) (pending rest words : List ℕ) (views views' : List BoardView) → HoldsBoard c writer log pending rest words views → AllFit c writer log pending views'
    → HoldsBoard c writer log pending rest words views'
reseated c writer log pending rest words views views' laid each = record { rows = laid.rows; long = laid.long; full = laid.full; fives = laid.fives; each = each }

-- the publisher stores one word of the next block
pub puts : (c slots id : ℕ) (me : Me ℕ BoardView) (i x : ℕ) → me.0.writes ≡ true → me.0.live ≡ true
    → i ≡ 5 * length me.0.blocks + length me.0.pending + 1 → length me.0.pending < 5 → length me.0.blocks < c
    → Allows (IsByBoard c) slots id me i (λ _. x) (λ _. Stored (step slots i x 0 none) me x)
puts c slots id me i x wr live is few room s retained len at bound = go retained.3 retained.4
  where
    v : BoardView
    v = me.0

    u : BoardView
    u = publisher_view v.blocks v.returned (v.pending ++ x ∷ []) v.room

    go : (rest : List ℕ) → HoldsBoard c retained.0 retained.1 retained.2 rest s.words s.views → (w : BoardView) × (a : Act ℕ) × Rattle.atomic_table.specs.Table.Valid s.homes me.1 a
        × IsByBoard c (Rattle.atomic_table.specs.Table.stepped s i x id me.1 w a) × Stored (step slots i x 0 none) me x (w, Rattle.atomic_table.specs.Table.carried_after me.1 a)
    go [] laid =
        let mine = (laid.each id v at).writes wr in
        let a : length v.blocks ≡ length retained.1 = ap length mine.1 in
        let b : length v.pending ≡ length retained.2 = ap length mine.2 in
        let l = flat_length retained.1 laid.fives in
        let n : length s.words ≡ suc (length (flat retained.1 ++ (retained.2 ++ []))) = ap length laid.rows in
        let g = laid.long in
        absurd (omega (arith, length-append (flat retained.1) (retained.2 ++ []), length-append retained.2 []))
    go (y ∷ ys) laid =
        let fit = laid.each id v at in
        let mine = fit.writes wr in
        let a : length v.blocks ≡ length retained.1 = ap length mine.1 in
        let b : length v.pending ≡ length retained.2 = ap length mine.2 in
        let l = flat_length retained.1 laid.fives in
        let F : List ℕ = flat retained.1 in
        let P : List ℕ = retained.2 in
        let place : i ≡ suc (length (F ++ P)) = omega (arith, length-append F P) in
        let rows : s.words ≡ length retained.1 ∷ ((F ++ P) ++ y ∷ ys) = laid.rows ∙ ap (λ (k : List ℕ). length retained.1 ∷ k) (sym (append_assoc F P (y ∷ ys))) in
        let rows' : slice_set s.words i x ≡ length retained.1 ∷ (F ++ ((P ++ x ∷ []) ++ ys)) =
        (λ j. slice_set (rows j) (place j) x)
        ∙ ap (λ (k : List ℕ). length retained.1 ∷ k) (set-append_seam (F ++ P) y ys x ∙ append_assoc F P (x ∷ ys) ∙ ap (λ (k : List ℕ). F ++ k) (sym (append_assoc P (x ∷ []) ys))) in
        let longer : length (slice_set s.words i x) ≡ 5 * c + 1 = Rattle.std.proofs.Math.ListN.length-set s.words i x ∙ laid.long in
        let each' : AllFit c retained.0 retained.1 (P ++ x ∷ []) (set s.views id u) = fits_set (FitsBoard c retained.0 retained.1 (P ++ x ∷ [])) s.views id u
        record { writes = λ _. (mine.0, mine.1, ap (λ (k : List ℕ). k ++ x ∷ []) mine.2); seen = fit.seen; returned = fit.returned; room = λ _. fit.room live }
        (λ j w other e. (let f = laid.each j w e in record { writes = λ t. absurd (other ((f.writes t).0 ∙ sym mine.0)); seen = f.seen; returned = f.returned; room = f.room })) in
        (u, keeps, tt, (retained.0, retained.1, P ++ x ∷ [], ys, record { rows = rows'; long = longer; full = laid.full; fives = laid.fives; each = each' }), (refl, refl))

-- the publisher stores the count
pub publishes : (c slots id : ℕ) (me : Me ℕ BoardView) (n : ℕ) → me.0.writes ≡ true → me.0.live ≡ true → length me.0.pending ≡ 5 → n ≡ length me.0.blocks + 1 → length me.0.blocks < c
    → Allows (IsByBoard c) slots id me 0 (λ _. n) (λ _. Published (step slots 0 n 0 none) me n)
publishes c slots id me n wr live five is room s retained len at bound =
    let v : BoardView = me.0 in
    let writer : ℕ = retained.0 in let log : List (List ℕ) = retained.1 in let P : List ℕ = retained.2 in let rest : List ℕ = retained.3 in
    let laid : HoldsBoard c writer log P rest s.words s.views = retained.4 in
    let fit = laid.each id v at in
    let mine = fit.writes wr in
    let a : length v.blocks ≡ length log = ap length mine.1 in
    let b : length v.pending ≡ length P = ap length mine.2 in
    let log' : List (List ℕ) = log ++ P ∷ [] in
    let u : BoardView = publisher_view (v.blocks ++ v.pending ∷ []) v.returned [] v.room in
    let count : n ≡ length log' = omega (arith, length-append log (P ∷ [])) in
    let rows' : slice_set s.words 0 n ≡ length log' ∷ (flat log' ++ rest) =
    (λ j. slice_set (laid.rows j) 0 (count j)) ∙ ap (λ (k : List ℕ). length log' ∷ k) (sym (append_assoc (flat log) P rest) ∙ ap (λ (k : List ℕ). k ++ rest) (sym (flat_snoc log P))) in
    let longer : length (slice_set s.words 0 n) ≡ 5 * c + 1 = Rattle.std.proofs.Math.ListN.length-set s.words 0 n ∙ laid.long in
    let each' : AllFit c writer log' [] (set s.views id u) = fits_set (FitsBoard c writer log' []) s.views id u
    record {
      writes = λ _. (mine.0, (λ j. mine.1 j ++ mine.2 j ∷ []), refl);
      seen = subst (λ (k : List (List ℕ)). Begins k log') (λ j. sym mine.1 j ++ sym mine.2 j ∷ []) (begins_self log');
      returned = begins_more v.returned log P fit.returned;
      room = λ _. fit.room live;
    }
    (λ j w other e. (let f = laid.each j w e in
    record { writes = λ t. absurd (other ((f.writes t).0 ∙ sym mine.0)); seen = begins_more w.blocks log P f.seen; returned = begins_more w.returned log P f.returned; room = f.room })) in (
      u,
      keeps,
      tt,
      (writer, log', [], rest, record { rows = rows'; long = longer; full = omega (arith, length-append log (P ∷ [])); fives = fives_snoc log P laid.fives (omega arith); each = each' }),
      (refl, refl),
    )

-- a watcher loads the count
pub looks : (c slots id : ℕ) (me : Me ℕ BoardView) → me.0.writes ≡ false → me.0.live ≡ true → Allows (IsByBoard c) slots id me 0 (λ n. n) (Looked (step slots 0 0 0 none) me)
looks c slots id me wr live s retained len at bound =
    let v : BoardView = me.0 in
    let writer : ℕ = retained.0 in let log : List (List ℕ) = retained.1 in let P : List ℕ = retained.2 in let rest : List ℕ = retained.3 in
    let laid : HoldsBoard c writer log P rest s.words s.views = retained.4 in
    let fit = laid.each id v at in
    let u : BoardView = watcher_view log v.room in
    let found : slice_index s.words 0 ≡ length log = ap (λ (l : List ℕ). slice_index l 0) laid.rows in
    let back : slice_set s.words 0 (slice_index s.words 0) ≡ s.words = set-get_or s.words 0 0 in
    let each' : AllFit c writer log P (set s.views id u) = fits_set (FitsBoard c writer log P) s.views id u
    record { writes = λ t. absurd (true≢false (sym t)); seen = begins_self log; returned = begins_none log; room = λ _. fit.room live }
    (λ j w other e. laid.each j w e) in (
      u,
      keeps,
      tt,
      (writer, log, P, rest, record { rows = back ∙ laid.rows; long = ap length back ∙ laid.long; full = laid.full; fives = laid.fives; each = each' }),
      (refl, refl, sym found, (let r = fit.room live in let f = laid.full in omega arith), fit.seen, laid.fives),
    )

-- a watcher loads a word of a block that it has seen
pub reads : (c slots id : ℕ) (me : Me ℕ BoardView) (i : ℕ) → 0 < i → i ≤ 5 * length me.0.blocks → AllFive me.0.blocks → Allows (IsByBoard c) slots id me i (λ n. n) (Read (step slots i 0 0 none) me)
reads c slots id me i some_word less fives s retained len at bound =
    let v : BoardView = me.0 in
    let writer : ℕ = retained.0 in let log : List (List ℕ) = retained.1 in let P : List ℕ = retained.2 in let rest : List ℕ = retained.3 in
    let laid : HoldsBoard c writer log P rest s.words s.views = retained.4 in
    let fit = laid.each id v at in
    let back : slice_set s.words i (slice_index s.words i) ≡ s.words = set-get_or s.words i 0 in
    let next : i ≡ suc (i - 1) = omega arith in
    let l = flat_length v.blocks fives in
    let found : slice_index s.words i ≡ slice_index (flat v.blocks) (i - 1) = (λ j. slice_index (laid.rows j) (next j)) ∙ read_seen v.blocks log (P ++ rest) (i - 1) fit.seen (omega arith) in
    (v, keeps, tt, (writer, log, P, rest, same c writer log P rest s.words _ s.views _ laid (sym back) (sym (set_again s.views id v at))), (refl, found))

-- the publisher loads the count, and learns that what it was informed of begins what it published
pub compares : (c slots id : ℕ) (me : Me ℕ BoardView) → me.0.writes ≡ true → Allows (IsByBoard c) slots id me 0 (λ n. n) (Compared (step slots 0 0 0 none) me)
compares c slots id me wr s retained len at bound =
    let v : BoardView = me.0 in
    let writer : ℕ = retained.0 in let log : List (List ℕ) = retained.1 in let P : List ℕ = retained.2 in let rest : List ℕ = retained.3 in
    let laid : HoldsBoard c writer log P rest s.words s.views = retained.4 in
    let fit = laid.each id v at in
    let back : slice_set s.words 0 (slice_index s.words 0) ≡ s.words = set-get_or s.words 0 0 in (
      v,
      keeps,
      tt,
      (writer, log, P, rest, same c writer log P rest s.words _ s.views _ laid (sym back) (sym (set_again s.views id v at))),
      (refl, subst (λ (k : List (List ℕ)). Begins v.returned k) (sym (fit.writes wr).1) fit.returned),
    )

-- a new watcher has seen what the seat has seen
pub witnesses : (c id : ℕ) (v : BoardView) → v.live ≡ true → Splits (IsByBoard {S = ℕ} c) id v v (watcher_view v.blocks v.room)
witnesses c id v live s retained at =
    let writer : ℕ = retained.0 in let log : List (List ℕ) = retained.1 in let P : List ℕ = retained.2 in let rest : List ℕ = retained.3 in
    let laid : HoldsBoard c writer log P rest s.words s.views = retained.4 in
    let fit = laid.each id v at in
    let r : BoardView = watcher_view v.blocks v.room in
    let fr : (j : ℕ) → FitsBoard c writer log P j r = λ j. record { writes = λ t. absurd (true≢false (sym t)); seen = fit.seen; returned = begins_none log; room = λ _. fit.room live } in
    let same_views : set s.views id v ≡ s.views = set_again s.views id v at in (
      writer,
      log,
      P,
      rest,
      reseated c writer log P rest s.words s.views _ laid
          (λ j w e. ⊎_elim (λ (x : get_elem? (set s.views id v) j ≡ some w). laid.each j w (ap (λ (k : List BoardView). get_elem? k j) (sym same_views) ∙ x))
          (λ (x : r ≡ w). subst (FitsBoard c writer log P j) x (fr j)) (at_snoc (set s.views id v) r w j e)),
    )

-- a seat is informed of what another has seen
pub tells : (c id : ℕ) (v : BoardView) (other : ℕ) (u : BoardView) → Joins (IsByBoard {S = ℕ} c) id v other u (board_view v.writes v.live v.blocks u.blocks v.pending v.room) spent_view
tells c id v other u s retained at apart there =
    let writer : ℕ = retained.0 in let log : List (List ℕ) = retained.1 in let P : List ℕ = retained.2 in let rest : List ℕ = retained.3 in
    let laid : HoldsBoard c writer log P rest s.words s.views = retained.4 in
    let fit = laid.each id v at in
    let both : BoardView = board_view v.writes v.live v.blocks u.blocks v.pending v.room in
    let was : get_elem? s.views other ≡ some u = sym (set_else s.views id other both apart) ∙ there in
    let theirs = laid.each other u was in
    let fb : FitsBoard c writer log P id both = record { writes = fit.writes; seen = fit.seen; returned = theirs.seen; room = fit.room } in
    let fn : FitsBoard c writer log P other spent_view =
    record { writes = λ t. absurd (true≢false (sym t)); seen = begins_none log; returned = begins_none log; room = λ t. absurd (true≢false (sym t)) } in (
      writer,
      log,
      P,
      rest,
      reseated c writer log P rest s.words s.views _ laid (fits_set (FitsBoard c writer log P) (set s.views id both) other spent_view fn
          (λ j w _ e. fits_set (FitsBoard c writer log P) s.views id both fb (λ j w _ e. laid.each j w e) j w e)),
    )

-- an empty board
pub opens : (c : ℕ) (words : List ℕ) → words ≡ replicate (5 * c + 1) 0 → IsByBoard {S = ℕ} c (opening words [] (publisher_view [] [] [] c))
opens c words is =
    let n : 5 * c + 1 ≡ suc (5 * c) = omega arith in (
      0,
      [],
      [],
      replicate (5 * c) 0,
      record {
        rows = is ∙ ap (λ (k : ℕ). replicate k 0) n;
        long = ap length is ∙ Rattle.std.proofs.Math.ListN.length-replicate (5 * c + 1) 0;
        full = omega arith;
        fives = tt;
        each = λ j w e. one j w e;
      },
    )
  where
    first : BoardView
    first = publisher_view [] [] [] c

    one : (j : ℕ) (w : BoardView) → get_elem? (first ∷ []) j ≡ some w → FitsBoard c 0 [] [] j w
    one zero w e = subst (FitsBoard c 0 [] [] zero) (mathlib.Core.Option.some-injective first w e)
        record { writes = λ _. (refl, refl, refl); seen = begins_none []; returned = begins_none []; room = λ _. refl }
    one (suc j) w e = absurd (mathlib.Core.Option.some-ne-none w (sym e))
