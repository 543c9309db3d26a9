-- Lists of workers.
use Rattle.std.proofs.Common.{◌≡◌, ◌≢◌, ◌⊎◌, inl, inr, ⊎_elim, ℕ, zero, suc, ◌+◌, ◌<◌, ◌≤◌, true, false, List, [], ◌∷◌, ◌++◌, length, take, drop, sym, refl, ap, ◌∙◌, subst, arith, Option, length-append}
use Rattle.std.specs.Prelude.{All}
use Rattle.std.proofs.lemmas.List.Elements.{All-push}
use mathlib.Core.Logic.{dite}
use native.Mathlib.Decide.{ℕ_discrete}
use Rattle.coniks_threads.specs.Draws.{times, times_over}
use Rattle.coniks_threads.specs.Places.{numbers, StandsAt, Places}
use Rattle.coniks_threads.specs.Drawers.{Drawing, Claimed, HasFirst, SomeOut, lists_of}
use Rattle.coniks_tree.specs.declared.part.Part.{Part}
use Rattle.coniks_threads.specs.declared.worker.Worker.{Worker}
use Rattle.coniks_threads.specs.Pools.{AllFresh, AllWorked, drawers_of, Finished, AllFinished, AreGone, ArePlaced}

pub first_last : (ws : List Worker) (w : Worker) (n : ℕ) → w.drawer.first ≡ true → w.drawer.splits + 1 ≡ n → HasFirst (drawers_of (ws ++ w ∷ [])) n
first_last [] w n f s = inl (f, s)
first_last (v ∷ vs) w n f s = inr (first_last vs w n f s)

-- a pool after its work
pub after_work : (claims : Claimed) (part : ℕ → Part → Type 0) (vs ws : List Worker) → length ws ≡ length vs → AllFresh claims claims.limit vs → AllWorked part vs ws → AllFinished claims part ws
after_work claims part [] [] e f a = tt
after_work claims part [] (w ∷ ws) e f a = absurd (omega arith)
after_work claims part (v ∷ vs) [] e f a = absurd (omega arith)
after_work claims part (v ∷ vs) (w ∷ ws) e f a =
    let fr = f zero v (omega arith) in let wo = a zero v (omega arith) in (
      record { table = wo.table ∙ fr.table; parts = subst (λ (n : ℕ). Rattle.coniks_threads.specs.Places.AreParts part n w.done.items) fr.limit wo.parts; all = wo.all },
      after_work claims part vs ws (omega arith) (λ i d l. f (suc i) d (omega arith)) (λ i d l. a (suc i) d (omega arith)),
    )

pub first_after : (part : ℕ → Part → Type 0) (vs ws : List Worker) (n : ℕ) → length ws ≡ length vs → AllWorked part vs ws → HasFirst (drawers_of vs) n → HasFirst (drawers_of ws) n
first_after part [] ws n e a h = absurd h
first_after part (v ∷ vs) [] n e a h = absurd (omega arith)
first_after part (v ∷ vs) (w ∷ ws) n e a h =
    let wo = a zero v (omega arith) in
    ⊎_elim (λ (x : (v.drawer.first ≡ true) × (v.drawer.splits + 1 ≡ n)). inl (wo.first ∙ x.0, ap (λ (k : ℕ). k + 1) wo.splits ∙ x.1))
    (λ (x : HasFirst (drawers_of vs) n). inr (first_after part vs ws n (omega arith) (λ i d l. a (suc i) d (omega arith)) x)) h

pub finished_front : (claims : Claimed) (part : ℕ → Part → Type 0) (ws : List Worker) (w : Worker) → AllFinished claims part (ws ++ w ∷ []) → AllFinished claims part ws × Finished claims part w
finished_front claims part [] w h = (tt, h.0)
finished_front claims part (v ∷ vs) w h = let r = finished_front claims part vs w h.1 in ((h.0, r.0), r.1)

first_front : (ws : List Worker) (w : Worker) (n : ℕ) → HasFirst (drawers_of (ws ++ w ∷ [])) n → HasFirst (drawers_of ws) n ⊎ ((w.drawer.first ≡ true) × (w.drawer.splits + 1 ≡ n))
first_front [] w n h = ⊎_elim (λ (x : (w.drawer.first ≡ true) × (w.drawer.splits + 1 ≡ n)). inr x) (λ (x : ⊥). absurd x) h
first_front (v ∷ vs) w n h = ⊎_elim (λ (x : (v.drawer.first ≡ true) × (v.drawer.splits + 1 ≡ n)). inl (inl x))
    (λ (x : HasFirst (drawers_of (vs ++ w ∷ [])) n). ⊎_elim (λ (y : HasFirst (drawers_of vs) n). inl (inr y))
    (λ (y : (w.drawer.first ≡ true) × (w.drawer.splits + 1 ≡ n)). inr y) (first_front vs w n x)) h

first_more : (ds : List Drawing) (d : Drawing) (n : ℕ) → HasFirst ds n → HasFirst (ds ++ d ∷ []) n
first_more [] d n h = absurd h
first_more (e ∷ es) d n h = ⊎_elim (λ (x : (e.first ≡ true) × (e.splits + 1 ≡ n)). inl x) (λ (x : HasFirst es n). inr (first_more es d n x)) h

first_here : (ds : List Drawing) (d : Drawing) (n : ℕ) → (d.first ≡ true) × (d.splits + 1 ≡ n) → HasFirst (ds ++ d ∷ []) n
first_here [] d n h = inl h
first_here (e ∷ es) d n h = inr (first_here es d n h)

out_here : (ds : List Drawing) (d : Drawing) → d.out ≡ true → SomeOut (ds ++ d ∷ [])
out_here [] d o = inl o
out_here (e ∷ es) d o = inr (out_here es d o)

lists_more : (j : ℕ) (ds : List Drawing) (d : Drawing) → times_over j (lists_of (ds ++ d ∷ [])) ≡ times_over j (lists_of ds) + times j d.list
lists_more j [] d = omega arith
lists_more j (e ∷ es) d = let h = lists_more j es d in omega arith

-- one more worker is taken from the pool
pub gone_next : (claims : Claimed) (part : ℕ → Part → Type 0) (total : ℕ) (pool before : List Worker) (w : Worker) (drawers after : List Drawing)
    → before ≡ pool ++ w ∷ [] → after ≡ drawers ++ w.drawer ∷ [] → AreGone claims part total before drawers → w.failed ≡ false
    → AreGone claims part total pool after
gone_next claims part total pool before w drawers after was is h fine =
    let f = finished_front claims part pool w (subst (AllFinished claims part) was h.rest) in
    let all = f.1.all fine in
    let nb : length before ≡ length pool + 1 = ap length was ∙ length-append pool (w ∷ []) in
    let na : length after ≡ length drawers + 1 = ap length is ∙ length-append drawers (w.drawer ∷ []) in
    record {
      own = subst (All (λ (d : Drawing). d.table ≡ claims.table)) (sym is) (All-push (λ (d : Drawing). d.table ≡ claims.table) drawers w.drawer h.own f.1.table);
      out = λ _. subst SomeOut (sym is) (out_here drawers w.drawer all.1);
      first = ⊎_elim (λ (x : HasFirst drawers total). inl (subst (λ (ds : List Drawing). HasFirst ds total) (sym is) (first_more drawers w.drawer total x)))
          (λ (x : HasFirst (drawers_of before) total). ⊎_elim (λ (y : HasFirst (drawers_of pool) total). inr y)
          (λ (y : (w.drawer.first ≡ true) × (w.drawer.splits + 1 ≡ total)). inl (subst (λ (ds : List Drawing). HasFirst ds total) (sym is) (first_here drawers w.drawer total y)))
          (first_front pool w total (subst (λ (ws : List Worker). HasFirst (drawers_of ws) total) was x))) h.first;
      count = (let c = h.count in omega arith);
      rest = f.0;
    }

-- the parts of a worker are put into their places
pub placed_next : (part : ℕ → Part → Type 0) (size : ℕ) (w : Worker) (drawers after : List Drawing) (placed placed' : List (Option Part))
    → after ≡ drawers ++ w.drawer ∷ [] → ArePlaced part size drawers placed → numbers w.done.items ≡ w.drawer.list
    → Places part placed placed' (numbers w.done.items) [] → length placed' ≡ length placed
    → ArePlaced part size after placed'
placed_next part size w drawers after placed placed' is h drawn p l = record {
  len = l ∙ h.len;
  put = λ j some_time.
      (let t : times_over j (lists_of after) ≡ times_over j (lists_of drawers) + times j w.drawer.list = ap (λ (ds : List Drawing). times_over j (lists_of ds)) is ∙ lists_more j drawers w.drawer in
      let n : times j (numbers w.done.items) ≡ times j w.drawer.list = ap (times j) drawn in
      dite (ℕ_discrete (times j w.drawer.list) 0)
      (λ (z : times j w.drawer.list ≡ 0). p.retained j (h.put j (omega arith)))
      (λ (z : times j w.drawer.list ≢ 0). ⊎_elim (λ (x : StandsAt part placed' j). x) (λ (x : 0 < times j []). absurd (omega arith)) (p.put j (omega arith))));
}

module _ {A : Type 0} where
  drop_all : (ys : List A) (k : ℕ) → length ys ≤ k → drop k ys ≡ []
  drop_all [] zero le = refl
  drop_all [] (suc k) le = refl
  drop_all (y ∷ ys) zero le = absurd (omega arith)
  drop_all (y ∷ ys) (suc k) le = drop_all ys k (omega arith)

  take_all : (xs : List A) (k : ℕ) → length xs ≡ k → take k (xs ++ []) ≡ xs
  take_all [] zero e = refl
  take_all [] (suc k) e = refl
  take_all (x ∷ xs) zero e = absurd (omega arith)
  take_all (x ∷ xs) (suc k) e = ap (λ (l : List A). x ∷ l) (take_all xs k (omega arith))

  -- a vector whose elements were lent and written
  pub written : (xs ys : List A) (k : ℕ) → length xs ≡ length ys → k ≡ length ys → take k (xs ++ drop (length xs) ys) ≡ xs
  written xs ys k e n = ap (λ (l : List A). take k (xs ++ l)) (drop_all ys (length xs) (omega arith)) ∙ take_all xs k (omega arith)

-- the pool that is collected after its work: all workers have ended, and one of them has the first drawer
pub pool_ended : (claims : Claimed) (part : ℕ → Part → Type 0) (lent vs ws : List Worker) (k : ℕ)
    → lent ≡ vs → length ws ≡ length lent → k ≡ length vs
    → (0 < length vs) × AllFresh claims claims.limit vs → HasFirst (drawers_of vs) (length vs) → AllWorked part lent ws
    → let left = take k (ws ++ drop (length ws) vs) in AllFinished claims part left × ((0 < length left) × HasFirst (drawers_of left) (length left))
pool_ended claims part lent vs ws k was len k-is fresh first all =
    let same : length ws ≡ length vs = len ∙ ap length was in
    let worked = subst (λ (l : List Worker). AllWorked part l ws) was all in
    let ended : List Worker → Type 0 = λ l. AllFinished claims part l × ((0 < length l) × HasFirst (drawers_of l) (length l)) in
    let some = fresh.0 in
    subst ended (sym (written ws vs k same k-is)) (
      after_work claims part vs ws same fresh.1 worked,
      (omega (arith, same, some), first_after part vs ws (length ws) same worked (subst (HasFirst (drawers_of vs)) (sym same) first)),
    )
