-- The jobs of a batch.
use Rattle.std.proofs.Common.{◌≡◌, ◌<◌, ◌≤◌, ◌+◌, ◌-◌, ◌^◌, ℕ, zero, suc, List, [], ◌∷◌, ◌++◌, length, take, drop, Bool, true, false, refl, sym, ap, ◌∙◌, subst, arith, length-append, append_assoc, append-nil, pow_mono}
use Rattle.std.specs.Prelude.{All}
use Rattle.std.proofs.Math.Seq.{take-append_seam, drop-append_seam}
use Rattle.std.proofs.lemmas.List.Elements.{All-nil, All-cons, All-append, All-weaker}
use Rattle.coniks_proof.specs.Bits.{child}
use Rattle.coniks_proof.specs.Entries.{under}
use Rattle.coniks_proof.specs.Changes.{AreInOrder}
use Rattle.coniks_proof.proofs.Lemmas.{length-child}
use Rattle.coniks_threads.specs.Limits.{most_numbers}
use Rattle.coniks_tree.specs.Table.{Numbered}
use Rattle.coniks_threads.specs.Sides.{lefts, side}
use Rattle.coniks_threads.specs.Jobs.{in_range, Cover, IsLeftOf, AreJobsRising, TakeTheirs, LieWithin, job_of, jobs_below}
use Rattle.coniks_threads.specs.declared.jobs.Job.{Job}
use Rattle.coniks_threads.specs.declared.jobs.TheConstants.{MAX_DEPTH}
use Rattle.coniks_threads.proofs.SideLemmas.{lefts_few, length-left, length-right, sides_whole, side_in_order, side_under}

-- adjacent ranges, joined
Cover-append : (a b c : ℕ) (js ks : List Job) → Cover a b js → Cover b c ks → Cover a c (js ++ ks)
Cover-append a b c [] ks e h = subst (λ x. Cover x c ks) (sym e) h
Cover-append a b c (j ∷ js) ks g h = (g.0, g.1, Cover-append j.to b c js ks g.2 h)

pub jobs_cover : (h : ℕ) (p : List Bool) (from : ℕ) (es : List Numbered) → Cover from (from + length es) (jobs_below h p from es)
jobs_cover zero p from [] = omega arith
jobs_cover (suc h) p from [] = omega arith
jobs_cover zero p from (e ∷ es) = (refl, omega arith, refl)
jobs_cover (suc h) p from (e ∷ es) =
    let all = e ∷ es in
    let n = lefts (length p) all in
    let left = subst (λ x. Cover from (from + x) (jobs_below h (child p false) from (side false (length p) all)))
    (length-left (length p) all) (jobs_cover h (child p false) from (side false (length p) all)) in
    let end : (from + n) + length (side true (length p) all) ≡ from + length all = omega (arith, length-right (length p) all, lefts_few (length p) all) in
    let right = subst (λ x. Cover (from + n) x (jobs_below h (child p true) (from + n) (side true (length p) all))) end (jobs_cover h (child p true) (from + n) (side true (length p) all)) in
    Cover-append from (from + n) (from + length all) _ _ left right

Cover-le : (a b : ℕ) (js : List Job) → Cover a b js → a ≤ b
Cover-le a b [] e = omega arith
Cover-le a b (j ∷ js) g = omega (arith, g.1, Cover-le j.to b js g.2)

pub Cover-some : (a b : ℕ) (js : List Job) → Cover a b js → a < b → 0 < length js
Cover-some a b [] e less = absurd (omega arith)
Cover-some a b (j ∷ js) g less = omega arith

pub Cover-within : (a b : ℕ) (js : List Job) → Cover a b js → LieWithin b js
Cover-within a b [] e = All-nil (λ (job : Job). (job.from < job.to) × (job.to ≤ b))
Cover-within a b (j ∷ js) g =
    let first : j.from ≡ a = g.0 in
    All-cons (λ (job : Job). (job.from < job.to) × (job.to ≤ b)) j js (omega (arith, g.1), Cover-le j.to b js g.2) (Cover-within j.to b js g.2)

pub jobs_few : (h : ℕ) (p : List Bool) (from : ℕ) (es : List Numbered) → length (jobs_below h p from es) ≤ 2 ^ h
jobs_few zero p from [] = omega arith
jobs_few (suc h) p from [] = omega arith
jobs_few zero p from (e ∷ es) = omega arith
jobs_few (suc h) p from (e ∷ es) =
    let all = e ∷ es in
    let n = lefts (length p) all in
    omega (
      arith,
      jobs_few h (child p false) from (side false (length p) all),
      jobs_few h (child p true) (from + n) (side true (length p) all),
      length-append (jobs_below h (child p false) from (side false (length p) all)) (jobs_below h (child p true) (from + n) (side true (length p) all)),
    )

pub jobs_at_most : (h : ℕ) (p : List Bool) (from : ℕ) (es : List Numbered) → h ≤ MAX_DEPTH → length (jobs_below h p from es) ≤ most_numbers
jobs_at_most h p from es le = let most : 2 ^ h ≤ 2 ^ MAX_DEPTH = pow_mono le in omega (arith, jobs_few h p from es)

pub jobs_long : (h : ℕ) (p : List Bool) (from n : ℕ) (es : List Numbered) → length p + h ≡ n → All (λ (j : Job). length j.prefix ≡ n) (jobs_below h p from es)
jobs_long zero p from n [] is = All-nil (λ (j : Job). length j.prefix ≡ n)
jobs_long (suc h) p from n [] is = All-nil (λ (j : Job). length j.prefix ≡ n)
jobs_long zero p from n (e ∷ es) is = All-cons (λ (j : Job). length j.prefix ≡ n) _ [] (omega arith) (All-nil (λ (j : Job). length j.prefix ≡ n))
jobs_long (suc h) p from n (e ∷ es) is = All-append (λ (j : Job). length j.prefix ≡ n) _ _
    (jobs_long h (child p false) from n (side false (length p) (e ∷ es)) (omega (arith, length-child p false)))
    (jobs_long h (child p true) (from + lefts (length p) (e ∷ es)) n (side true (length p) (e ∷ es)) (omega (arith, length-child p true)))

-- q begins with p
abbrev GoesOn : List Bool → List Bool → Type 0
GoesOn p q = (rest : List Bool) × (q ≡ p ++ rest)

goes_on_longer : (p q : List Bool) (b : Bool) → GoesOn (child p b) q → GoesOn p q
goes_on_longer p q b g = (b ∷ g.0, g.1 ∙ append_assoc p (b ∷ []) g.0)

jobs_go_on : (h : ℕ) (p : List Bool) (from : ℕ) (es : List Numbered) → All (λ (j : Job). GoesOn p j.prefix) (jobs_below h p from es)
jobs_go_on zero p from [] = All-nil (λ (j : Job). GoesOn p j.prefix)
jobs_go_on (suc h) p from [] = All-nil (λ (j : Job). GoesOn p j.prefix)
jobs_go_on zero p from (e ∷ es) = All-cons (λ (j : Job). GoesOn p j.prefix) _ [] ([], sym (append-nil p)) (All-nil (λ (j : Job). GoesOn p j.prefix))
jobs_go_on (suc h) p from (e ∷ es) = All-append (λ (j : Job). GoesOn p j.prefix) _ _
    (All-weaker (λ (j : Job). GoesOn (child p false) j.prefix) (λ (j : Job). GoesOn p j.prefix)
    (λ j g. goes_on_longer p j.prefix false g) _ (jobs_go_on h (child p false) from (side false (length p) (e ∷ es))))
    (All-weaker (λ (j : Job). GoesOn (child p true) j.prefix) (λ (j : Job). GoesOn p j.prefix) (λ j g. goes_on_longer p j.prefix true g)
    _ (jobs_go_on h (child p true) (from + lefts (length p) (e ∷ es)) (side true (length p) (e ∷ es))))

left_of : (p q r : List Bool) → GoesOn (child p false) q → GoesOn (child p true) r → IsLeftOf q r
left_of p q r g h = record { common = p; after_left = g.0; after_right = h.0; left = g.1; right = h.1 }

-- the jobs on the left, then those on the right
rising_append : (p : List Bool) (js ks : List Job) → All (λ (j : Job). GoesOn (child p false) j.prefix) js
    → All (λ (j : Job). GoesOn (child p true) j.prefix) ks → AreJobsRising js → AreJobsRising ks → AreJobsRising (js ++ ks)
rising_append p [] ks on_left on_right r s = s
rising_append p (j ∷ js) ks on_left on_right r s = (
  All-append (λ (k : Job). IsLeftOf j.prefix k.prefix) js ks r.0
      (All-weaker (λ (k : Job). GoesOn (child p true) k.prefix) (λ (k : Job). IsLeftOf j.prefix k.prefix) (λ k g. left_of p j.prefix k.prefix (on_left 0 j (omega arith)) g) ks on_right),
  rising_append p js ks (λ i d less. on_left (suc i) d (omega arith)) on_right r.1 s,
)

pub jobs_rise : (h : ℕ) (p : List Bool) (from : ℕ) (es : List Numbered) → AreJobsRising (jobs_below h p from es)
jobs_rise zero p from [] = tt
jobs_rise (suc h) p from [] = tt
jobs_rise zero p from (e ∷ es) = (λ i d less. absurd (omega arith), tt)
jobs_rise (suc h) p from (e ∷ es) = rising_append p _ _
    (jobs_go_on h (child p false) from (side false (length p) (e ∷ es))) (jobs_go_on h (child p true) (from + lefts (length p) (e ∷ es)) (side true (length p) (e ∷ es)))
    (jobs_rise h (child p false) from (side false (length p) (e ∷ es))) (jobs_rise h (child p true) (from + lefts (length p) (e ∷ es)) (side true (length p) (e ∷ es)))

-- the entries are consecutive ones of all entries, beginning at this place
pub record IsAt (all : List Numbered) (from : ℕ) (es : List Numbered) : Type 0 where
  pub before : List Numbered
  pub after : List Numbered
  pub whole : all ≡ before ++ (es ++ after)
  pub place : length before ≡ from

pub at_start : (all : List Numbered) → IsAt all 0 all
at_start all = record { before = []; after = []; whole = sym (append-nil all); place = refl }

pub at_left : (all : List Numbered) (from level : ℕ) (es : List Numbered) → IsAt all from es → IsAt all from (side false level es)
at_left all from level es h = record {
  before = h.before;
  after = side true level es ++ h.after;
  whole = h.whole ∙ ap (λ x. h.before ++ (x ++ h.after)) (sym (sides_whole level es)) ∙ ap (λ x. h.before ++ x) (append_assoc (side false level es) (side true level es) h.after);
  place = h.place;
}

pub at_right : (all : List Numbered) (from level : ℕ) (es : List Numbered) → IsAt all from es → IsAt all (from + lefts level es) (side true level es)
at_right all from level es h = record {
  before = h.before ++ side false level es;
  after = h.after;
  whole = h.whole ∙ ap (λ x. h.before ++ (x ++ h.after)) (sym (sides_whole level es)) ∙ ap (λ x. h.before ++ x) (append_assoc (side false level es) (side true level es) h.after)
      ∙ sym (append_assoc h.before (side false level es) (side true level es ++ h.after));
  place = (let f = h.place in omega (arith, length-append h.before (side false level es), length-left level es));
}

-- the range of such entries contains exactly them
pub in_range-at : (p : List Bool) (from : ℕ) (all es : List Numbered) → IsAt all from es → in_range (job_of p from (from + length es)) all ≡ es
in_range-at p from all es h =
    let long : (from + length es) - from ≡ length es = omega arith in
    ap (λ n. take n (drop from all)) long
    ∙ ap (λ x. take (length es) (drop from x)) h.whole
    ∙ ap (λ n. take (length es) (drop n (h.before ++ (es ++ h.after)))) (sym h.place)
    ∙ ap (take (length es)) (drop-append_seam h.before (es ++ h.after))
    ∙ take-append_seam es h.after

pub jobs_theirs : (h : ℕ) (p : List Bool) (from : ℕ) (es all : List Numbered) → length p + h ≤ 256
    → IsAt all from es → es ≡ under p all → AreInOrder (length p) es → TakeTheirs all (jobs_below h p from es)
jobs_theirs zero p from [] all short at is ordered = All-nil (λ (j : Job). in_range j all ≡ under j.prefix all)
jobs_theirs (suc h) p from [] all short at is ordered = All-nil (λ (j : Job). in_range j all ≡ under j.prefix all)
jobs_theirs zero p from (e ∷ es) all short at is ordered =
    All-cons (λ (j : Job). in_range j all ≡ under j.prefix all) (job_of p from (from + length (e ∷ es))) []
    (in_range-at p from all (e ∷ es) at ∙ is) (All-nil (λ (j : Job). in_range j all ≡ under j.prefix all))
jobs_theirs (suc h) p from (e ∷ es) all short at is ordered =
    let less : length p < 256 = omega arith in
    All-append (λ (j : Job). in_range j all ≡ under j.prefix all) _ _
    (jobs_theirs h (child p false) from (side false (length p) (e ∷ es)) all (omega (arith, length-child p false))
    (at_left all from (length p) (e ∷ es) at) (side_under false p (e ∷ es) all less ordered is) (side_in_order false p (e ∷ es) less ordered))
    (jobs_theirs h (child p true) (from + lefts (length p) (e ∷ es)) (side true (length p) (e ∷ es)) all (omega (arith, length-child p true))
    (at_right all from (length p) (e ∷ es) at) (side_under true p (e ∷ es) all less ordered is) (side_in_order true p (e ∷ es) less ordered))

-- the jobs of the left side, then those of the right side
pub jobs_of_sides : (depth : ℕ) (p : List Bool) (from : ℕ) (es : List Numbered) → length p < depth → 0 < length es
    → jobs_below (depth - length p) p from es
    ≡ jobs_below (depth - length (child p false)) (child p false) from (side false (length p) es) ++ jobs_below
    (depth - length (child p true)) (child p true) (from + lefts (length p) es) (side true (length p) es)
jobs_of_sides depth p from [] less some = absurd (omega arith)
jobs_of_sides depth p from (e ∷ es) less some =
    let left : depth - length (child p false) ≡ depth - suc (length p) = ap (λ k. depth - k) (length-child p false) in
    let right : depth - length (child p true) ≡ depth - suc (length p) = ap (λ k. depth - k) (length-child p true) in
    let here : depth - length p ≡ suc (depth - suc (length p)) = omega arith in
    ap (λ h. jobs_below h p from (e ∷ es)) here
    ∙ ap (λ h. jobs_below h (child p false) from (side false (length p) (e ∷ es)) ++ jobs_below (depth - suc (length p))
    (child p true) (from + lefts (length p) (e ∷ es)) (side true (length p) (e ∷ es))) (sym left)
    ∙ ap (λ h. jobs_below (depth - length (child p false)) (child p false) from (side false (length p) (e ∷ es))
    ++ jobs_below h (child p true) (from + lefts (length p) (e ∷ es)) (side true (length p) (e ∷ es))) (sym right)

-- all jobs cover all entries
pub jobs_cover_all : (depth : ℕ) (es : List Numbered) → Cover 0 (length es) (jobs_below depth [] 0 es)
jobs_cover_all depth es = let whole : 0 + length es ≡ length es = omega arith in subst (λ n. Cover 0 n (jobs_below depth [] 0 es)) whole (jobs_cover depth [] 0 es)

-- the jobs of both sides are added
pub split_both : (depth level from next : ℕ) (p q r : List Bool) (es ls rs : List Numbered) (js after_left after_right : List Job) → level ≡ length p → length p < depth → 0 < length es
    → q ≡ child p false → r ≡ child p true → ls ≡ side false level es → rs ≡ side true level es → next ≡ from + lefts level es
    → after_left ≡ js ++ jobs_below (depth - length q) q from ls → after_right ≡ after_left ++ jobs_below (depth - length r) r next rs
    → after_right ≡ js ++ jobs_below (depth - length p) p from es
split_both depth level from next p q r es ls rs js after_left after_right level-is less some q-is r-is ls-is rs-is next-is left right =
    let ls' : ls ≡ side false (length p) es = ls-is ∙ ap (λ k. side false k es) level-is in
    let rs' : rs ≡ side true (length p) es = rs-is ∙ ap (λ k. side true k es) level-is in
    let next' : next ≡ from + lefts (length p) es = next-is ∙ ap (λ k. from + lefts k es) level-is in
    let on_left : jobs_below (depth - length q) q from ls ≡ jobs_below (depth - length (child p false)) (child p false) from (side false (length p) es) =
    ap (λ z. jobs_below (depth - length z) z from ls) q-is ∙ ap (jobs_below (depth - length (child p false)) (child p false) from) ls' in
    let on_right : jobs_below (depth - length r) r next rs ≡ jobs_below (depth - length (child p true)) (child p true) (from + lefts (length p) es) (side true (length p) es) =
    ap (λ z. jobs_below (depth - length z) z next rs) r-is ∙ ap (λ n. jobs_below (depth - length (child p true)) (child p true) n rs)
    next' ∙ ap (jobs_below (depth - length (child p true)) (child p true) (from + lefts (length p) es)) rs' in
    right ∙ ap (λ x. x ++ jobs_below (depth - length r) r next rs) left
    ∙ append_assoc js (jobs_below (depth - length q) q from ls) (jobs_below (depth - length r) r next rs)
    ∙ ap (λ x. js ++ (x ++ jobs_below (depth - length r) r next rs)) on_left
    ∙ ap (λ x. js ++ (jobs_below (depth - length (child p false)) (child p false) from (side false (length p) es) ++ x)) on_right
    ∙ ap (λ x. js ++ x) (sym (jobs_of_sides depth p from es less some))

-- the jobs, beginning at the root
pub from_root : (depth : ℕ) (p : List Bool) (es : List Numbered) (none js : List Job) → p ≡ [] → none ≡ [] → js ≡ none ++ jobs_below (depth - length p) p 0 es → js ≡ jobs_below depth [] 0 es
from_root depth p es none js p-is none-is is = is ∙ ap (λ x. x ++ jobs_below (depth - length p) p 0 es) none-is ∙ ap (λ z. jobs_below (depth - length z) z 0 es) p-is
    ∙ (let whole : depth - 0 ≡ depth = omega arith in ap (λ h. jobs_below h [] 0 es) whole)
