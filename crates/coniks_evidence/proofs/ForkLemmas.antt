-- Two chains of stored epochs, walked from their ends.
use Rattle.std.proofs.Common.{◌≡◌, ◌≢◌, ℕ, zero, suc, ◌+◌, ◌-◌, ◌<◌, ◌≤◌, List, [], ◌∷◌, length, Some, refl, sym, ap, ◌∙◌, ◌⊎◌, arith, drop, get_or, ⊎_elim, length-drop, drop-cons}
use Rattle.std.specs.List.{slice_get}
use Rattle.std.proofs.lemmas.Option.{get_or_from_slice_get, slice_get-get_or, slice_get_within, same_Some}
use Rattle.std.proofs.lemmas.Bool.{cases_lt}
use Rattle.coniks_chain.specs.declared.entry.Entry.{Entry}
use Rattle.coniks_chain.specs.Entries.{link_preimage}
use Rattle.coniks_chain.specs.Fork.{Stand, IsFork, HasNoFork, left_used_up, right_used_up, links_differ}
use Rattle.coniks_client.specs.StoredEntry.{entries_in, entry_in}
use Rattle.coniks_client.specs.declared.stored.StoredEntry.{StoredEntry}
use Rattle.coniks_client.proofs.Lemmas.{entry_at}
use Rattle.coniks_evidence.specs.Forks.{ForksAt}
use Rattle.coniks_evidence.specs.declared.forks.Places.{Places}

-- the last k entries of both are equal
abbrev pub AreAlike : List StoredEntry → List StoredEntry → ℕ → Type 0
AreAlike a b k = drop (length a - k) (entries_in a) ≡ drop (length b - k) (entries_in b)

-- the entries from a place on are the one there and those after it
drop_at : (es : List Entry) (k : ℕ) (e : Entry) → slice_get es k ≡ Some e → drop k es ≡ e ∷ drop (suc k) es
drop_at es k e there = drop-cons es k e (slice_get_within es k e there) ∙ ap (λ x. x ∷ drop (suc k) es) (get_or_from_slice_get es k e e there)

module _ (a b : List StoredEntry) (k i j : ℕ) (mine other : StoredEntry) (far_a : i + k + 1 ≡ length a) (far_b : j + k + 1 ≡ length b)
    (at_a : slice_get a i ≡ Some mine) (at_b : slice_get b j ≡ Some other) (alike : AreAlike a b k) where
  -- where the walk is
  pub standing : Stand (entries_in a) (entries_in b) i j (entry_in mine) (entry_in other)
  standing =
      let past_a : suc i ≡ length a - k = omega arith in
      let past_b : suc j ≡ length b - k = omega arith in
      record {
        left = entry_at a i mine at_a;
        right = entry_at b j other at_b;
        rest = ap (λ n. drop n (entries_in a)) past_a ∙ alike ∙ ap (λ n. drop n (entries_in b)) (sym past_b);
      }

  -- one entry more is equal
  pub alike-more : entry_in mine ≡ entry_in other → AreAlike a b (k + 1)
  alike-more same =
      let here_a : length a - (k + 1) ≡ i = omega arith in
      let here_b : length b - (k + 1) ≡ j = omega arith in
      ap (λ n. drop n (entries_in a)) here_a ∙ drop_at (entries_in a) i (entry_in mine) standing.left
      ∙ ap (λ e. e ∷ drop (suc i) (entries_in a)) same ∙ ap (λ es. entry_in other ∷ es) standing.rest
      ∙ sym (drop_at (entries_in b) j (entry_in other) standing.right) ∙ ap (λ n. drop n (entries_in b)) (sym here_b)

-- at the end of the walk a list is used up
pub used_up : (hash : List ℕ → List ℕ) (a b : List StoredEntry) (k : ℕ) → (length a ≤ k) ⊎ (length b ≤ k) → AreAlike a b k → HasNoFork hash (entries_in a) (entries_in b)
used_up hash a b k done alike = ⊎_elim
    (λ all. let none : length a - k ≡ 0 = omega arith in left_used_up (length b - k) (ap (λ n. drop n (entries_in a)) (sym none) ∙ alike))
    (λ all. let none : length b - k ≡ 0 = omega arith in right_used_up (length a - k) (alike ∙ ap (λ n. drop n (entries_in b)) none))
    done

-- an entry of a rest
later : (es : List Entry) (n i : ℕ) → slice_get (drop n es) i ≡ slice_get es (n + i)
later es zero i = let at : i ≡ zero + i = omega arith in ap (slice_get es) at
later [] (suc n) i = refl
later (e ∷ es) (suc n) i = let at : suc (n + i) ≡ suc n + i = omega arith in later es n i ∙ ap (slice_get (e ∷ es)) at

-- two entries that have the same after them are as far from the ends
as_far : (xs ys : List Entry) (i j : ℕ) (e f : Entry) → Stand xs ys i j e f → length xs + j ≡ length ys + i
as_far xs ys i j e f stand =
    let left = slice_get_within xs i e stand.left in
    let right = slice_get_within ys j f stand.right in
    omega (arith, length-drop (suc i) xs, length-drop (suc j) ys, ap length stand.rest)

-- what is after two such entries is the same
same_after : (xs ys : List Entry) (i j k l : ℕ) (e f d g : Entry) → Stand xs ys i j e f → Stand xs ys k l d g → i < k → d ≡ g
same_after xs ys i j k l e f d g near far less =
    let at_x : suc i + (k - suc i) ≡ k = omega arith in
    let at_y : suc j + (k - suc i) ≡ l = omega (arith, as_far xs ys i j e f near, as_far xs ys k l d g far) in
    same_Some d g (sym far.left ∙ ap (slice_get xs) (sym at_x) ∙ sym (later xs (suc i) (k - suc i)) ∙ ap (λ es. slice_get es (k - suc i)) near.rest
    ∙ later ys (suc j) (k - suc i) ∙ ap (slice_get ys) at_y ∙ far.right)

-- lists that fork at one place have no other place, at which the walk stops
no_other_place : (hash : List ℕ → List ℕ) (xs ys : List Entry) (e f : Entry) (k l : ℕ) (d g : Entry) → IsFork hash xs ys e f → Stand xs ys k l d g → hash (link_preimage d) ≡ hash (link_preimage g)
no_other_place hash xs ys e f k l d g fork stand = ⊎_elim
    (λ less. ap (λ x. hash (link_preimage x)) (same_after xs ys fork.i fork.j k l e f d g fork.stand stand less))
    (λ le. ⊎_elim
    (λ more. absurd (fork.differ (same_after xs ys k l fork.i fork.j d g e f stand fork.stand more)))
    (λ ge.
    let at_x : k ≡ fork.i = omega arith in
    let at_y : l ≡ fork.j = omega (arith, as_far xs ys fork.i fork.j e f fork.stand, as_far xs ys k l d g stand) in
    let left : d ≡ e = same_Some d e (sym stand.left ∙ ap (slice_get xs) at_x ∙ fork.stand.left) in
    let right : g ≡ f = same_Some g f (sym stand.right ∙ ap (slice_get ys) at_y ∙ fork.stand.right) in
    ap (λ x. hash (link_preimage x)) left ∙ fork.linked ∙ ap (λ x. hash (link_preimage x)) (sym right))
    (cases_lt k fork.i))
    (cases_lt fork.i k)

-- where lists fork the walk doesn't stop
pub no_stop : (hash : List ℕ → List ℕ) (xs ys : List Entry) (e f : Entry) → IsFork hash xs ys e f → HasNoFork hash xs ys → ⊥
no_stop hash xs ys e f fork (left_used_up n is) =
    let left = slice_get_within xs fork.i e fork.stand.left in
    let all : length xs ≡ length ys - n = ap length is ∙ length-drop n ys in
    let at : n + fork.i ≡ fork.j = omega (arith, as_far xs ys fork.i fork.j e f fork.stand) in
    fork.differ (same_Some e f (sym fork.stand.left ∙ ap (λ es. slice_get es fork.i) is ∙ later ys n fork.i ∙ ap (slice_get ys) at ∙ fork.stand.right))
no_stop hash xs ys e f fork (right_used_up n is) =
    let right = slice_get_within ys fork.j f fork.stand.right in
    let all : length ys ≡ length xs - n = ap length (sym is) ∙ length-drop n xs in
    let at : fork.i ≡ n + fork.j = omega (arith, as_far xs ys fork.i fork.j e f fork.stand) in
    fork.differ (same_Some e f (sym fork.stand.left ∙ ap (slice_get xs) at ∙ sym (later xs n fork.j) ∙ ap (λ es. slice_get es fork.j) is ∙ fork.stand.right))
no_stop hash xs ys e f fork (links_differ k l d g stand differ) = differ (no_other_place hash xs ys e f k l d g fork stand)

-- the walk at the k-th entries from the ends
module _ (hash : List ℕ → List ℕ) (a b : List StoredEntry) (k i j : ℕ) (d : StoredEntry) (is_i : i ≡ length a - 1 - k) (is_j : j ≡ length b - 1 - k)
    (in_a : k < length a) (in_b : k < length b) (alike : AreAlike a b k) where
  at_first : slice_get a i ≡ Some (get_or a i d)
  at_first = slice_get-get_or a i d (omega arith)

  at_second : slice_get b j ≡ Some (get_or b j d)
  at_second = slice_get-get_or b j d (omega arith)

  here : Stand (entries_in a) (entries_in b) i j (entry_in (get_or a i d)) (entry_in (get_or b j d))
  here = standing a b k i j (get_or a i d) (get_or b j d) (omega arith) (omega arith) at_first at_second alike

  -- it goes on over equal entries
  pub goes_on : entry_in (get_or a i d) ≡ entry_in (get_or b j d) → AreAlike a b (k + 1)
  goes_on same = alike-more a b k i j (get_or a i d) (get_or b j d) (omega arith) (omega arith) at_first at_second alike same

  -- it stops at different links
  pub stops_here : hash (link_preimage (entry_in (get_or a i d))) ≢ hash (link_preimage (entry_in (get_or b j d))) → HasNoFork hash (entries_in a) (entries_in b)
  stops_here differ = links_differ i j (entry_in (get_or a i d)) (entry_in (get_or b j d)) here differ

  -- it finds a fork
  pub forks_here : (entry_in (get_or a i d) ≢ entry_in (get_or b j d))
      × (hash (link_preimage (entry_in (get_or a i d))) ≡ hash (link_preimage (entry_in (get_or b j d))))
      → (places : Places) → places.first ≡ i → places.second ≡ j → ForksAt hash a b places
  forks_here found places is_first is_second = record {
    mine = get_or a i d;
    other = get_or b j d;
    left = ap (slice_get a) is_first ∙ at_first;
    right = ap (slice_get b) is_second ∙ at_second;
    fork = record { i = i; j = j; stand = here; differ = found.0; linked = found.1 };
  }
