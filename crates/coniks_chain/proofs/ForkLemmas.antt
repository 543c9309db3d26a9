-- Two lists of entries, walked from their ends.
use Rattle.std.proofs.Common.{◌≡◌, ◌≢◌, ℕ, zero, suc, ◌+◌, ◌-◌, ◌<◌, ◌≤◌, List, [], ◌∷◌, length, Bool, Option, Some, None, refl, sym, ap, subst, ◌∙◌, ◌⊎◌, arith, get_or, drop, ⊎_elim, length-drop}
use Rattle.std.specs.List.{slice_get}
use Rattle.std.specs.Option.{option_map}
use Rattle.std.proofs.lemmas.Option.{slice_get_within, slice_get-get_or, same_Some}
use Rattle.std.proofs.lemmas.Bool.{cases_lt}
use Rattle.std.proofs.Math.Seq.{drop-cons}
use Rattle.coniks_chain.specs.declared.entry.Body.{Body}
use Rattle.coniks_chain.specs.declared.entry.Entry.{Entry}
use Rattle.coniks_chain.specs.declared.auditor.AuditorState.{AuditorState}
use Rattle.coniks_chain.specs.declared.auditor.AuditFault.TheVariants.{FirstEpoch, NotLater, PreviousEpoch, PreviousLink}
use Rattle.coniks_chain.specs.Entries.{body_bytes, link_preimage, IsEntry}
use Rattle.coniks_chain.specs.Chain.{Follows, auditor_after, before_at, GoodChain}
use Rattle.coniks_chain.specs.Fork.{EndsWith, Stand, IsFork, HasNoFork, left_used_up, right_used_up, links_differ}
use Rattle.coniks_proof.specs.Collisions.{IsCollision}
use Rattle.coniks_chain.proofs.BodyLemmas.{parted, same_body}
use Rattle.coniks_chain.proofs.ChainLemmas.{row}

-- the first element of a rest
pub first_of_drop : (es : List Entry) (n : ℕ) → slice_get (drop n es) 0 ≡ slice_get es n
first_of_drop es zero = refl
first_of_drop [] (suc n) = refl
first_of_drop (e ∷ es) (suc n) = first_of_drop es n

module _ (xs ys : List Entry) (k : ℕ) (d : Entry) (in_a : k < length xs) (in_b : k < length ys) (alike : drop (length xs - k) xs ≡ drop (length ys - k) ys) where
  -- where the walk stands
  pub standing : Stand xs ys (length xs - 1 - k) (length ys - 1 - k) (get_or xs (length xs - 1 - k) d) (get_or ys (length ys - 1 - k) d)
  standing =
      let a : suc (length xs - 1 - k) ≡ length xs - k = omega arith in
      let b : suc (length ys - 1 - k) ≡ length ys - k = omega arith in
      record {
        left = slice_get-get_or xs (length xs - 1 - k) d (omega arith);
        right = slice_get-get_or ys (length ys - 1 - k) d (omega arith);
        rest = ap (λ n. drop n xs) a ∙ alike ∙ ap (λ n. drop n ys) (sym b);
      }

  -- one entry more is the same
  pub alike-more : get_or xs (length xs - 1 - k) d ≡ get_or ys (length ys - 1 - k) d → drop (length xs - (k + 1)) xs ≡ drop (length ys - (k + 1)) ys
  alike-more same =
      let a : length xs - (k + 1) ≡ length xs - 1 - k = omega arith in
      let b : length ys - (k + 1) ≡ length ys - 1 - k = omega arith in
      ap (λ n. drop n xs) a ∙ drop-cons xs (length xs - 1 - k) d (omega arith) ∙ ap (λ e. e ∷ drop (suc (length xs - 1 - k)) xs) same
      ∙ ap (λ es. get_or ys (length ys - 1 - k) d ∷ es) standing.rest ∙ sym (drop-cons ys (length ys - 1 - k) d (omega arith)) ∙ ap (λ n. drop n ys) (sym b)

  -- the walk stops at different links
  pub stops_here : (hash : List ℕ → List ℕ) → hash (link_preimage (get_or xs (length xs - 1 - k) d)) ≢ hash (link_preimage (get_or ys (length ys - 1 - k) d)) → HasNoFork hash xs ys
  stops_here hash differ = links_differ (length xs - 1 - k) (length ys - 1 - k) (get_or xs (length xs - 1 - k) d) (get_or ys (length ys - 1 - k) d) standing differ

  -- the walk finds a fork
  pub forks_here : (hash : List ℕ → List ℕ) → (get_or xs (length xs - 1 - k) d ≢ get_or ys (length ys - 1 - k) d)
      × (hash (link_preimage (get_or xs (length xs - 1 - k) d)) ≡ hash (link_preimage (get_or ys (length ys - 1 - k) d)))
      → IsFork hash xs ys (get_or xs (length xs - 1 - k) d) (get_or ys (length ys - 1 - k) d)
  forks_here hash found = record { i = length xs - 1 - k; j = length ys - 1 - k; stand = standing; differ = found.0; linked = found.1 }

-- at the end of the walk a list is used up
pub used_up : (hash : List ℕ → List ℕ) (xs ys : List Entry) (k : ℕ) → (length xs ≤ k) ⊎ (length ys ≤ k) → drop (length xs - k) xs ≡ drop (length ys - k) ys → HasNoFork hash xs ys
used_up hash xs ys k done alike = ⊎_elim
    (λ a. let all : length xs - k ≡ 0 = omega arith in left_used_up (length ys - k) (ap (λ n. drop n xs) (sym all) ∙ alike))
    (λ b. let all : length ys - k ≡ 0 = omega arith in right_used_up (length xs - k) (alike ∙ ap (λ n. drop n ys) all))
    done

-- an entry that follows has an epoch of at least 1
pub positive : (verdict : List ℕ → List ℕ → Bool) (before : Option AuditorState) (entry : Entry) → Follows verdict before entry → 0 < entry.body.t
positive verdict None entry follows = row verdict None entry follows FirstEpoch
positive verdict (Some before) entry follows = let later : before.t < entry.body.t = row verdict (Some before) entry follows NotLater in omega arith

-- an entry can't be the first of a chain and stand later in one
not_again : (hash : List ℕ → List ℕ) (verdict : List ℕ → List ℕ → Bool) (xs ys : List Entry) (n : ℕ) (e : Entry)
    → GoodChain hash verdict xs → GoodChain hash verdict ys → slice_get xs 0 ≡ Some e → slice_get ys (suc n) ≡ Some e → ⊥
not_again hash verdict xs ys n e good_x good_y first later =
    let start : e.body.t_prev ≡ 0 = row verdict None e (good_x 0 e first) PreviousEpoch in
    let within = slice_get_within ys (suc n) e later in
    let short : n < length ys = omega arith in
    let d = get_or ys n e in
    let at : slice_get ys n ≡ Some d = slice_get-get_or ys n e short in
    let some : 0 < d.body.t = positive verdict (before_at hash None ys n) d (good_y n d at) in
    let before : before_at hash None ys (suc n) ≡ Some (auditor_after hash d) = ap (option_map (auditor_after hash)) at in
    let names : e.body.t_prev ≡ d.body.t = row verdict (Some (auditor_after hash d)) e (subst (λ b. Follows verdict b e) before (good_y (suc n) e later)) PreviousEpoch in
    omega arith

-- a good chain that is the end of another is that chain
end_is_all : (hash : List ℕ → List ℕ) (verdict : List ℕ → List ℕ → Bool) (xs ys : List Entry) (n : ℕ) → GoodChain hash verdict xs → GoodChain hash verdict ys → 0 < length xs → xs ≡ drop n ys → xs ≡ ys
end_is_all hash verdict xs ys zero good_x good_y some is = is
end_is_all hash verdict [] ys (suc n) good_x good_y some is = absurd (omega arith)
end_is_all hash verdict (e ∷ es) ys (suc n) good_x good_y some is =
    let later : slice_get ys (suc n) ≡ Some e = sym (first_of_drop ys (suc n)) ∙ ap (λ l. slice_get l 0) (sym is) in
    absurd (not_again hash verdict (e ∷ es) ys n e good_x good_y refl later)

-- the entry after names the link
named : (hash : List ℕ → List ℕ) (verdict : List ℕ → List ℕ → Bool) (xs : List Entry) (i : ℕ) (e s : Entry)
    → GoodChain hash verdict xs → slice_get xs i ≡ Some e → slice_get xs (suc i) ≡ Some s → s.body.previous.0 ≡ hash (link_preimage e)
named hash verdict xs i e s good at next =
    let before : before_at hash None xs (suc i) ≡ Some (auditor_after hash e) = ap (option_map (auditor_after hash)) at in
    row verdict (Some (auditor_after hash e)) s (subst (λ b. Follows verdict b s) before (good (suc i) s next)) PreviousLink

-- where nothing stands after, it is the last
last_is : (hash : List ℕ → List ℕ) (xs : List Entry) (i : ℕ) (e : Entry) (link : List ℕ) → EndsWith hash xs link → slice_get xs i ≡ Some e → slice_get xs (suc i) ≡ None → hash (link_preimage e) ≡ link
last_is hash xs i e link end at none =
    let within = slice_get_within xs i e at in
    let past : length xs ≤ suc i = ⊎_elim (λ (more : suc i < length xs). let some = slice_get-get_or xs (suc i) e more in absurd (cc)) (λ le. le) (cases_lt (suc i) (length xs)) in
    let place : length xs - 1 ≡ i = omega arith in
    let same : end.last ≡ e = same_Some end.last e (sym end.there ∙ ap (slice_get xs) place ∙ at) in
    ap (λ x. hash (link_preimage x)) (sym same) ∙ end.linked

-- under the same rest, or under one last link, two entries have one link
one_link : (hash : List ℕ → List ℕ) (verdict : List ℕ → List ℕ → Bool) (xs ys : List Entry) (i j : ℕ) (e f : Entry) (link : List ℕ) (after : Option Entry)
    → GoodChain hash verdict xs → GoodChain hash verdict ys
    → EndsWith hash xs link → EndsWith hash ys link → slice_get xs i ≡ Some e → slice_get ys j ≡ Some f
    → slice_get xs (suc i) ≡ after → slice_get ys (suc j) ≡ after → hash (link_preimage e) ≡ hash (link_preimage f)
one_link hash verdict xs ys i j e f link None good_x good_y end_x end_y at_x at_y next_x next_y = last_is hash xs i e link end_x at_x next_x ∙ sym (last_is hash ys j f link end_y at_y next_y)
one_link hash verdict xs ys i j e f link (Some s) good_x good_y end_x end_y at_x at_y next_x next_y =
    sym (named hash verdict xs i e s good_x at_x next_x) ∙ named hash verdict ys j f s good_y at_y next_y

some_entry : (hash : List ℕ → List ℕ) (xs : List Entry) (link : List ℕ) → EndsWith hash xs link → 0 < length xs
some_entry hash xs link end = let within = slice_get_within xs (length xs - 1) end.last end.there in omega arith

-- two good chains with one last link at which the walk stops are the same
pub good_same : (hash : List ℕ → List ℕ) (verdict : List ℕ → List ℕ → Bool) (xs ys : List Entry) (link : List ℕ)
    → GoodChain hash verdict xs → GoodChain hash verdict ys → EndsWith hash xs link → EndsWith hash ys link → HasNoFork hash xs ys → xs ≡ ys
good_same hash verdict xs ys link good_x good_y end_x end_y (left_used_up n is) = end_is_all hash verdict xs ys n good_x good_y (some_entry hash xs link end_x) is
good_same hash verdict xs ys link good_x good_y end_x end_y (right_used_up n is) = sym (end_is_all hash verdict ys xs n good_y good_x (some_entry hash ys link end_y) (sym is))
good_same hash verdict xs ys link good_x good_y end_x end_y (links_differ i j e f stand differ) =
    absurd (differ (one_link hash verdict xs ys i j e f link (slice_get ys (suc j)) good_x good_y end_x end_y stand.left stand.right
    (sym (first_of_drop xs (suc i)) ∙ ap (λ l. slice_get l 0) stand.rest ∙ first_of_drop ys (suc j)) refl))

-- the same list doesn't fork
pub no_fork : (hash : List ℕ → List ℕ) (xs ys : List Entry) (e f : Entry) → IsFork hash xs ys e f → xs ≡ ys → ⊥
no_fork hash xs ys e f fork same =
    let left = slice_get_within xs fork.i e fork.stand.left in
    let right = slice_get_within ys fork.j f fork.stand.right in
    let rest = ap length fork.stand.rest in
    let place : fork.i ≡ fork.j = omega (arith, length-drop (suc fork.i) xs, length-drop (suc fork.j) ys, ap length same) in
    fork.differ (same_Some e f (sym fork.stand.left ∙ ap (λ l. slice_get l fork.i) same ∙ ap (slice_get ys) place ∙ fork.stand.right))

-- an entry of a rest
later : (es : List Entry) (n i : ℕ) → slice_get (drop n es) i ≡ slice_get es (n + i)
later es zero i = let at : i ≡ zero + i = omega arith in ap (slice_get es) at
later [] (suc n) i = refl
later (e ∷ es) (suc n) i = let at : suc (n + i) ≡ suc n + i = omega arith in later es n i ∙ ap (slice_get (e ∷ es)) at

-- two entries that have the same after them are as far from the ends
as_far : (xs ys : List Entry) (i j : ℕ) (e f : Entry) → Stand xs ys i j e f → length xs + j ≡ length ys + i
as_far xs ys i j e f stand =
    let left = slice_get_within xs i e stand.left in
    let right = slice_get_within ys j f stand.right in
    omega (arith, length-drop (suc i) xs, length-drop (suc j) ys, ap length stand.rest)

-- what stands after two such entries is the same
same_after : (xs ys : List Entry) (i j k l : ℕ) (e f d g : Entry) → Stand xs ys i j e f → Stand xs ys k l d g → i < k → d ≡ g
same_after xs ys i j k l e f d g near far less =
    let at_x : suc i + (k - suc i) ≡ k = omega arith in
    let at_y : suc j + (k - suc i) ≡ l = omega (arith, as_far xs ys i j e f near, as_far xs ys k l d g far) in
    same_Some d g (sym far.left ∙ ap (slice_get xs) (sym at_x) ∙ sym (later xs (suc i) (k - suc i)) ∙ ap (λ es. slice_get es (k - suc i)) near.rest
    ∙ later ys (suc j) (k - suc i) ∙ ap (slice_get ys) at_y ∙ far.right)

-- lists that fork at one place have no other place, at which the walk stops
no_other_place : (hash : List ℕ → List ℕ) (xs ys : List Entry) (e f : Entry) (k l : ℕ) (d g : Entry) → IsFork hash xs ys e f → Stand xs ys k l d g → hash (link_preimage d) ≡ hash (link_preimage g)
no_other_place hash xs ys e f k l d g fork stand = ⊎_elim
    (λ less. ap (λ x. hash (link_preimage x)) (same_after xs ys fork.i fork.j k l e f d g fork.stand stand less))
    (λ le. ⊎_elim
    (λ more. absurd (fork.differ (same_after xs ys k l fork.i fork.j d g e f stand fork.stand more)))
    (λ ge.
    let at_x : k ≡ fork.i = omega arith in
    let at_y : l ≡ fork.j = omega (arith, as_far xs ys fork.i fork.j e f fork.stand, as_far xs ys k l d g stand) in
    let left : d ≡ e = same_Some d e (sym stand.left ∙ ap (slice_get xs) at_x ∙ fork.stand.left) in
    let right : g ≡ f = same_Some g f (sym stand.right ∙ ap (slice_get ys) at_y ∙ fork.stand.right) in
    ap (λ x. hash (link_preimage x)) left ∙ fork.linked ∙ ap (λ x. hash (link_preimage x)) (sym right))
    (cases_lt k fork.i))
    (cases_lt fork.i k)

-- where lists fork the walk doesn't stop
pub no_stop : (hash : List ℕ → List ℕ) (xs ys : List Entry) (e f : Entry) → IsFork hash xs ys e f → HasNoFork hash xs ys → ⊥
no_stop hash xs ys e f fork (left_used_up n is) =
    let left = slice_get_within xs fork.i e fork.stand.left in
    let all : length xs ≡ length ys - n = ap length is ∙ length-drop n ys in
    let at : n + fork.i ≡ fork.j = omega (arith, as_far xs ys fork.i fork.j e f fork.stand) in
    fork.differ (same_Some e f (sym fork.stand.left ∙ ap (λ es. slice_get es fork.i) is ∙ later ys n fork.i ∙ ap (slice_get ys) at ∙ fork.stand.right))
no_stop hash xs ys e f fork (right_used_up n is) =
    let right = slice_get_within ys fork.j f fork.stand.right in
    let all : length ys ≡ length xs - n = ap length (sym is) ∙ length-drop n xs in
    let at : fork.i ≡ n + fork.j = omega (arith, as_far xs ys fork.i fork.j e f fork.stand) in
    fork.differ (same_Some e f (sym fork.stand.left ∙ ap (slice_get xs) at ∙ sym (later xs n fork.j) ∙ ap (λ es. slice_get es fork.j) is ∙ fork.stand.right))
no_stop hash xs ys e f fork (links_differ k l d g stand differ) = differ (no_other_place hash xs ys e f k l d g fork stand)

pub signed_same : (a b : Body) (s t : List ℕ) → a ≡ b → s ≡ t → ◌≡◌ {A = Entry} (record { body = a; signature = record { 0 = s } }) (record { body = b; signature = record { 0 = t } })
signed_same a b s t eb es = cc

-- an entry is known by the bytes that are hashed to its link
pub same_entry : (e f : Entry) → IsEntry e → IsEntry f → link_preimage e ≡ link_preimage f → e ≡ f
same_entry e f is_e is_f same =
    let parts = parted (0x53 ∷ body_bytes e.body) (0x53 ∷ body_bytes f.body) e.signature.0 f.signature.0 (is_e.signature ∙ sym is_f.signature) same in
    let body : e.body ≡ f.body = same_body e.body f.body is_e.body is_f.body (ap (drop 1) parts.0) in
    let signature : e.signature.0 ≡ f.signature.0 = parts.1 in
    signed_same e.body f.body e.signature.0 f.signature.0 body signature

-- a fork is a collision
pub collides : (hash : List ℕ → List ℕ) (xs ys : List Entry) (e f : Entry) (x y : List ℕ) → IsEntry e
    → IsEntry f → IsFork hash xs ys e f → x ≡ link_preimage e → y ≡ link_preimage f → IsCollision hash x y
collides hash xs ys e f x y is_e is_f fork is_x is_y = record {
  differ = λ same. fork.differ (same_entry e f is_e is_f (sym is_x ∙ same ∙ is_y));
  same_hash = ap hash is_x ∙ fork.linked ∙ ap hash (sym is_y);
}
