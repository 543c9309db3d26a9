-- The loop over the siblings of a proof object.
use Rattle.std.proofs.Common.{◌≡◌, ℕ, ◌+◌, ◌<◌, List, [], ◌∷◌, ◌++◌, length, drop, get_or, refl, ap, ap₂, sym, ◌∙◌, append_assoc, add-one, drop-cons}
use Rattle.std.specs.Prelude.{Option, Some, None, option_map}
use Rattle.serde_json.specs.Data.{item}
use Rattle.serde_json.specs.View.{view, items_view}
use Rattle.serde_json.specs.declared.value.Value.{Value}
use Rattle.coniks_proof.specs.declared.values.Digest.{Digest}
use Rattle.coniks_programs.specs.ProofObjects.{digest_in, digests_in, with_digest}

-- the digests found so far, followed by others
abbrev pub after : List Digest → Option (List Digest) → Option (List Digest)
after found others = option_map (λ digests. found ++ digests) others

-- the rest from a place is the value there, followed by the rest after it
here : (vs : List Value) (i : ℕ) (v : Value) → i < length vs → v ≡ get_or vs i v → items_view (drop i vs) ≡ item (view v) (items_view (drop (i + 1) vs))
here vs i v lt is =
    let split : drop i vs ≡ v ∷ drop (i + 1) vs = drop-cons vs i v lt ∙ ap₂ (λ (x : Value) (k : ℕ). x ∷ drop k vs) (sym is) (sym (add-one i)) in
    ap items_view split

after-with : (found : List Digest) (d : Digest) (others : Option (List Digest)) → after found (with_digest (Some d) others) ≡ after (found ++ d ∷ []) others
after-with found d None = refl
after-with found d (Some ds) = ap Some (sym (append_assoc found (d ∷ []) ds))

-- one more digest keeps the loop's invariant
pub one_more_digest : (vs : List Value) (i : ℕ) (v : Value) (found new : List Digest) (d : Digest) → i < length vs → v ≡ get_or vs i v → Some d ≡ digest_in (view v) → new ≡ found ++ d ∷ []
    → digests_in (items_view vs) ≡ after found (digests_in (items_view (drop i vs))) → digests_in (items_view vs) ≡ after new (digests_in (items_view (drop (i + 1) vs)))
one_more_digest vs i v found new d lt is some pushed so_far =
    so_far ∙ (ap (λ items. after found (digests_in items)) (here vs i v lt is)
    ∙ (rw (← some, pushed) (after-with found d (digests_in (items_view (drop (i + 1) vs))))))
