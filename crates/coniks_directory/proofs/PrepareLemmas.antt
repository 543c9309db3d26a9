-- An update of a batch on the state of a directory.
use Rattle.std.proofs.Common.{◌≡◌, ℕ, zero, suc, ◌+◌, ◌*◌, ◌-◌, ◌≤◌, List, [], ◌∷◌, ◌++◌, length, map, arith, refl, sym, ap, ◌∙◌, Option, Some, None, Bool, true, false, is_some, slice_get}
use Rattle.coniks_tree.specs.Table.{table}
use Rattle.coniks_directory.proofs.Words.{AddsFew, RotatesTo, Epoch, IsBuilt, IsLatestRoot, IsSmall, IsUpdateBy, Nonce, Op, Prepared, Registered, Registry, Root, Shown, State}
use Rattle.coniks_directory.proofs.Words.{Whole, after, bound_by, history_of, latest_registry, length-map, map-append, nonce_after, option_map}
use Rattle.coniks_directory.proofs.Words.{most_nodes, node_count, operation_of, operations, overlaid, registered_of, registry_after, shown_of}
use Rattle.coniks_directory.specs.Built.{IsCounted}
use Rattle.coniks_directory.specs.Nodes.{epoch_nodes}
use Rattle.coniks_proof.proofs.Lemmas.{overlaid-append}
use Rattle.coniks_directory.proofs.LastLemmas.{last_found, none_last}
use Rattle.coniks_directory.proofs.StateLemmas.{latest-is, latest-last, nonce-last, registry_at-all}

-- the greatest number of nodes that an update adds
few_added : (history : List Shown) (n added : ℕ) → added ≤ 512 * n + 1 → (n ≡ 0 → added ≡ most_nodes history 0) → added ≤ most_nodes history n
few_added history zero added few none = let same = none refl in omega arith
few_added [] (suc n) added few none = few
few_added (s ∷ ss) (suc n) added few none = few

module _ (hash index_of : List ℕ → List ℕ) (s : State) where
  -- the root of the latest epoch
  pub latest_none : slice_get s.epochs (length s.epochs - 1) ≡ None → IsLatestRoot hash index_of s None
  latest_none at = rw (none_last s.epochs at) (record { known = tt; shows = λ nonce under. refl; counted = refl })

  module _ (whole : Whole hash index_of s) where
    pub latest_some : (e : Epoch) → slice_get s.epochs (length s.epochs - 1) ≡ Some e → IsLatestRoot hash index_of s (Some e.root)
    latest_some e at =
        let h = whole.stored (length s.epochs - 1) e at in
        record {
          known = h.known;
          shows = λ nonce under. rw (under, nonce-last s e at, latest-last s e at) h.registry;
          counted = sym (last_found (λ es. most_nodes (map (shown_of s.records) es) 0) (λ _. 0) (λ x. refl) (λ x y es. refl) s.epochs e at);
        }

    -- the latest registry after a batch is the registry of all records
    registry_is : (p : Prepared) (ops : List Op) → map registered_of p.records.items ≡ map bound_by (operations ops) → registry_after s p ≡ after (latest_registry (history_of s)) (operations ops)
    registry_is p ops binds =
        registry_at-all (s.records ++ p.records.items)
        ∙ ap (overlaid []) (map-append registered_of s.records p.records.items ∙ ap (λ (bs : List Registered). map registered_of s.records ++ bs) binds)
        ∙ overlaid-append [] (map registered_of s.records) (map bound_by (operations ops))
        ∙ ap (λ (R : Registry). overlaid R (map bound_by (operations ops))) (sym (latest-is hash index_of s whole ∙ registry_at-all s.records))

    -- what is built from a batch is an update
    module _ (p : Prepared) (ops : List Op) (root : Option Root) (latest : IsLatestRoot hash index_of s root) where
      adds : (new_nonce : Option (List ℕ)) (anew : Bool) → anew ≡ is_some new_nonce
          → IsSmall anew root (operations ops) (after (latest_registry (history_of s)) (operations ops)) p.part → AddsFew s new_nonce ops p
      adds None false same small =
          let many = length-map ops operation_of in
          let none = λ (empty : length ops ≡ 0). p.counted ∙ ap node_count (small.1 (many ∙ empty)) ∙ latest.counted in
          (few_added (history_of s) (length ops) p.new_nodes (let few = small.0 in let count = p.counted in omega (arith, many)) none, none)
      adds (Some nonce) true same small = (let few = small.0 in let count = p.counted in omega arith, small.1)
      adds None true same small = absurd (let never = same in cc)
      adds (Some nonce) false same small = absurd (let never = same in cc)

      count : (new_nonce : Option (List ℕ)) (anew : Bool) → anew ≡ is_some new_nonce → IsCounted anew index_of root (latest_registry (history_of s)) (operations ops) p.part
          → p.new_nodes ≡ epoch_nodes index_of (history_of s) new_nonce (operations ops)
      count None false same counted = p.counted ∙
          (elim (operations ops) as (λ os. IsCounted false index_of root (latest_registry (history_of s)) os p.part → node_count p.part ≡ epoch_nodes index_of (history_of s) None os) [
            | [] ↦ λ is. ap node_count is ∙ latest.counted
            | x ∷ xs ↦ λ is. is
          ]) counted
      count (Some nonce) true same counted = p.counted ∙ counted
      count None true same counted = absurd (let never = same in cc)
      count (Some nonce) false same counted = absurd (let never = same in cc)

      pub update_by : (new_nonce : Option (List ℕ)) (anew : Bool) → anew ≡ is_some new_nonce → p.base ≡ length s.epochs → RotatesTo s new_nonce p
          → IsBuilt hash index_of p.nonce.0 (table s.nodes s.records) root (latest_registry (history_of s)) (operations ops) anew p.part p.records.items → IsUpdateBy hash index_of s new_nonce ops p
      update_by new_nonce anew same base rotates b =
          let registry = registry_is p ops b.binds in
          record {
            update = record {
              base = base;
              counted = whole.last;
              new_nonce = new_nonce;
              rotates = rotates;
              fits = b.fits;
              placed = b.placed;
              entries = b.entries;
              stands = b.stands;
              mirrors = rw registry b.mirrors;
            };
            rotates = rotates;
            registry = registry;
            binds = b.binds;
            stored = b.stored;
            nodes = count new_nonce anew same b.counted;
            few = adds new_nonce anew same b.small;
          }

-- an update without a new nonce is under the latest nonce
pub latest_retained : (new_nonce : Option Nonce) (anew : Bool) (nonce latest : List ℕ) → anew ≡ is_some new_nonce
    → nonce ≡ nonce_after (option_map (λ (n : Nonce). n.0) new_nonce) latest → anew ≡ false → latest ≡ nonce
latest_retained None anew nonce latest same is off = sym is
latest_retained (Some n) anew nonce latest same is off = absurd (let never = sym same ∙ off in cc)

pub is_some-map : {S T : Type 0} (f : S → T) (x : Option S) → is_some (option_map f x) ≡ is_some x
is_some-map f None = refl
is_some-map f (Some x) = refl
