-- Two directories that have one entry have the same bindings at its epoch, or there is a collision.
use Rattle.std.proofs.Common.{◌≡◌, ◌⊎◌, ℕ, List, [], length, slice_get, sym, ap, subst, ◌∙◌, inl, inr, Some}
use Rattle.coniks_chain.specs.declared.entry.Body.{Body}
use Rattle.coniks_chain.specs.declared.entry.Entry.{Entry as Signed}
use Rattle.coniks_proof.specs.Bindings.{AreOpenings, Collide, hashed_for}
use Rattle.coniks_proof.specs.Registry.{AreWithin, root_of}
use Rattle.coniks_proof.proofs.Lemmas.{entry_in, in_entries, named_of}
use Rattle.coniks_directory.specs.Alike.{IsAlikeEpoch, SameBindings}
use Rattle.coniks_directory.specs.Restored.{Restores, restored_epoch}
use Rattle.coniks_directory.specs.Supplied.{AgreeOn}
use Rattle.coniks_directory.proofs.LastLemmas.{get-mapped}
use Rattle.coniks_directory.proofs.Words.{Entry, IsIn, IsMap, Operation, Registered, Registry, SameEntries, Shown, State, Whole, after, entries_of, entry_of, history_of, shown_of}

-- the entries of an epoch are a map, and its names and keys are within their limits
epoch_known : (hash index_of : List ℕ → List ℕ) (s : State) → Whole hash index_of s → (k : ℕ) (x : Shown) → slice_get (history_of s) k ≡ Some x
    → IsMap (entries_of hash index_of x.registry) × AreWithin x.registry
epoch_known hash index_of s whole k x at =
    let e = get-mapped (shown_of s.records) s.epochs k x at in
    let m = (whole.stored k e.0 e.1).registry.mirrors in
    subst (λ (z : Shown). IsMap (entries_of hash index_of z.registry) × AreWithin z.registry) e.2 (m.names, m.limits)

-- a binding of one of two registries with the same entries is one of the other, and its name has one index
bound_there : (hash index_of also : List ℕ → List ℕ) (r q : Registry) → ((e : Entry Registered) → IsIn e (entries_of hash index_of r) → IsIn e (entries_of hash also q))
    → (b : Registered) → IsIn b r → IsIn b q × (index_of b.name ≡ also b.name)
bound_there hash index_of also r q there b is =
    let i = in_entries hash also (entry_of hash index_of b) q (there (entry_of hash index_of b) (entry_in hash index_of b r is)) in
    (i.1, sym (ap (λ (e : Entry Registered). e.index) i.0))

same_bindings : (hash index_of also : List ℕ → List ℕ) (r q : Registry) → SameEntries (entries_of hash index_of r) (entries_of hash also q) → SameBindings r q
same_bindings hash index_of also r q same = record {
  there = λ b is. (bound_there hash index_of also r q same.there b is).0;
  back = λ b is. (bound_there hash also index_of q r same.back b is).0;
}

same_indices : (hash index_of also : List ℕ → List ℕ) (r q : Registry) → SameEntries (entries_of hash index_of r) (entries_of hash also q) → AgreeOn index_of also r
same_indices hash index_of also r q same name has =
    let n = named_of r name has in
    subst (λ (x : List ℕ). index_of x ≡ also x) n.named (bound_there hash index_of also r q same.there n.bound n.there).1

-- what one entry of two directories says of their epochs, if a root binds its entries
module _ (hash index_of also : List ℕ → List ℕ)
    (binds : (nonce : List ℕ) (registry other : Registry) → ((bytes : List ℕ) → length (hash bytes) ≡ 32)
    → IsMap (entries_of hash index_of registry) → IsMap (entries_of hash also other) → AreWithin registry → AreWithin other → AreOpenings registry → AreOpenings other
    → root_of hash index_of nonce registry ≡ root_of hash also nonce other
    → SameEntries (entries_of hash index_of registry) (entries_of hash also other)
    ⊎ Collide hash (hashed_for hash index_of nonce registry) (hashed_for hash also nonce other))
    (long : (bytes : List ℕ) → length (hash bytes) ≡ 32) (s r : State) (whole : Whole hash index_of s) (other : Whole hash also r) where
  pub one_entry : (k j : ℕ) (x y : Shown) (entry : Signed)
      → slice_get (history_of s) k ≡ Some x → slice_get (history_of r) j ≡ Some y → slice_get s.chain k ≡ Some entry → slice_get r.chain j ≡ Some entry
      → AreOpenings x.registry → AreOpenings y.registry
      → (IsAlikeEpoch x y × AgreeOn index_of also x.registry) ⊎ Collide hash (hashed_for hash index_of x.nonce x.registry) (hashed_for hash also x.nonce y.registry)
  one_entry k j x y entry at_x at_y at_s at_r opened opened' =
      let one = sym (whole.chain.bodies k x entry at_x at_s) ∙ other.chain.bodies j y entry at_y at_r in
      let nonce : x.nonce ≡ y.nonce = ap (λ (b : Body). b.nonce.0) one in
      let root : root_of hash index_of x.nonce x.registry ≡ root_of hash also x.nonce y.registry =
      ap (λ (b : Body). b.root.0) one ∙ ap (λ (n : List ℕ). root_of hash also n y.registry) (sym nonce) in
      let left = epoch_known hash index_of s whole k x at_x in
      let right = epoch_known hash also r other j y at_y in
      elim (binds x.nonce x.registry y.registry long left.0 right.0 left.1 right.1 opened opened' root) [
        | inr c ↦ inr c
        | inl same ↦ inl (
          record {
            t = ap (λ (b : Body). b.t) one;
            version = ap (λ (b : Body). b.version) one;
            nonce = nonce;
            registry = same_bindings hash index_of also x.registry y.registry same;
          },
          same_indices hash index_of also x.registry y.registry same,
        )
      ]

  pub restored_from : (k : ℕ) (x : Shown) (entry : Signed) (ops : List Operation)
      → slice_get (history_of s) k ≡ Some x → slice_get s.chain k ≡ Some entry → Restores entry ops r → AreOpenings x.registry → AreOpenings (after [] ops)
      → (IsAlikeEpoch x (restored_epoch entry ops) × AgreeOn index_of also x.registry)
      ⊎ Collide hash (hashed_for hash index_of x.nonce x.registry) (hashed_for hash also x.nonce (after [] ops))
  restored_from k x entry ops at_x at_s is opened opened' =
      one_entry k 0 x (restored_epoch entry ops) entry at_x (ap (λ (xs : List Shown). slice_get xs 0) is.history) at_s (ap (λ (es : List Signed). slice_get es 0) is.chain) opened opened'
