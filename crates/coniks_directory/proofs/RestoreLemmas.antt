-- What a restore leaves, and its bindings so far.
use Rattle.std.proofs.Common.{◌≡◌, ◌+◌, ℕ, zero, suc, List, [], ◌∷◌, ◌++◌, length, map, slice_get, Bool, true, false, refl, sym, ap, subst, ◌∙◌, append_assoc, arith, inl, inr, Option, Some, None}
use Rattle.coniks_proof.specs.Batches.{Kind, change, register}
use Rattle.coniks_proof.specs.Hashing.{hashing}
use Rattle.coniks_proof.specs.Registry.{root_of}
use Rattle.coniks_tree.specs.Table.{table}
use Rattle.coniks_chain.specs.Evidence.{IsWellFormed}
use Rattle.coniks_chain.specs.declared.entry.Entry.{Entry}
use Rattle.coniks_tree.specs.Parts.{node_count}
use Rattle.coniks_directory.specs.Built.{IsCounted}
use Rattle.coniks_directory.specs.Installed.{Attached, IsFirst}
use Rattle.coniks_directory.specs.Nodes.{epoch_nodes}
use Rattle.coniks_directory.specs.Restored.{RestoringView, Restores, registration, registrations, restored_epoch, stated_before}
use Rattle.coniks_directory.specs.State.{opened}
use Rattle.coniks_proof.proofs.Lemmas.{clear_of, placed_none}
use Rattle.coniks_directory.proofs.MirrorLemmas.{mirrored_root}
use Rattle.coniks_directory.proofs.StateLemmas.{registry_at-all}
use Rattle.coniks_directory.proofs.Words.{ArePendingRecords, AuditorState, BTreeMap, Continues, Epoch, Follows, HoldsEpoch, IsBuilt, IsUpdate, Nonce}
use Rattle.coniks_directory.proofs.Words.{Numbered, Operation, Prepared, Record, Registered, Registry, RotatesTo, Shown, Stands, State, Whole, after, append-nil}
use Rattle.coniks_directory.proofs.Words.{before_at, auditor_after, body_bytes, body_of, bound_by, fault_from, fault_of, first_fault, history_of}
use Rattle.coniks_directory.proofs.Words.{kind_fault, map-append, node, overlaid, placed, records_after, registered_of, registry_after, same_Some, shown_after}

-- the state of `open` is a directory's
pub opened_whole : (hash index_of : List ℕ → List ℕ) (nonce policy : List ℕ) → Whole hash index_of (opened nonce policy)
opened_whole hash index_of nonce policy = record {
  stored = λ k e at. absurd (let never = at in cc);
  last = refl;
  begun = λ none. refl;
  rising = tt;
  under = tt;
  chain = record { long = refl; bodies = λ k shown entry at there. absurd (let never = at in cc) };
}

-- the update of bindings on nothing adds the nodes of a first epoch
pub first_nodes : (index_of : List ℕ → List ℕ) (p : Prepared) (ops : List Operation) → IsCounted false index_of None [] ops p.part → p.new_nodes ≡ epoch_nodes index_of [] None ops
first_nodes index_of p [] is = p.counted ∙ ap node_count is
first_nodes index_of p (op ∷ ops) is = p.counted ∙ is

-- a chain of one entry
one_chain : (hash index_of : List ℕ → List ℕ) (policy : List ℕ) (before : Option AuditorState) (shown : Shown) (entry : Entry)
    → entry.body ≡ body_of hash index_of policy before shown → (k : ℕ) (x : Shown) (e : Entry)
    → slice_get (shown ∷ []) k ≡ Some x → slice_get (entry ∷ []) k ≡ Some e
    → e.body ≡ body_of hash index_of policy (before_at hash before (entry ∷ []) k) x
one_chain hash index_of policy before shown entry body zero x e at there =
    let s : shown ≡ x = same_Some shown x at in
    let f : entry ≡ e = same_Some entry e there in
    ap (λ (y : Entry). y.body) (sym f) ∙ body ∙ ap (body_of hash index_of policy before) s
one_chain hash index_of policy before shown entry body (suc k) x e at there = absurd (let never = at in cc)

module _ (hash index_of : List ℕ → List ℕ) (entry : Entry) (ops : List Operation) (p : Prepared) where
  abbrev pub start : State
  start = opened entry.body.nonce.0 entry.body.policy

  abbrev pub begun : State
  begun = record start { before = Some (stated_before entry) }

  pub no_epochs : (k : ℕ) (e : Epoch) → slice_get begun.epochs k ≡ Some e → HoldsEpoch hash index_of (table begun.nodes begun.records) e
  no_epochs k e at = absurd (let never = at in cc)

  pub update_begun : IsUpdate hash index_of start p → IsUpdate hash index_of begun p
  update_begun u = record {
    base = u.base;
    counted = u.counted;
    new_nonce = u.new_nonce;
    rotates = record { version = u.rotates.version; nonce = u.rotates.nonce };
    fits = u.fits;
    placed = u.placed;
    entries = u.entries;
    stands = u.stands;
    mirrors = u.mirrors;
  }

  pub restores : IsUpdate hash index_of start p → IsFirst hash index_of start p ops entry → (later : State)
      → Attached hash index_of begun later p entry.body.t entry → Whole hash index_of later × Restores entry ops later
  restores u f later a =
      let shown-is : shown_after begun p entry.body.t ≡ restored_epoch entry ops = rw (f.version, f.nonce, f.registry) refl in
      let history : history_of later ≡ restored_epoch entry ops ∷ [] = a.history ∙ ap (λ (x : Shown). x ∷ []) shown-is in
      let chain : later.chain ≡ entry ∷ [] = a.chain in
      let root : entry.body.root.0 ≡ root_of hash index_of entry.body.nonce.0 (after [] ops) = rw (f.nonce, f.registry) at f.root in
      let body : entry.body ≡ body_of hash index_of entry.body.policy (Some (stated_before entry)) (restored_epoch entry ops) =
      ap (λ (r : List ℕ). record entry.body { root = record { 0 = r } }) root in (
        record {
          stored = a.stored;
          last = a.last;
          begun = λ none. absurd (let never = sym a.chain ∙ none in cc);
          rising = rw (history, a.grows.before) (f.later, tt);
          under = rw (history, a.grows.nonce) ((u.new_nonce, sym f.version ∙ u.rotates.version, sym f.nonce ∙ u.rotates.nonce), tt);
          chain = rw (history, chain, a.grows.policy, a.grows.before)
              (record { long = refl; bodies = one_chain hash index_of entry.body.policy (Some (stated_before entry)) (restored_epoch entry ops) entry body });
        },
        record {
          nonce = a.grows.nonce;
          policy = a.grows.policy;
          before = a.grows.before;
          history = history;
          chain = chain;
        },
      )

-- the hash of an update's part is the root of its registry
pub part_root : (hash index_of : List ℕ → List ℕ) (s : State) (p : Prepared) (root : List ℕ) → IsUpdate hash index_of s p
    → ((es : List Numbered) → Stands (hashing hash p.nonce.0) (table s.nodes s.records) p.part [] es → root ≡ node (hashing hash p.nonce.0) [] es)
    → root ≡ root_of hash index_of p.nonce.0 (registry_after s p)
part_root hash index_of s p root u root-is =
    root-is u.entries u.stands ∙ mirrored_root hash index_of p.nonce.0 (records_after s p) u.entries (registry_after s p) u.mirrors

-- an update of bindings on the state of `open` is that of the entry
pub first_of : (hash index_of : List ℕ → List ℕ) (s : State) (p : Prepared) (ops : List Operation) (entry : Entry) → IsWellFormed entry.body
    → p.version ≡ entry.body.version → p.nonce ≡ entry.body.nonce → registry_after s p ≡ after [] ops
    → entry.body.root.0 ≡ root_of hash index_of p.nonce.0 (registry_after s p) → IsFirst hash index_of s p ops entry
first_of hash index_of s p ops entry may version nonce registry root = record {
  later = may.later;
  version = version;
  nonce = ap (λ (n : Nonce). n.0) nonce;
  registry = registry;
  root = root;
}

-- an update on the state of `open` with the entry's version and nonce: version 2 is that of a rotation to the nonce
rotation : (entry : Entry) (p : Prepared) → IsWellFormed entry.body → p.version ≡ entry.body.version → p.nonce.0 ≡ entry.body.nonce.0
    → (new_nonce : Option (List ℕ)) × RotatesTo (opened entry.body.nonce.0 entry.body.policy) new_nonce p
rotation entry p may version nonce = elim may.version [
  | inl one ↦ (None, record { version = version ∙ one; nonce = nonce })
  | inr two ↦ (Some entry.body.nonce.0, record { version = version ∙ two; nonce = nonce })
]

-- what is built from bindings on the empty tree is an update of them
pub first_built : (hash index_of : List ℕ → List ℕ) (s : State) (entry : Entry) (p : Prepared) (ops : List Operation)
    → s ≡ opened entry.body.nonce.0 entry.body.policy → IsWellFormed entry.body → p.base ≡ length s.epochs → p.version ≡ entry.body.version → p.nonce ≡ entry.body.nonce
    → IsBuilt hash index_of p.nonce.0 (table s.nodes s.records) None [] ops false p.part p.records.items
    → IsUpdate hash index_of s p × (registry_after s p ≡ after [] ops)
first_built hash index_of s entry p ops is may base version nonce built =
    let on = opened entry.body.nonce.0 entry.body.policy in
    let b : IsBuilt hash index_of p.nonce.0 (table [] []) None [] ops false p.part p.records.items =
    subst (λ (x : State). IsBuilt hash index_of p.nonce.0 (table x.nodes x.records) None [] ops false p.part p.records.items) is built in
    let count : p.base ≡ 0 = base ∙ ap (λ (x : State). length x.epochs) is in
    let registry : registry_after on p ≡ after [] ops = registry_at-all p.records.items ∙ ap (overlaid []) b.binds in
    let r = rotation entry p may version (ap (λ (n : Nonce). n.0) nonce) in
    subst (λ (x : State). IsUpdate hash index_of x p × (registry_after x p ≡ after [] ops)) (sym is) (
      record {
        base = count;
        counted = refl;
        new_nonce = r.0;
        rotates = r.1;
        fits = b.fits;
        placed = b.placed;
        entries = b.entries;
        stands = b.stands;
        mirrors = rw registry b.mirrors;
      },
      registry,
    )

-- ---- bindings as operations that register them

pub bound_registrations : (bs : List Registered) → map bound_by (map registration bs) ≡ bs
bound_registrations [] = refl
bound_registrations (b ∷ bs) = ap (λ xs. b ∷ xs) (bound_registrations bs)

-- a kind without an error on an absent name is that of a registration
kind_of : (kind : Kind) → kind_fault kind false ≡ None → kind ≡ register
kind_of register none = refl
kind_of change none = absurd (let never = none in cc)

-- an operation on no name without an error registers its name
registers : (index_of : List ℕ → List ℕ) (earlier : List Registered) (op : Operation) → fault_of index_of [] earlier op ≡ None → op.kind ≡ register
registers index_of earlier op none = kind_of op.kind (clear_of index_of [] earlier op none).kind

-- operations without an error on no names register what they bind
pub registrations_are : (index_of : List ℕ → List ℕ) (earlier : List Registered) (place : ℕ) (ops : List Operation)
    → fault_from index_of [] earlier place ops ≡ None → map registration (map bound_by ops) ≡ ops
registrations_are index_of earlier place [] none = refl
registrations_are index_of earlier place (op ∷ ops) none =
    let n = placed_none place (fault_of index_of [] earlier op) (fault_from index_of [] (earlier ++ bound_by op ∷ []) (place + 1) ops) none in
    let kind = registers index_of earlier op n.0 in
    ap (λ (k : Kind). record op { kind = k } ∷ map registration (map bound_by ops)) (sym kind)
    ∙ ap (λ xs. op ∷ xs) (registrations_are index_of (earlier ++ bound_by op ∷ []) (place + 1) ops n.1)

-- operations without an error have none from any place on
faultless_from : (index_of : List ℕ → List ℕ) (registry : Registry) (earlier : List Registered) (place other : ℕ) (ops : List Operation)
    → fault_from index_of registry earlier place ops ≡ None → fault_from index_of registry earlier other ops ≡ None
faultless_from index_of registry earlier place other [] none = refl
faultless_from index_of registry earlier place other (op ∷ ops) none =
    let n = placed_none place (fault_of index_of registry earlier op) (fault_from index_of registry (earlier ++ bound_by op ∷ []) (place + 1) ops) none in
    ap (λ f. placed other f (fault_from index_of registry (earlier ++ bound_by op ∷ []) (other + 1) ops)) n.0
    ∙ faultless_from index_of registry (earlier ++ bound_by op ∷ []) (place + 1) (other + 1) ops n.1

-- operations and further ones without an error after them have none
faultless_more : (index_of : List ℕ → List ℕ) (registry : Registry) (earlier : List Registered) (place other : ℕ) (ops more : List Operation)
    → fault_from index_of registry earlier place ops ≡ None → fault_from index_of registry (earlier ++ map bound_by ops) other more ≡ None
    → fault_from index_of registry earlier place (ops ++ more) ≡ None
faultless_more index_of registry earlier place other [] more none later =
    faultless_from index_of registry earlier other place more (rw (append-nil earlier) at later)
faultless_more index_of registry earlier place other (op ∷ ops) more none later =
    let n = placed_none place (fault_of index_of registry earlier op) (fault_from index_of registry (earlier ++ bound_by op ∷ []) (place + 1) ops) none in
    ap (λ f. placed place f (fault_from index_of registry (earlier ++ bound_by op ∷ []) (place + 1) (ops ++ more))) n.0
    ∙ faultless_more index_of registry (earlier ++ bound_by op ∷ []) (place + 1) other ops more n.1
    (subst (λ bs. fault_from index_of registry bs other more ≡ None) (sym (append_assoc earlier (bound_by op ∷ []) (map bound_by ops))) later)

-- views of a restore with the same bindings
pub view_is : {H X : Type 0} (h : H) (x : X) (entry : Entry) (ops others : List Operation) → ops ≡ others
    → (let v : RestoringView H X = record { hash = h; index = x; entry = entry; ops = ops } in v) ≡ (let v : RestoringView H X = record { hash = h; index = x; entry = entry; ops = others } in v)
view_is {H} {X} h x entry ops others same = cc

pub view_more : {H X : Type 0} (v w : RestoringView H X) (ops : List Operation) → v ≡ w
    → (let x : RestoringView H X = record v { ops = v.ops ++ ops } in x) ≡ (let x : RestoringView H X = record w { ops = w.ops ++ ops } in x)
view_more {H} {X} v w ops same = ap (λ (y : RestoringView H X). let x : RestoringView H X = record y { ops = y.ops ++ ops } in x) same

-- what holds of a restore's indices and bindings, in terms of its view
pub at_view : {H X : Type 0} (P : X → List Registered → Type 0) (v w : RestoringView H X) (bs : List Registered)
    → v ≡ w → map bound_by v.ops ≡ bs → P v.index bs → P w.index (map bound_by w.ops)
at_view {H} {X} P v w bs same is holds =
    subst (λ (x : RestoringView H X). P x.index (map bound_by x.ops)) same (subst (P v.index) (sym is) holds)

-- the bindings of a restore and those of a call
module _ (hash index_of : List ℕ → List ℕ) (old new : List Record) (numbers' : BTreeMap (List ℕ) ℕ) (ops : List Operation)
    (s : ArePendingRecords hash index_of (map registered_of old ++ map bound_by ops) new numbers')
    (was : first_fault index_of [] (registrations old) ≡ None) (none : fault_from index_of [] (map registered_of old) 0 ops ≡ None) where
  pub added_ops : registrations new ≡ registrations old ++ ops
  added_ops =
      ap (map registration) s.binds ∙ map-append registration (map registered_of old) (map bound_by ops)
      ∙ ap (λ xs. registrations old ++ xs) (registrations_are index_of (map registered_of old) 0 ops none)

  pub added_faultless : first_fault index_of [] (registrations new) ≡ None
  added_faultless =
      ap (first_fault index_of []) added_ops
      ∙ faultless_more index_of [] [] 0 0 (registrations old) ops was
      (subst (λ bs. fault_from index_of [] bs 0 ops ≡ None) (sym (bound_registrations (map registered_of old))) none)

-- its chain is good if the entry's signature is
one_good : (hash : List ℕ → List ℕ) (verdict : List ℕ → List ℕ → Bool) (before : Option AuditorState) (entry : Entry) → Follows verdict before entry
    → (k : ℕ) (e : Entry) → slice_get (entry ∷ []) k ≡ Some e → Follows verdict (before_at hash before (entry ∷ []) k) e
one_good hash verdict before entry follows zero e at = subst (Follows verdict before) (same_Some entry e at) follows
one_good hash verdict before entry follows (suc k) e at = absurd (let never = at in cc)

pub good_first : (hash : List ℕ → List ℕ) (verdict : List ℕ → List ℕ → Bool) (entry : Entry) → IsWellFormed entry.body
    → verdict (body_bytes entry.body) entry.signature.0 ≡ true → Continues hash verdict (Some (stated_before entry)) (entry ∷ [])
good_first hash verdict entry may signed =
    one_good hash verdict (Some (stated_before entry)) entry
    (record { rows = (may.version, (omega arith, (tt, (may.later, (refl, (refl, ((λ first. refl), (signed, tt)))))))) })

-- the first entry of a chain is a good chain by itself
pub good_alone : (hash : List ℕ → List ℕ) (verdict : List ℕ → List ℕ → Bool) (entry : Entry) → IsWellFormed entry.body → entry.body.t_prev ≡ 0
    → verdict (body_bytes entry.body) entry.signature.0 ≡ true → Continues hash verdict None (entry ∷ [])
good_alone hash verdict entry formed first signed =
    let later = formed.later in
    one_good hash verdict None entry
    (record { rows = (formed.version, (tt, (omega (arith, later, first), (tt, (first, (formed.begins first, (tt, (signed, tt)))))))) })

-- ---- a restored chain behind the entries before it

before_at-next : (hash : List ℕ → List ℕ) (start : Option AuditorState) (e : Entry) (es : List Entry) (k : ℕ)
    → before_at hash start (e ∷ es) (suc k) ≡ before_at hash (Some (auditor_after hash e)) es k
before_at-next hash from e es zero = refl
before_at-next hash from e es (suc k) = refl

module _ (hash : List ℕ → List ℕ) (verdict : List ℕ → List ℕ → Bool) (e : Entry) (more : List Entry) (good : Continues hash verdict (Some (stated_before e)) (e ∷ more)) where
  -- entries and those of a restored directory, whose first entry is their last, are a chain
  pub joined : (start : Option AuditorState) (earlier : List Entry) → Continues hash verdict start (earlier ++ e ∷ []) → Continues hash verdict start (earlier ++ e ∷ more)
  joined from [] first zero f at = first 0 f at
  joined from [] first (suc k) f at = good (suc k) f at
  joined from (x ∷ earlier) first zero f at = first 0 f at
  joined from (x ∷ earlier) first (suc k) f at =
      let rest : Continues hash verdict (Some (auditor_after hash x)) (earlier ++ e ∷ []) =
      λ j g there. subst (λ b. Follows verdict b g) (before_at-next hash from x (earlier ++ e ∷ []) j) (first (suc j) g there) in
      subst (λ b. Follows verdict b f) (sym (before_at-next hash from x (earlier ++ e ∷ more) k)) (joined (Some (auditor_after hash x)) earlier rest k f at)

pub good_joined : (hash : List ℕ → List ℕ) (verdict : List ℕ → List ℕ → Bool) (earlier more : List Entry) (e : Entry)
    → Continues hash verdict None (earlier ++ e ∷ []) → Continues hash verdict (Some (stated_before e)) (e ∷ more) → Continues hash verdict None (earlier ++ e ∷ more)
good_joined hash verdict earlier more e first good = joined hash verdict e more good None earlier first
