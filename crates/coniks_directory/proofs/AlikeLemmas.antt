-- Registries with the same bindings: their batches, errors, roots, keys, paths and nodes.
use Rattle.std.proofs.Common.{◌≡◌, ◌≢◌, ◌+◌, ◌||◌, ℕ, suc, List, [], ◌∷◌, ◌++◌, length, map, slice_get, true, false, cond, refl, sym, ap, subst, ◌∙◌, inl, inr, Option, Some, None, option_map}
use Rattle.coniks_proof.specs.Batches.{Suits}
use Rattle.coniks_proof.specs.Hashing.{hashing}
use Rattle.coniks_proof.specs.Registry.{bound_to}
use Rattle.coniks_chain.specs.declared.entry.Entry.{Entry as Signed}
use Rattle.coniks_directory.specs.Alike.{AreAlikeEpochs, IsAlikeEpoch, SameBindings}
use Rattle.coniks_directory.specs.Nodes.{epoch_nodes, index_entries, index_entry}
use Rattle.coniks_directory.specs.Restored.{restored_epoch}
use Rattle.coniks_directory.specs.Runs.{Start, opening, restoring}
use Rattle.coniks_proof.proofs.Lemmas.{IsIn-append, IsIn-append_left, IsIn-append_right, clash_found, clash_made, end_of-same, entry_in, has_of, in_entries}
use Rattle.coniks_proof.proofs.Lemmas.{in_rebound, may_follow, named_of, node-same, own_of_map, rebound_new, rebound_old, same_bool, same_entry, siblings-same}
use Rattle.coniks_tree.proofs.Lemmas.{get-last}
use Rattle.coniks_directory.proofs.AgreementLemmas.{has_still}
use Rattle.coniks_directory.proofs.LastLemmas.{at_end, get-mapped}
use Rattle.coniks_directory.proofs.NodeLemmas.{AreAlike, count_same, in_places, nothing_alike, place_in, places_map}
use Rattle.coniks_directory.proofs.Words.{AreAcceptedFrom, AreOnce, AuditorState, Batch, EndIs, Entry, HaveOwnIndices, IsChainOf, IsIn, IsIndex, IsMap, IsNew, IsPath, MayFollow, Numbered, Operation, Prepared, Proof}
use Rattle.coniks_directory.proofs.Words.{IsUpdate, Registered, Registry, SameEntries, Shown, State, Whole, after, auditor_after, body_of, bound_by, bytes_eq}
use Rattle.coniks_directory.proofs.Words.{bytes_eq-Decides, clashes, defined, entries_of, entry_of, epochs_from, fault_from, fault_of, first_fault, has_name}
use Rattle.coniks_directory.proofs.Words.{history_of, key_of, latest_registry, most_nodes, nonce_after, overlaid, placed, rebound, registry_after, root_at, shown_by, shown_of, version_after}

same_sym : (r q : Registry) → SameBindings r q → SameBindings q r
same_sym r q same = record { there = same.back; back = same.there }

same_refl : (r : Registry) → SameBindings r r
same_refl r = record { there = λ b is. is; back = λ b is. is }

-- ---- batches

rebound_into : (r q : Registry) (b c : Registered) → SameBindings r q → IsIn c (rebound r b) → IsIn c (rebound q b)
rebound_into r q b c same there = elim (in_rebound r b c there) [
  | inl new ↦ subst (λ (x : Registered). IsIn x (rebound q b)) new (rebound_new q b)
  | inr (old, apart) ↦ rebound_old q b c (same.there c old) apart
]

pub rebound_same : (r q : Registry) (b : Registered) → SameBindings r q → SameBindings (rebound r b) (rebound q b)
rebound_same r q b same = record { there = λ c is. rebound_into r q b c same is; back = λ c is. rebound_into q r b c (same_sym r q same) is }

pub overlaid_same : (r q : Registry) (bs : List Registered) → SameBindings r q → SameBindings (overlaid r bs) (overlaid q bs)
overlaid_same r q [] same = same
overlaid_same r q (b ∷ bs) same = overlaid_same (rebound r b) (rebound q b) bs (rebound_same r q b same)

append_into : (r q bs : Registry) (b : Registered) → SameBindings r q → IsIn b (r ++ bs) → IsIn b (q ++ bs)
append_into r q bs b same there = elim (IsIn-append b r bs there) [
  | inl left ↦ IsIn-append_left b q bs (same.there b left)
  | inr right ↦ IsIn-append_right b q bs right
]

pub append_same : (r q bs : Registry) → SameBindings r q → SameBindings (r ++ bs) (q ++ bs)
append_same r q bs same = record { there = λ b is. append_into r q bs b same is; back = λ b is. append_into q r bs b (same_sym r q same) is }

-- ---- names

has_into : (r q : Registry) (name : List ℕ) → SameBindings r q → has_name r name ≡ true → has_name q name ≡ true
has_into r q name same has = let n = named_of r name has in has_of q name n.bound (same.there n.bound n.there) n.named

pub has_same : (r q : Registry) (name : List ℕ) → SameBindings r q → has_name r name ≡ has_name q name
has_same r q name same = same_bool (has_name r name) (has_name q name) (has_into r q name same) (has_into q r name (same_sym r q same))

clashes_into : (index_of : List ℕ → List ℕ) (r q : Registry) (name : List ℕ) → SameBindings r q → clashes index_of r name ≡ true → clashes index_of q name ≡ true
clashes_into index_of r q name same on =
    let c = clash_found index_of r name on in
    clash_made index_of q name (record { other = c.other; at = c.at; there = has_into r q c.other same c.there; apart = c.apart })

clashes_same : (index_of : List ℕ → List ℕ) (r q : Registry) (name : List ℕ) → SameBindings r q → clashes index_of r name ≡ clashes index_of q name
clashes_same index_of r q name same =
    same_bool (clashes index_of r name) (clashes index_of q name) (clashes_into index_of r q name same) (clashes_into index_of q r name (same_sym r q same))

-- ---- errors

fault_of_same : (index_of : List ℕ → List ℕ) (r q earlier : Registry) (op : Operation) → SameBindings r q → fault_of index_of r earlier op ≡ fault_of index_of q earlier op
fault_of_same index_of r q earlier op same =
    rw (has_same r q op.name same, clashes_same index_of (r ++ earlier) (q ++ earlier) op.name (append_same r q earlier same)) refl

fault_from_same : (index_of : List ℕ → List ℕ) (r q earlier : Registry) (place : ℕ) (ops : List Operation) → SameBindings r q
    → fault_from index_of r earlier place ops ≡ fault_from index_of q earlier place ops
fault_from_same index_of r q earlier place [] same = refl
fault_from_same index_of r q earlier place (op ∷ ops) same =
    ap (λ f. placed place f (fault_from index_of r (earlier ++ bound_by op ∷ []) (place + 1) ops)) (fault_of_same index_of r q earlier op same)
    ∙ ap (placed place (fault_of index_of q earlier op)) (fault_from_same index_of r q (earlier ++ bound_by op ∷ []) (place + 1) ops same)

pub first_same : (index_of : List ℕ → List ℕ) (r q : Registry) (ops : List Operation) → SameBindings r q → first_fault index_of r ops ≡ first_fault index_of q ops
first_same index_of r q ops same = fault_from_same index_of r q [] 0 ops same

follow_same : (index_of : List ℕ → List ℕ) (r q : Registry) (ops : List Operation) → SameBindings r q → MayFollow index_of r ops → MayFollow index_of q ops
follow_same index_of r q ops same may =
    let bs = map bound_by ops in
    let back = λ (name : List ℕ). has_into (q ++ bs) (r ++ bs) name (append_same q r bs (same_sym r q same)) in
    record {
      within = may.within;
      once = may.once;
      kinds = λ op is. subst (Suits op.kind) (has_same r q op.name same) (may.kinds op is);
      apart = λ x y has_x has_y at. may.apart x y (back x has_x) (back y has_y) at;
    }

-- ---- runs

pub accepted_same : (index_of : List ℕ → List ℕ) (t : ℕ) (r q : Registry) (batches : List Batch) → SameBindings r q
    → AreAcceptedFrom index_of t r batches → AreAcceptedFrom index_of t q batches
accepted_same index_of t r q [] same all = tt
accepted_same index_of t r q (b ∷ bs) same all =
    (all.0, all.1, follow_same index_of r q b.ops same all.2, accepted_same index_of b.t (after r b.ops) (after q b.ops) bs (overlaid_same r q (map bound_by b.ops) same) all.3)

pub epochs_same : (version : ℕ) (nonce : List ℕ) (r q : Registry) (batches : List Batch) → SameBindings r q
    → AreAlikeEpochs (epochs_from version nonce r batches) (epochs_from version nonce q batches)
epochs_same version nonce r q [] same = tt
epochs_same version nonce r q (b ∷ bs) same =
    let left = overlaid_same r q (map bound_by b.ops) same in (
      record { t = refl; version = refl; nonce = refl; registry = left },
      epochs_same (version_after b.new_nonce version) (nonce_after b.new_nonce nonce) (after r b.ops) (after q b.ops) bs left,
    )

-- ---- roots

entries_into : (hash index_of : List ℕ → List ℕ) (r q : Registry) (e : Entry Registered) → SameBindings r q → IsIn e (entries_of hash index_of r) → IsIn e (entries_of hash index_of q)
entries_into hash index_of r q e same there =
    let i = in_entries hash index_of e r there in
    subst (λ (x : Entry Registered). IsIn x (entries_of hash index_of q)) i.0 (entry_in hash index_of e.behind q (same.there e.behind i.1))

entries_same : (hash index_of : List ℕ → List ℕ) (r q : Registry) → SameBindings r q → SameEntries (entries_of hash index_of r) (entries_of hash index_of q)
entries_same hash index_of r q same =
    record { there = λ e is. entries_into hash index_of r q e same is; back = λ e is. entries_into hash index_of q r e (same_sym r q same) is }

-- the epochs of two directories have the same root
pub roots_same : (hash index_of : List ℕ → List ℕ) (s r : State) → Whole hash index_of s → Whole hash index_of r → (k j : ℕ) (x y : Shown)
    → slice_get (history_of s) k ≡ Some x → slice_get (history_of r) j ≡ Some y → IsAlikeEpoch x y → root_at hash index_of x ≡ root_at hash index_of y
roots_same hash index_of s r whole other k j x y at_x at_y alike =
    let e = get-mapped (shown_of s.records) s.epochs k x at_x in
    let f = get-mapped (shown_of r.records) r.epochs j y at_y in
    let left : IsMap (entries_of hash index_of x.registry) =
    subst (λ (z : Shown). IsMap (entries_of hash index_of z.registry)) e.2 (whole.stored k e.0 e.1).registry.mirrors.names in
    let right : IsMap (entries_of hash index_of y.registry) =
    subst (λ (z : Shown). IsMap (entries_of hash index_of z.registry)) f.2 (other.stored j f.0 f.1).registry.mirrors.names in
    ap (λ (n : List ℕ). root_at hash index_of (record x { nonce = n })) alike.nonce
    ∙ node-same (hashing hash y.nonce) [] (entries_of hash index_of x.registry) (entries_of hash index_of y.registry) left right
    (entries_same hash index_of x.registry y.registry alike.registry)

-- ---- bodies

-- after the same entry, alike epochs with the same root have the same body
pub bodies_same : (hash index_of : List ℕ → List ℕ) (policy : List ℕ) (b c : Option AuditorState) (history other : List Shown) (chain chained : List Signed)
    → IsChainOf hash index_of policy b history chain → IsChainOf hash index_of policy c other chained → (k j : ℕ) (e f g : Signed) (x y : Shown)
    → slice_get chain k ≡ Some e → slice_get chained j ≡ Some e → slice_get history (suc k) ≡ Some x → slice_get other (suc j) ≡ Some y
    → slice_get chain (suc k) ≡ Some f → slice_get chained (suc j) ≡ Some g → IsAlikeEpoch x y → root_at hash index_of x ≡ root_at hash index_of y → f.body ≡ g.body
bodies_same hash index_of policy b c history other chain chained is has k j e f g x y at_e at_e' at_x at_y at_f at_g alike root =
    let left = rw at_e at (is.bodies (suc k) x f at_x at_f) in
    let right = rw at_e' at (has.bodies (suc j) y g at_y at_g) in
    left ∙ ap (λ (d : List ℕ). record (body_of hash index_of policy (Some (auditor_after hash e)) x) { root = record { 0 = d } }) root
    ∙ rw (alike.t, alike.version, alike.nonce) refl ∙ sym right

-- ---- runs

-- the epochs of batches and further batches
from_split : (version : ℕ) (nonce : List ℕ) (r : Registry) (bs more : List Batch) (earlier : List Shown) (x : Shown) → epochs_from version nonce r bs ≡ earlier ++ x ∷ []
    → epochs_from version nonce r (bs ++ more) ≡ earlier ++ x ∷ epochs_from x.version x.nonce x.registry more
from_split version nonce r [] more [] x is = absurd (let never = is in cc)
from_split version nonce r [] more (y ∷ earlier) x is = absurd (let never = is in cc)
from_split version nonce r (b ∷ []) more [] x is =
    let same : shown_by version nonce r b ≡ x = cc in
    subst (λ (z : Shown). shown_by version nonce r b ∷ epochs_from (version_after b.new_nonce version) (nonce_after b.new_nonce nonce) (after r b.ops) more
    ≡ z ∷ epochs_from z.version z.nonce z.registry more) same refl
from_split version nonce r (b ∷ c ∷ bs) more [] x is = absurd (let never = is in cc)
from_split version nonce r (b ∷ bs) more (y ∷ earlier) x is =
    let first : shown_by version nonce r b ≡ y = cc in
    let rest : epochs_from (version_after b.new_nonce version) (nonce_after b.new_nonce nonce) (after r b.ops) bs ≡ earlier ++ x ∷ [] = cc in
    let later = from_split (version_after b.new_nonce version) (nonce_after b.new_nonce nonce) (after r b.ops) bs more earlier x rest in
    ap (λ (z : Shown). z ∷ epochs_from (version_after b.new_nonce version) (nonce_after b.new_nonce nonce) (after r b.ops) (bs ++ more)) first
    ∙ ap (λ (zs : List Shown). y ∷ zs) later

defined_split : (start : Start) (bs more : List Batch) (earlier : List Shown) (x : Shown) → defined start bs ≡ earlier ++ x ∷ []
    → defined start (bs ++ more) ≡ earlier ++ x ∷ epochs_from x.version x.nonce x.registry more
defined_split (opening nonce policy) bs more earlier x is = from_split 1 nonce [] bs more earlier x is
defined_split (restoring entry ops) [] more [] x is =
    let same : restored_epoch entry ops ≡ x = cc in
    subst (λ (z : Shown). restored_epoch entry ops ∷ epochs_from entry.body.version entry.body.nonce.0 (after [] ops) more
    ≡ z ∷ epochs_from z.version z.nonce z.registry more) same refl
defined_split (restoring entry ops) (b ∷ bs) more [] x is = absurd (let never = is in cc)
defined_split (restoring entry ops) bs more (y ∷ earlier) x is =
    let first : restored_epoch entry ops ≡ y = cc in
    let rest : epochs_from entry.body.version entry.body.nonce.0 (after [] ops) bs ≡ earlier ++ x ∷ [] = cc in
    ap (λ (z : Shown). z ∷ epochs_from entry.body.version entry.body.nonce.0 (after [] ops) (bs ++ more)) first
    ∙ ap (λ (zs : List Shown). y ∷ zs) (from_split entry.body.version entry.body.nonce.0 (after [] ops) bs more earlier x rest)

-- a directory restored at an epoch is alike from that epoch on
pub runs_same : (start : Start) (batches more : List Batch) (earlier : List Shown) (shown : Shown) (entry : Signed) (ops : List Operation)
    → defined start batches ≡ earlier ++ shown ∷ [] → IsAlikeEpoch shown (restored_epoch entry ops)
    → (rest : List Shown) × (defined start (batches ++ more) ≡ earlier ++ rest) × AreAlikeEpochs rest (defined (restoring entry ops) more)
runs_same start batches more earlier shown entry ops is alike = (
  shown ∷ epochs_from shown.version shown.nonce shown.registry more,
  defined_split start batches more earlier shown is,
  (alike, rw (alike.version, alike.nonce) (epochs_same entry.body.version entry.body.nonce.0 shown.registry (after [] ops) more alike.registry)),
)

-- ---- lookups

bound_in : (registry : Registry) (name : List ℕ) (b : Registered) → bound_to registry name ≡ Some b → IsIn b registry × (b.name ≡ name)
bound_in [] name b found = absurd (let never = found in cc)
bound_in (x ∷ xs) name b found = (elim (bytes_eq x.name name) as (λ v. bytes_eq x.name name ≡ v → cond v (Some x) (bound_to xs name) ≡ Some b → IsIn b (x ∷ xs) × (b.name ≡ name)) [
  | true ↦ λ on is. let same : x ≡ b = cc in (inl same, ap (λ (y : Registered). y.name) (sym same) ∙ (bytes_eq-Decides x.name name).0 on)
  | false ↦ λ off is. let ih = bound_in xs name b is in (inr ih.0, ih.1)
]) refl found

unnamed : (registry : Registry) (name : List ℕ) → bound_to registry name ≡ None → has_name registry name ≡ false
unnamed [] name none = refl
unnamed (x ∷ xs) name none = (elim (bytes_eq x.name name) as (λ v. cond v (Some x) (bound_to xs name) ≡ None → v || has_name xs name ≡ false) [
  | true ↦ λ some. absurd (let never = some in cc)
  | false ↦ λ is. unnamed xs name is
]) none

bound_of : (hash index_of : List ℕ → List ℕ) (q : Registry) (name : List ℕ) (b : Registered) → IsMap (entries_of hash index_of q) → IsIn b q → b.name ≡ name → bound_to q name ≡ Some b
bound_of hash index_of q name b is_map there named = (elim (bound_to q name) as (λ v. bound_to q name ≡ v → v ≡ Some b) [
  | None ↦ λ none. absurd (let has = has_of q name b there named in let not = unnamed q name none in cc)
  | Some c ↦ λ some.
      let i = bound_in q name c some in
      let at : index_of c.name ≡ index_of b.name = ap index_of (i.1 ∙ sym named) in
      let same = same_entry (entries_of hash index_of q) (entry_of hash index_of c) (entry_of hash index_of b) is_map (entry_in hash index_of c q i.0) (entry_in hash index_of b q there) at in
      ap Some (ap (λ (e : Entry Registered). e.behind) same)
]) refl

bound_same : (hash index_of : List ℕ → List ℕ) (r q : Registry) (name : List ℕ) → IsMap (entries_of hash index_of q) → SameBindings r q → bound_to r name ≡ bound_to q name
bound_same hash index_of r q name is_map same = (elim (bound_to r name) as (λ v. bound_to r name ≡ v → v ≡ bound_to q name) [
  | Some b ↦ λ some. let i = bound_in r name b some in sym (bound_of hash index_of q name b is_map (same.there b i.0) i.1)
  | None ↦ λ none. (elim (bound_to q name) as (λ w. bound_to q name ≡ w → None ≡ w) [
    | None ↦ λ _. refl
    | Some c ↦ λ some. absurd (let i = bound_in q name c some in let has = has_of r name c (same.back c i.0) i.1 in let not = unnamed r name none in cc)
  ]) refl
]) refl

-- in alike epochs of two directories a name has the same key, and the paths are the same
module _ (hash index_of : List ℕ → List ℕ) (s r : State) (whole : Whole hash index_of s) (other : Whole hash index_of r) (k j : ℕ) (x y : Shown)
    (at_x : slice_get (history_of s) k ≡ Some x) (at_y : slice_get (history_of r) j ≡ Some y) (alike : IsAlikeEpoch x y) where
  left_map : IsMap (entries_of hash index_of x.registry)
  left_map =
      let e = get-mapped (shown_of s.records) s.epochs k x at_x in
      subst (λ (z : Shown). IsMap (entries_of hash index_of z.registry)) e.2 (whole.stored k e.0 e.1).registry.mirrors.names

  right_map : IsMap (entries_of hash index_of y.registry)
  right_map =
      let f = get-mapped (shown_of r.records) r.epochs j y at_y in
      subst (λ (z : Shown). IsMap (entries_of hash index_of z.registry)) f.2 (other.stored j f.0 f.1).registry.mirrors.names

  pub keys_same : (name : List ℕ) → key_of x.registry name ≡ key_of y.registry name
  keys_same name = ap (option_map (λ (b : Registered). b.key)) (bound_same hash index_of x.registry y.registry name right_map alike.registry)

  pub paths_same : (index : List ℕ) (proof : Proof) → IsPath (hashing hash x.nonce) (entries_of hash index_of x.registry) index proof
      → IsPath (hashing hash y.nonce) (entries_of hash index_of y.registry) index proof
  paths_same index proof path =
      let by = hashing hash y.nonce in
      let xs = entries_of hash index_of x.registry in
      let ys = entries_of hash index_of y.registry in
      let here : IsPath by xs index proof = subst (λ (n : List ℕ). IsPath (hashing hash n) xs index proof) alike.nonce path in
      let same = entries_same hash index_of x.registry y.registry alike.registry in
      record {
        siblings_are = here.siblings_are ∙ siblings-same by [] index xs ys left_map right_map same;
        end_is = subst (λ (zs : List (Entry Registered)). EndIs index zs proof.end) (end_of-same [] index xs ys left_map right_map same) here.end_is;
      }

-- ---- nodes

-- the places of the same bindings are alike
alike_places : (hash index_of : List ℕ → List ℕ) (r q : Registry) → IsMap (entries_of hash index_of r) → IsMap (entries_of hash index_of q) → SameBindings r q
    → AreAlike (index_entries index_of r) (index_entries index_of q)
alike_places hash index_of r q left right same = record {
  there = λ e is. let i = in_places index_of e r is in (index_entry index_of i.0, place_in index_of i.0 q (same.there i.0 i.1), ap (λ (x : Numbered). x.index) i.2);
  back = λ f is. let i = in_places index_of f q is in (index_entry index_of i.0, place_in index_of i.0 r (same.back i.0 i.1), ap (λ (x : Numbered). x.index) i.2);
  one = places_map hash index_of r left;
  other = places_map hash index_of q right;
}

-- what a batch binds is registered after it
bound_has : (registry : Registry) (bs : List Registered) (c : Registered) → IsIn c bs → has_name (overlaid registry bs) c.name ≡ true
bound_has registry [] c there = absurd there
bound_has registry (b ∷ bs) c (inl here) =
    has_still (rebound registry b) bs c.name (has_of (rebound registry b) c.name b (rebound_new registry b) (ap (λ (x : Registered). x.name) here))
bound_has registry (b ∷ bs) c (inr later) = bound_has (rebound registry b) bs c later

indexed_in : (es : List (Entry Registered)) (e : Entry Registered) → IsMap es → IsIn e es → IsIndex e.index
indexed_in [] e is there = absurd there
indexed_in (x ∷ xs) e is (inl here) = subst (λ (y : Entry Registered). IsIndex y.index) here is.0
indexed_in (x ∷ xs) e is (inr later) = indexed_in xs e is.2 later

-- the index of a registered name has 32 bytes
index_known : (hash index_of : List ℕ → List ℕ) (registry : Registry) (name : List ℕ) → IsMap (entries_of hash index_of registry) → has_name registry name ≡ true
    → IsIndex (index_of name)
index_known hash index_of registry name is has =
    let n = named_of registry name has in
    subst (λ m. IsIndex (index_of m)) n.named
    (indexed_in (entries_of hash index_of registry) (entry_of hash index_of n.bound) is (entry_in hash index_of n.bound registry n.there))

places_apart : (index_of : List ℕ → List ℕ) (index : List ℕ) (bs : List Registered) → ((c : Registered) → IsIn c bs → index ≢ index_of c.name) → IsNew index (index_entries index_of bs)
places_apart index_of index [] apart = tt
places_apart index_of index (c ∷ cs) apart = (apart c (inl refl), places_apart index_of index cs (λ x is. apart x (inr is)))

changes_map : (index_of : List ℕ → List ℕ) (all : Registry) (bs : List Registered) → AreOnce bs → HaveOwnIndices index_of all
    → ((c : Registered) → IsIn c bs → has_name all c.name ≡ true) → ((c : Registered) → IsIn c bs → IsIndex (index_of c.name)) → IsMap (index_entries index_of bs)
changes_map index_of all [] once own among ranged = tt
changes_map index_of all (b ∷ bs) once own among ranged = (
  ranged b (inl refl),
  places_apart index_of (index_of b.name) bs (λ c is at.
      let same = own b.name c.name (among b (inl refl)) (among c (inr is)) at in let has = has_of bs b.name c is (sym same) in let not = once.0 in cc),
  changes_map index_of all bs once.1 own (λ c is. among c (inr is)) (λ c is. ranged c (inr is)),
)

-- the indices of a batch's names are a map
batch_map : (hash index_of : List ℕ → List ℕ) (registry : Registry) (ops : List Operation) → MayFollow index_of registry ops
    → IsMap (entries_of hash index_of (after registry ops)) → IsMap (index_entries index_of (map bound_by ops))
batch_map hash index_of registry ops may later =
    let bs = map bound_by ops in
    changes_map index_of (registry ++ bs) bs may.once may.apart (λ c is. has_of (registry ++ bs) c.name c (IsIn-append_right c registry bs is) refl)
    (λ c is. index_known hash index_of (after registry ops) c.name later (bound_has registry bs c is))

-- the same batch adds as many nodes after alike epochs
nodes_after : (hash index_of : List ℕ → List ℕ) (earlier others : List Shown) (x y : Shown) (new_nonce : Option (List ℕ)) (ops : List Operation)
    → IsMap (entries_of hash index_of x.registry) → IsMap (entries_of hash index_of y.registry)
    → IsMap (entries_of hash index_of (after x.registry ops)) → IsMap (entries_of hash index_of (after y.registry ops))
    → SameBindings x.registry y.registry → MayFollow index_of x.registry ops
    → epoch_nodes index_of (earlier ++ x ∷ []) new_nonce ops ≡ epoch_nodes index_of (others ++ y ∷ []) new_nonce ops
nodes_after hash index_of earlier others x y (Some nonce) ops left right left' right' same may =
    let lx : latest_registry (earlier ++ x ∷ []) ≡ x.registry = at_end latest_registry (λ z. z.registry) (λ z. refl) (λ a b xs. refl) earlier x in
    let ly : latest_registry (others ++ y ∷ []) ≡ y.registry = at_end latest_registry (λ z. z.registry) (λ z. refl) (λ a b xs. refl) others y in
    rw (lx, ly) (count_same [] [] (index_entries index_of (after x.registry ops)) (index_entries index_of (after y.registry ops)) nothing_alike
    (alike_places hash index_of (after x.registry ops) (after y.registry ops) left' right' (overlaid_same x.registry y.registry (map bound_by ops) same)))
nodes_after hash index_of earlier others x y None [] left right left' right' same may =
    at_end (λ h. most_nodes h 0) (λ z. 0) (λ z. refl) (λ a b xs. refl) earlier x ∙ sym (at_end (λ h. most_nodes h 0) (λ z. 0) (λ z. refl) (λ a b xs. refl) others y)
nodes_after hash index_of earlier others x y None (op ∷ ops) left right left' right' same may =
    let lx : latest_registry (earlier ++ x ∷ []) ≡ x.registry = at_end latest_registry (λ z. z.registry) (λ z. refl) (λ a b xs. refl) earlier x in
    let ly : latest_registry (others ++ y ∷ []) ≡ y.registry = at_end latest_registry (λ z. z.registry) (λ z. refl) (λ a b xs. refl) others y in
    let cs = index_entries index_of (map bound_by (op ∷ ops)) in
    let is = batch_map hash index_of x.registry (op ∷ ops) may left' in
    rw (lx, ly) (count_same (index_entries index_of x.registry) (index_entries index_of y.registry) cs cs (alike_places hash index_of x.registry y.registry left right same)
    (record { there = λ e there. (e, there, refl); back = λ e there. (e, there, refl); one = is; other = is }))

pub nodes_same : (hash index_of : List ℕ → List ℕ) (s r : State) (p q : Prepared) → Whole hash index_of s → Whole hash index_of r → IsUpdate hash index_of s p → IsUpdate hash index_of r q
    → (earlier others : List Shown) (x y : Shown) (new_nonce : Option (List ℕ)) (ops : List Operation) → history_of s ≡ earlier ++ x ∷ [] → history_of r ≡ others ++ y ∷ []
    → IsAlikeEpoch x y → first_fault index_of x.registry ops ≡ None → registry_after s p ≡ after x.registry ops → registry_after r q ≡ after y.registry ops
    → epoch_nodes index_of (history_of s) new_nonce ops ≡ epoch_nodes index_of (history_of r) new_nonce ops
nodes_same hash index_of s r p q whole other u v earlier others x y new_nonce ops is_s is_r alike none after_s after_r =
    let at_x : slice_get (history_of s) (length earlier) ≡ Some x = rw is_s (get-last earlier x) in
    let at_y : slice_get (history_of r) (length others) ≡ Some y = rw is_r (get-last others y) in
    let left = left_map hash index_of s r whole other (length earlier) (length others) x y at_x at_y alike in
    let right = right_map hash index_of s r whole other (length earlier) (length others) x y at_x at_y alike in
    let may = may_follow index_of x.registry ops (own_of_map hash index_of x.registry left) none in
    rw (is_s, is_r) (nodes_after hash index_of earlier others x y new_nonce ops left right (rw after_s at u.mirrors.names) (rw after_r at v.mirrors.names) alike.registry may)
