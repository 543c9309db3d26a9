-- A table with one more node.
use Rattle.std.proofs.Common.{◌≡◌, ℕ, zero, suc, ◌<◌, ◌≤◌, List, [], ◌∷◌, ◌++◌, length, Bool, true, false, refl, ap, subst, ◌∙◌, arith, Some, slice_get, inl, inr, ◌⊎◌}
use Rattle.coniks_proof.specs.Bits.{child}
use Rattle.coniks_proof.specs.Entries.{half}
use Rattle.coniks_proof.specs.Tree.{node}
use Rattle.coniks_tree.specs.Table.{Numbered, NodeFits, Shows, shows_inner, IsLinked, Extends, Table, table}
use Rattle.coniks_tree.specs.Parts.{Stands, IsSubtree, Fits, entry_of_change}
use Rattle.coniks_proof.specs.Bits.{turns}
use Rattle.coniks_proof.specs.Hashing.{Hashing}
use Rattle.coniks_proof.specs.Maps.{IsMap, SameEntries}
use Rattle.coniks_proof.proofs.Lemmas.{IsMap-filter, SameEntries-filter, node-same, same_as_none, same_as_one}
use Rattle.coniks_tree.proofs.TableLemmas.{Shows-extended, Shows-same, many_in}
use Rattle.coniks_tree.specs.declared.table.Node.{Node}
use Rattle.coniks_tree.specs.declared.table.Node.TheVariants.{Leaf, Inner}
use Rattle.coniks_tree.specs.declared.table.Record.{Record}
use Rattle.coniks_tree.specs.declared.part.Subtree.{Subtree}
use Rattle.coniks_tree.specs.declared.part.Part.{Part, Nothing, Entry, Kept, Made'}

-- a list with more elements at its end extends the list
pub Extends-append : {T : Type 0} (xs ys : List T) → Extends xs (xs ++ ys)
Extends-append [] ys k v at = cc
Extends-append (x ∷ xs) ys zero v at = at
Extends-append (x ∷ xs) ys (suc k) v at = Extends-append xs ys k v at

pub Extends-trans : {T : Type 0} (xs ys zs : List T) → Extends xs ys → Extends ys zs → Extends xs zs
Extends-trans xs ys zs first second k v at = second k v (first k v at)

pub get-last : {T : Type 0} (xs : List T) (x : T) → slice_get (xs ++ x ∷ []) (length xs) ≡ Some x
get-last [] x = refl
get-last (y ∷ xs) x = get-last xs x

pub Fits-more : (n m level : ℕ) (part : Part) → n ≤ m → Fits n level part → Fits m level part
Fits-more n m level Nothing more f = f
Fits-more n m level (Entry c) more f = f
Fits-more n m level (Kept root) more f = omega arith
Fits-more n m level (Made' ptr d lh rh count l r) more f = (f.0, f.1, Fits-more n m (suc level) l more f.2, Fits-more n m (suc level) r more f.3)

pub Stands-extended : (by : Hashing) (nodes nodes' : List Node) (records : List Record) → Extends nodes nodes' → (part : Part) (p : List Bool) (es : List Numbered)
    → Stands by (table nodes records) part p es → Stands by (table nodes' records) part p es
Stands-extended by nodes nodes' records more Nothing p es s = s
Stands-extended by nodes nodes' records more (Entry c) p es s = s
Stands-extended by nodes nodes' records more (Kept root) p es s = (Shows-extended by (table nodes records) (table nodes' records) more (λ k v at. at) root.0 p es s.0, s.1)
Stands-extended by nodes nodes' records more (Made' ptr d lh rh count l r) p es s =
    record {
      many = s.many;
      is_hash = s.is_hash;
      left = record { is_hash = s.left.is_hash; stands = Stands-extended by nodes nodes' records more l (child p false) _ s.left.stands };
      right = record { is_hash = s.right.is_hash; stands = Stands-extended by nodes nodes' records more r (child p true) _ s.right.stands };
    }

-- the elements of a list with one more at its end
pub get-push : {T : Type 0} (xs : List T) (x : T) (k : ℕ) (v : T) → slice_get (xs ++ x ∷ []) k ≡ Some v → (slice_get xs k ≡ Some v) ⊎ ((k ≡ length xs) × (x ≡ v))
get-push [] x zero v at = inr (refl, cc)
get-push [] x (suc k) v at = cc
get-push (y ∷ xs) x zero v at = inl at
get-push (y ∷ xs) x (suc k) v at = elim (get-push xs x k v at) [ inl h ↦ inl h | inr h ↦ inr (ap suc h.0, h.1) ]

pub IsLinked-push : (t : Table) (new : Node) → NodeFits (length t.nodes) t.records new → IsLinked t → IsLinked (table (t.nodes ++ new ∷ []) t.records)
IsLinked-push t new fits table = record {
  lower = λ n l r d at. elim (get-push t.nodes new n (Inner l r d) at) [
    | inl old ↦ table.lower n l r d old
    | inr last ↦ let f : NodeFits (length t.nodes) t.records (Inner l r d) = subst (NodeFits (length t.nodes) t.records) last.1 fits in (omega (arith, f.0, last.0), omega (arith, f.1, last.0))
  ];
  stored = λ n place d at. elim (get-push t.nodes new n (Leaf place d) at) [
    | inl old ↦ table.stored n place d old
    | inr last ↦ subst (NodeFits (length t.nodes) t.records) last.1 fits
  ];
}

-- the entries that a new subtree represents
abbrev pub StandsMade : Hashing → Table → Subtree → List Bool → List Numbered → Type 0
StandsMade by t m p es = IsSubtree by p es m.hash m.left_hash m.right_hash (Stands by t m.left) (Stands by t m.right)

-- a new subtree, appended
pub made_shown : (by : Hashing) (nodes0 nodes1 nodes2 nodes3 : List Node) (records : List Record) (p : List Bool) (es : List Numbered) (m : Subtree) (left right n : ℕ)
    → Extends nodes0 nodes1 → Extends nodes1 nodes2 → Extends nodes2 nodes3 → slice_get nodes3 n ≡ Some (Inner left right m.hash) → length p < 256
    → StandsMade by (table nodes0 records) m p es
    → (m.left_hash.0 ≡ node by (child p false) (half false (length p) es)
    → Stands by (table nodes0 records) m.left (child p false) (half false (length p) es) → Shows by (table nodes1 records) left (child p false) (half false (length p) es))
    → (m.right_hash.0 ≡ node by (child p true) (half true (length p) es)
    → Stands by (table nodes1 records) m.right (child p true) (half true (length p) es) → Shows by (table nodes2 records) right (child p true) (half true (length p) es))
    → Shows by (table nodes3 records) n p es
made_shown by nodes0 nodes1 nodes2 nodes3 records p es m left right n e01 e12 e23 at short s shown-left shown-right =
    let l1 = shown-left s.left.is_hash s.left.stands in
    let l3 = Shows-extended by (table nodes1 records) (table nodes3 records) (Extends-trans nodes1 nodes2 nodes3 e12 e23) (λ k v h. h) left (child p false) _ l1 in
    let s1 = Stands-extended by nodes0 nodes1 records e01 m.right (child p true) _ s.right.stands in
    let r2 = shown-right s.right.is_hash s1 in
    let r3 = Shows-extended by (table nodes2 records) (table nodes3 records) e23 (λ k v h. h) right (child p true) _ r2 in
    shows_inner n p es m.hash left right at short s.many s.is_hash l3 r3

-- a part represents the same entries when records are added
pub Stands-records : (by : Hashing) (t : Table) (records' : List Record) → Extends t.records records' → (part : Part) (p : List Bool) (es : List Numbered)
    → Stands by t part p es → Stands by (table t.nodes records') part p es
Stands-records by t records' more Nothing p es s = s
Stands-records by t records' more (Entry c) p es s = s
Stands-records by t records' more (Kept root) p es s = (Shows-extended by t (table t.nodes records') (λ k v at. at) more root.0 p es s.0, s.1)
Stands-records by t records' more (Made' ptr d lh rh count l r) p es s =
    record {
      many = s.many;
      is_hash = s.is_hash;
      left = record { is_hash = s.left.is_hash; stands = Stands-records by t records' more l (child p false) _ s.left.stands };
      right = record { is_hash = s.right.is_hash; stands = Stands-records by t records' more r (child p true) _ s.right.stands };
    }

half_map : (b : Bool) (k : ℕ) (es : List Numbered) → IsMap es → IsMap (half b k es)
half_map b k es map = IsMap-filter (λ e. turns b k e.index) es map

half_same : (b : Bool) (k : ℕ) (es fs : List Numbered) → SameEntries es fs → SameEntries (half b k es) (half b k fs)
half_same b k es fs same = SameEntries-filter (λ e. turns b k e.index) es fs same

-- what a part represents does not depend on the order of the map's entries
pub Stands-same : (by : Hashing) (t : Table) (part : Part) (p : List Bool) (es fs : List Numbered)
    → IsMap es → IsMap fs → SameEntries es fs → Stands by t part p es → Stands by t part p fs
Stands-same by t Nothing p es fs me mf same s = same_as_none fs (subst (λ xs. SameEntries xs fs) s same)
Stands-same by t (Entry c) p es fs me mf same s = same_as_one (entry_of_change c) fs mf (subst (λ xs. SameEntries xs fs) s same)
Stands-same by t (Kept root) p es fs me mf same s =
    (Shows-same by t root.0 p es fs me mf same s.0, λ below. many_in es fs me mf same (s.1 below))
Stands-same by t (Made' ptr d lh rh count l r) p es fs me mf same s =
    let k = length p in
    let at : (b : Bool) → node by (child p b) (half b k es) ≡ node by (child p b) (half b k fs) =
    λ b. node-same by (child p b) (half b k es) (half b k fs) (half_map b k es me) (half_map b k fs mf) (half_same b k es fs same) in
    record {
      many = many_in es fs me mf same s.many;
      is_hash = s.is_hash ∙ node-same by p es fs me mf same;
      left = record {
        is_hash = s.left.is_hash ∙ at false;
        stands = Stands-same by t l (child p false) (half false k es) (half false k fs)
            (half_map false k es me) (half_map false k fs mf) (half_same false k es fs same) s.left.stands;
      };
      right = record {
        is_hash = s.right.is_hash ∙ at true;
        stands = Stands-same by t r (child p true) (half true k es) (half true k fs) (half_map true k es me) (half_map true k fs mf) (half_same true k es fs same) s.right.stands;
      };
    }
