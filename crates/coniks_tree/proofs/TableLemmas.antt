-- What a table shows: its hashes, and that an extended table shows the same.
use Rattle.std.proofs.Common.{◌≡◌, ℕ, ◌≤◌, List, [], ◌∷◌, length, Bool, true, false, ap, subst, ◌∙◌, arith, Some, slice_get}
use Rattle.coniks_proof.specs.Entries.{half}
use Rattle.coniks_proof.specs.Tree.{node}
use Rattle.coniks_proof.specs.Bits.{turns}
use Rattle.coniks_proof.specs.Hashing.{Hashing}
use Rattle.coniks_proof.specs.Maps.{IsMap, SameEntries}
use Rattle.coniks_proof.proofs.Lemmas.{IsMap-filter, SameEntries-filter, SameEntries-sym, node-same, same_as_none, same_as_one}
use Rattle.coniks_tree.specs.Table.{Numbered, Shows, shows_empty, shows_leaf, shows_inner, hash_of_node, entry_of_record, Extends, Table}
use Rattle.coniks_tree.specs.declared.table.Node.{Node}
use Rattle.coniks_tree.specs.declared.table.Node.TheVariants.{Empty, Leaf, Inner}

-- the hash of a node at a prefix
pub Shows-hash : (by : Hashing) (t : Table) (n : ℕ) (p : List Bool) (es : List Numbered) (v : Node)
    → Shows by t n p es → slice_get t.nodes n ≡ Some v → (hash_of_node v).0 ≡ node by p es
Shows-hash by t _ _ _ v (shows_empty n p es d at none is) here =
    let same : v ≡ Empty d = cc in ap (λ w. (hash_of_node w).0) same ∙ is
Shows-hash by t _ _ _ v (shows_leaf n p es d place r at stored one is) here =
    let same : v ≡ Leaf place d = cc in ap (λ w. (hash_of_node w).0) same ∙ is
Shows-hash by t _ _ _ v (shows_inner n p es d l r at short many is left right) here =
    let same : v ≡ Inner l r d = cc in ap (λ w. (hash_of_node w).0) same ∙ is

-- a node shows the same in an extended table
pub Shows-extended : (by : Hashing) (t further : Table) → Extends t.nodes further.nodes → Extends t.records further.records
    → (n : ℕ) (p : List Bool) (es : List Numbered) → Shows by t n p es → Shows by further n p es
Shows-extended by t further more more' _ _ _ (shows_empty n p es d at none is) =
    shows_empty n p es d (more n (Empty d) at) none is
Shows-extended by t further more more' _ _ _ (shows_leaf n p es d place r at stored one is) =
    shows_leaf n p es d place r (more n (Leaf place d) at) (more' place.0 r stored) one is
Shows-extended by t further more more' _ _ _ (shows_inner n p es d l r at short many is left right) =
    shows_inner n p es d l r (more n (Inner l r d) at) short many is
    (Shows-extended by t further more more' l _ _ left)
    (Shows-extended by t further more more' r _ _ right)

pub many_in : (es fs : List Numbered) → IsMap es → IsMap fs → SameEntries es fs → 2 ≤ length es → 2 ≤ length fs
many_in es [] me mf same many = absurd (omega (arith, ap length (same_as_none es (SameEntries-sym es [] same)), many))
many_in es (f ∷ []) me mf same many = absurd (omega (arith, ap length (same_as_one f es me (SameEntries-sym es (f ∷ []) same)), many))
many_in es (f ∷ g ∷ fs) me mf same many = omega arith

-- what a root shows does not depend on the order of the map's entries
pub Shows-same : (by : Hashing) (t : Table) (n : ℕ) (p : List Bool) (es fs : List Numbered)
    → IsMap es → IsMap fs → SameEntries es fs → Shows by t n p es → Shows by t n p fs
Shows-same by t _ _ _ fs me mf same (shows_empty n p es d at none is) =
    let none' : fs ≡ [] = same_as_none fs (subst (λ xs. SameEntries xs fs) none same) in
    shows_empty n p fs d at none' (is ∙ node-same by p es fs me mf same)
Shows-same by t _ _ _ fs me mf same (shows_leaf n p es d place r at stored one is) =
    let one' : fs ≡ entry_of_record place.0 r ∷ [] = same_as_one (entry_of_record place.0 r) fs mf (subst (λ xs. SameEntries xs fs) one same) in
    shows_leaf n p fs d place r at stored one' (is ∙ node-same by p es fs me mf same)
Shows-same by t _ _ _ fs me mf same (shows_inner n p es d l r at short many is left right) =
    let side : (b : Bool) → Numbered → Bool = λ b e. turns b (length p) e.index in
    shows_inner n p fs d l r at short (many_in es fs me mf same many) (is ∙ node-same by p es fs me mf same)
    (Shows-same by t l _ (half false (length p) es) (half false (length p) fs)
    (IsMap-filter (side false) es me) (IsMap-filter (side false) fs mf) (SameEntries-filter (side false) es fs same) left)
    (Shows-same by t r _ (half true (length p) es) (half true (length p) fs)
    (IsMap-filter (side true) es me) (IsMap-filter (side true) fs mf) (SameEntries-filter (side true) es fs same) right)
