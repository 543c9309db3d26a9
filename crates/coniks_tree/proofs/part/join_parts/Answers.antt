use Rattle.std.proofs.Common.{ap, ◌∙◌, sym, subst, length, Bool, true, false, ◌≡◌, ◌+◌, ◌≤◌, ℕ, List, arith}
use Rattle.coniks_proof.specs.Bits.{child}
use Rattle.coniks_proof.specs.Entries.{half}
use Rattle.coniks_proof.specs.Hashing.{hashing}
use Rattle.coniks_proof.specs.Tree.{node}
use Rattle.coniks_tree.specs.Trees.{table_of}
use Rattle.coniks_tree.specs.Parts.{Stands, weight_of}
use Rattle.coniks_tree.proofs.CountLemmas.{joined-heavy, joined-light, light-count}
use Rattle.coniks_tree.proofs.PartLemmas.{hash_made, join_many, join_left, join_right}
use Rattle.coniks_tree.proofs.part.join_parts.Goals as goal

pub returns-then-weight_left-eq1-clause-stands : goal.returns-then-weight_left-eq1-clause-stands
returns-then-weight_left-eq1-clause-stands g c = λ entries sl sr.
    join_left _ (table_of c.args.base.now.tree.now) c.args.left c.args.right c.args.prefix.now entries (omega arith) (omega arith) sl sr

pub returns-then-weight_left-weight-lt2-clause-stands : goal.returns-then-weight_left-weight-lt2-clause-stands
returns-then-weight_left-weight-lt2-clause-stands g c = λ entries sl sr.
    join_right _ (table_of c.args.base.now.tree.now) c.args.left c.args.right c.args.prefix.now entries (omega arith) (omega arith) sl sr

pub returns-clause-stands : goal.returns-clause-stands
returns-clause-stands g c = λ entries sl sr.
    let by = hashing (g.H.Hash32.digest_of c.args.base.now.h.now) c.args.base.now.nonce.now.0 in
    let t = table_of c.args.base.now.tree.now in
    let p = c.args.prefix.now in
    let heavy : 2 ≤ weight_of c.args.left + weight_of c.args.right = omega arith in
    let many = join_many by t c.args.left c.args.right p entries heavy sl sr in
    let left = c.hash_at-left_hash.ensures (half false (length p) entries)
    (subst (λ q. Stands by t c.args.left q (half false (length p) entries)) (sym c.child.ensures) sl) in
    let right = c.hash_at-right_hash.ensures (half true (length p) entries)
    (subst (λ q. Stands by t c.args.right q (half true (length p) entries)) (sym c.child-2.ensures) sr) in
    let below : Bool → List Bool → List ℕ = λ b q. node by q (half b (length p) entries) in
    let left-at : c.hash_at-left_hash.result.0 ≡ below false (child p false) = left ∙ ap (below false) c.child.ensures in
    let right-at : c.hash_at-right_hash.result.0 ≡ below true (child p true) = right ∙ ap (below true) c.child-2.ensures in
    c.in_ok-made.ensures.stands by t p entries
    (record {
      many = many;
      is_hash = hash_made by p c.child.result c.child-2.result entries _ _ _ c.requires.short many c.child.ensures c.child-2.ensures c.inner_hash.ensures left right;
      left = record { is_hash = left-at; stands = sl };
      right = record { is_hash = right-at; stands = sr };
    })

pub returns-then-weight_left-eq1-clause-new : goal.returns-then-weight_left-eq1-clause-new
returns-then-weight_left-eq1-clause-new g c = light-count c.args.left (omega arith) ∙ sym (joined-light c.args.left c.args.right (omega arith))

pub returns-then-weight_left-weight-lt2-clause-new : goal.returns-then-weight_left-weight-lt2-clause-new
returns-then-weight_left-weight-lt2-clause-new g c = light-count c.args.right (omega arith) ∙ sym (joined-light c.args.left c.args.right (omega arith))

pub returns-clause-new : goal.returns-clause-new
returns-clause-new g c = c.in_ok-made.ensures.count ∙ sym (joined-heavy c.args.left c.args.right (omega arith))
