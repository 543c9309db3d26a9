use Rattle.std.proofs.Common.{◌≡◌, ap, sym, subst, ◌∙◌, ◌++◌, ◌∷◌, [], slice_get}
use Rattle.coniks_tree.specs.Table.{Extends, IsLinked, table}
use Rattle.coniks_tree.proofs.PushLemmas.{Extends-append, get-last, IsLinked-push}
use Rattle.coniks_tree.proofs.attach.push_node.Goals as goal

-- the packed node is the node
put_is : (c : goal.After-put) → c.put.new.nodes.items ≡ c.args.nodes.now.items ++ c.args.node ∷ []
put_is c = c.put.ensures.items ∙ ap (λ n. c.args.nodes.now.items ++ n ∷ []) c.new.ensures

pub returns-clause-at : goal.returns-clause-at
returns-clause-at c =
    let items = c.args.nodes.now.items in
    ap (λ xs. slice_get xs c.len-number.result) (put_is c)
    ∙ ap (slice_get (items ++ c.args.node ∷ [])) (c.len-number.ensures ∙ c.args.nodes.now.ok.0) ∙ get-last items c.args.node

pub returns-clause-extends : goal.returns-clause-extends
returns-clause-extends c = subst (Extends c.args.nodes.now.items) (sym (put_is c)) (Extends-append c.args.nodes.now.items (c.args.node ∷ []))

pub returns-clause-table : goal.returns-clause-table
returns-clause-table c = λ records fits linked.
    subst (λ xs. IsLinked (table xs records)) (sym (put_is c))
    (IsLinked-push (table c.args.nodes.now.items records) c.args.node fits linked)
