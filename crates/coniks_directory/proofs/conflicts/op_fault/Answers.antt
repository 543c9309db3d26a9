use Rattle.std.proofs.Common.{◌≡◌, true, false, is_some, option_map, ap, refl, sym, ◌∙◌, ◌||◌}
use Rattle.coniks_directory.proofs.Words.{fault_is, has_name, kind_fault, op_kind, operation_of, or_right}
use Rattle.coniks_directory.proofs.HolderLemmas.{clash_some}
use Rattle.coniks_directory.proofs.JudgeLemmas.{at_clash}
use Rattle.coniks_directory.proofs.conflicts.op_fault.Goals.{then-is_other-via-then-is_other, then-is_other-via-else-is_other+then-is_some}
use Rattle.coniks_directory.proofs.conflicts.op_fault.Goals as goal

pub returns-then-is_named-clause-fault : goal.returns-then-is_named-clause-fault
returns-then-is_named-clause-fault c = λ index_of registry before p e. rw (c.requires.named, c.requires.keyed, ← c.is_named.ensures index_of before e, c.if-is_named.true) refl

pub returns-in-Some-clause-fault : goal.returns-in-Some-clause-fault
returns-in-Some-clause-fault c = λ index_of registry before p e.
    let kind : kind_fault (op_kind c.args.op.now.kind) c.is_named-2.result ≡ option_map fault_is c.fault_of_kind.result = sym c.fault_of_kind.ensures in
    rw (c.requires.named, c.requires.keyed, ← c.is_named.ensures index_of before e, c.if-is_named.false, ← c.is_named-2.ensures index_of registry p, kind, c.in-Some.is) refl

-- the name isn't among the earlier ones, and the kind has no error: only a clash is left
pub returns-then-is_other-clause-fault : goal.returns-then-is_other-clause-fault
returns-then-is_other-clause-fault c = λ index_of registry before p e.
    let op = c.args.op.now in
    let once : has_name before op.name ≡ false = sym (c.is_named.ensures index_of before e) ∙ c.if-is_named.false in
    let either : c.is_other.result || is_some c.args.earlier ≡ true = elim c.then-is_other.branch [
      | then-is_other-via-then-is_other w ↦ ap (λ v. v || is_some c.args.earlier) w.if-is_other.true
      | then-is_other-via-else-is_other+then-is_some w ↦ or_right c.is_other.result (is_some c.args.earlier) (sym w.is_some.ensures ∙ w.if-is_some.true)
    ] in
    sym (at_clash index_of registry before (operation_of op) c.requires.named c.requires.keyed c.is_other.result (is_some c.args.earlier) true once
    (ap (kind_fault (op_kind op.kind)) (sym (c.is_named-2.ensures index_of registry p)) ∙ sym c.fault_of_kind.ensures ∙ ap (option_map fault_is) c.in_default.is)
    (sym (c.is_other.ensures index_of registry p)) (clash_some index_of before op.name c.args.earlier e once) either)

pub returns-clause-fault : goal.returns-clause-fault
returns-clause-fault c = λ index_of registry before p e.
    let op = c.args.op.now in
    let once : has_name before op.name ≡ false = sym (c.is_named.ensures index_of before e) ∙ c.if-is_named.false in
    sym (at_clash index_of registry before (operation_of op) c.requires.named c.requires.keyed c.is_other.result (is_some c.args.earlier) false once
    (ap (kind_fault (op_kind op.kind)) (sym (c.is_named-2.ensures index_of registry p)) ∙ sym c.fault_of_kind.ensures ∙ ap (option_map fault_is) c.in_default.is)
    (sym (c.is_other.ensures index_of registry p)) (clash_some index_of before op.name c.args.earlier e once)
    (ap (λ v. v || is_some c.args.earlier) c.if-is_other.false ∙ sym c.is_some.ensures ∙ c.if-is_some.false))
