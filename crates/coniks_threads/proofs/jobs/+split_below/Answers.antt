use Rattle.std.proofs.Common.{◌<◌, ◌+◌, length, ap, arith}
use Rattle.std.proofs.lemmas.List.{length-map}
use Rattle.std.proofs.lemmas.Bool.Decides.{nat_tests}
use Rattle.std.proofs.lemmas.Grind.{common_steps}
use Rattle.coniks_tree.specs.Parts.{entries_in, entry_of_change}
use Rattle.coniks_threads.proofs.JobLemmas.{split_both}
use Rattle.coniks_threads.proofs.jobs.+split_below.Goals as goal

pub returns : goal.returns
returns t c =
    let es = entries_in c.args.changes.now in
    let at = c.len-level.ensures.len in
    let some : 0 < length es = grind (arith, nat_tests, c.is_empty.ensures, c.if-is_empty.false, length-map c.args.changes.now entry_of_change) in
    split_both c.args.depth c.len-level.result c.args.from _ c.args.prefix c.child.result c.child-2.result es (entries_in c.sides.result.0.now) (entries_in c.sides.result.1.now)
    c.args.jobs.now.items c.split_below.new.jobs.items c.split_below-2.new.jobs.items at (omega (arith, at, c.requires.depth.0, c.if-level-depth.false)) some
    c.child.ensures c.child-2.ensures c.sides.ensures.front c.sides.ensures.back (ap (λ n. c.args.from + n) c.sides.ensures.cut) c.in_ok-split_below.ensures c.in_ok-split_below-2.ensures

pub returns-then-level-depth : goal.returns-then-level-depth
returns-then-level-depth t c = grind (arith, common_steps)
