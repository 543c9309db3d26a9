use Rattle.std.proofs.Common.{◌∙◌, ap, ◌++◌, List, ℕ, append-nil, []}
use Rattle.coniks_threads.proofs.ByteLemmas.{eight_is}
use Rattle.coniks_threads.proofs.head_words.joined.Goals as goal

pub returns : goal.returns
returns c =
    let r = c.requires in
    eight_is c.args.a.now _ r.0 ∙ ap (λ (l : List ℕ). c.args.a.now ++ l)
    (eight_is c.args.b.now _ r.1 ∙ ap (λ (l : List ℕ). c.args.b.now ++ l)
    (eight_is c.args.c.now _ r.2 ∙ ap (λ (l : List ℕ). c.args.c.now ++ l) (eight_is c.args.d.now [] r.3 ∙ append-nil c.args.d.now)))
