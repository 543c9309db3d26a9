use Rattle.std.proofs.Common.{◌≡◌, ◌∙◌, ap, ◌∷◌, [], List, ℕ}
use Rattle.coniks_proof.specs.declared.values.Head.{Head}
use Rattle.coniks_threads.specs.HeadWords.{link_of, word_at}
use Rattle.coniks_threads.proofs.ByteLemmas.{link_back}
use Rattle.coniks_threads.proofs.head_words.head_words.Goals as goal

pub returns-clause-back : goal.returns-clause-back
returns-clause-back c =
    let link : List ℕ = c.args.head.now.link.0 in
    let epoch : ℕ = c.args.head.now.epoch in
    let w : c.word.result ≡ word_at link 0 = c.word.ensures in
    let x : c.word-2.result ≡ word_at link 8 = c.word-2.ensures in
    let y : c.word-3.result ≡ word_at link 16 = c.word-3.ensures in
    let z : c.word-4.result ≡ word_at link 24 = c.word-4.ensures in
    let all : link_of (epoch ∷ c.word.result ∷ c.word-2.result ∷ c.word-3.result ∷ c.word-4.result ∷ []) ≡ link =
    (λ i. link_of (epoch ∷ w i ∷ x i ∷ y i ∷ z i ∷ [])) ∙ link_back link epoch c.known.ensures.0 c.known.ensures.1 in
    ap (λ (l : List ℕ). let h : Head = record { epoch = epoch; link = record { 0 = l } } in h) all
