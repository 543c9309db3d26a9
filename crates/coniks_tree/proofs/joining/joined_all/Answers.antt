use Rattle.std.proofs.Common.{◌≡◌, ◌∷◌, ◌++◌, [], length, ap, arith}
use Rattle.std.proofs.lemmas.List.{nil_from_length}
use Rattle.coniks_tree.proofs.JoinLemmas.{Closing-step, Closing-end}
use Rattle.coniks_tree.proofs.joining.joined_all.Goals as goal

pub loop-one-preserved : goal.loop-one-preserved
loop-one-preserved c =
    let popped : c.loop-one.halved.items ≡ c.in-Some.one ∷ c.pop_front.new.self.items = c.in-Some.ensures.items in
    let pushed : c.push_back.new.self.items ≡ c.loop-one.parts.items ++ c.in_ok-joined.field-0 ∷ [] = c.in_ok-push_back.ensures.items in
    let first = c.first_hash-hash.ensures in
    record {
      enough = omega (arith, ap length popped, ap length first, c.loop-one.invariant.enough);
      so_far = λ by t fits halved hashed. Closing-step by t _ c.loop-one.halved.items c.pop_front.new.self.items c.in-Some.one c.loop-one.hashes.items c.first_hash-hash.new.hashes.items
          c.first_hash-hash.result
          c.loop-one.parts.items c.push_back.new.self.items c.in_ok-joined.field-0 popped first pushed
          (λ fits-one halved-one hashed-one. record {
            fits = c.in_ok-joined.ensures.fits (length t.nodes) fits-one;
            count = c.in_ok-joined.ensures.count;
            new = c.in_ok-joined.ensures.new;
            keeps = c.in_ok-joined.ensures.keeps;
            placed = c.in_ok-joined.ensures.placed;
            stands = λ entries. c.in_ok-joined.ensures.stands by t entries fits-one.short halved-one hashed-one;
          })
          (c.loop-one.invariant.so_far by t fits halved hashed);
    }

pub returns : goal.returns
returns c = λ by t fits halved hashed.
    let none : c.loop-one.halved.items ≡ [] = nil_from_length c.loop-one.halved.items (omega (arith, c.in_default.ensures.cases)) in
    Closing-end by t _ c.loop-one.halved.items c.loop-one.hashes.items c.loop-one.parts.items none (c.loop-one.invariant.so_far by t fits halved hashed)
