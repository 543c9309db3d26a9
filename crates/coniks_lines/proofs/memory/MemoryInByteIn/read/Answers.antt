use Rattle.std.proofs.Common.{◌≡◌, ℕ, ◌+◌, ◌-◌, List, ◌≤◌, length, take, drop, ◌++◌, arith, refl, ap, sym, ◌∙◌}
use Rattle.std.proofs.lemmas.Grind.{common_steps}
use Rattle.std.proofs.lemmas.List.{take-append-drop, drop-drop, length-take, take_at, take_rest}
use Rattle.coniks_lines.proofs.memory.MemoryInByteIn.read.Goals as goal

-- what is copied, and then what is left, is what was left before
parts : (bytes front tail : List ℕ) (at n : ℕ) → n ≤ length (drop at bytes) → front ≡ take n (drop at bytes)
    → drop at bytes ≡ take n (front ++ tail) ++ drop (at + n) bytes
parts bytes front tail at n fits is =
    let len : length front ≡ n = ap length is ∙ length-take n (drop at bytes) ∙ omega arith in
    let front_is : take n (front ++ tail) ≡ take n (drop at bytes) = take_at front tail n len ∙ is in
    let rest_is : drop (at + n) bytes ≡ drop n (drop at bytes) = sym (drop-drop n at bytes) in
    rw (front_is, rest_is) (sym (take-append-drop n (drop at bytes)))

pub returns-else-count-eq0-clause-taken : goal.returns-else-count-eq0-clause-taken
returns-else-count-eq0-clause-taken c =
    let bytes = c.args.self.now.bytes.items in
    let at = c.args.self.now.at in
    let whole : take (length bytes - at) (drop at bytes) ≡ drop at bytes = take_rest bytes at in
    let slice : take (length c.deref.result.now - at) (drop at c.deref.result.now) ≡ drop at bytes = rw c.deref.ensures.value whole in
    let k = c.min-count.ensures in
    let fits : c.min-count.result ≤ length (drop at bytes) = omega (arith, k, ap length slice) in
    let is : c.copy_from_slice.new.self ≡ take c.min-count.result (drop at bytes) = c.copy_from_slice.ensures.after ∙ ap (take c.min-count.result) slice in
    parts bytes c.copy_from_slice.new.self (drop c.min-count.result c.args.buffer.now) at c.min-count.result fits is

pub returns-then-count-eq0-clause-none_left : goal.returns-then-count-eq0-clause-none_left
returns-then-count-eq0-clause-none_left c = grind (arith, common_steps)

pub returns-then-count-eq0-clause-ends : goal.returns-then-count-eq0-clause-ends
returns-then-count-eq0-clause-ends c = rw c.if-count-eq0.true refl
