use Rattle.std.proofs.Common.{◌≡◌, ℕ, List, Bool, true, false, refl, sym, ◌∙◌, subst}
use Rattle.std.specs.Prelude.{None, is_some, IsTrue}
use Rattle.std.specs.Str.{is_utf8}
use Rattle.std.proofs.lemmas.Str.{is_utf8-from_IsUtf8, IsUtf8-from_is_utf8}
use Rattle.std.proofs.lemmas.Bool.{false≢true}
use Rattle.serde_json.specs.Read.{read}
use Rattle.serde_json.specs.Errors.{IsMemory}
use Rattle.serde_json.specs.Find.{as_object}
use Rattle.serde_json.specs.View.{view}
use Rattle.coniks_programs.specs.Members.{object_in}
use Rattle.coniks_programs.proofs.members.read_object.Goals as goal

pub returns-then-is_object : goal.returns-then-is_object
returns-then-is_object c =
    let reported = c.in-Ok.ensures.ok in
    let utf8 = is_utf8-from_IsUtf8 c.args.line.now reported.0 in
    let is_object : is_some (as_object (view c.in-Ok.value)) ≡ true = sym c.is_object.ensures ∙ c.if-is_object.true in
    rw (utf8, reported.1, is_object) refl

-- a line that can't be parsed contains no object
no_object : (line : List ℕ) (b : Bool) → is_utf8 line ≡ b → (b ≡ true → read line ≡ None) → None ≡ object_in line
no_object line true utf8 none = let n = none refl in rw (utf8, n) refl
no_object line false utf8 none = rw utf8 refl

pub returns-else-is_memory : goal.returns-else-is_memory
returns-else-is_memory c =
    let not_memory : IsMemory c.in-Err.error → ⊥ = λ m. false≢true (subst IsTrue c.if-is_memory.false (c.is_memory.ensures.1 m)) in
    no_object c.args.line.now (is_utf8 c.args.line.now) refl (λ utf8. c.in-Err.ensures.err not_memory (IsUtf8-from_is_utf8 c.args.line.now utf8))
