-- Lines that are audited one after another.
use Rattle.std.proofs.Common.{◌≡◌, ℕ, zero, suc, List, [], ◌∷◌, ◌++◌, map, Bool, true, false, Option, Some, None, refl, sym, ap, subst, ◌∙◌}
use Rattle.std.specs.Prelude.{◌↔◌, is_some, slice_get, option_and_then, Result, Ok, Err, IfOk}
use Rattle.std.specs.Option.{option_map_or}
use Rattle.std.proofs.lemmas.Option.{same_Some}
use Rattle.std.proofs.lemmas.Bool.{and_parts, false≢true}
use Rattle.serde_json.specs.Data.{Data}
use Rattle.coniks_lines.specs.Known.{Sink}
use Rattle.coniks_lines.specs.Lines.{lines_of}
use Rattle.coniks_lines.specs.Machine.{all_accepted}
use Rattle.coniks_lines.specs.Runs.{AnswersAll}
use Rattle.coniks_lines.specs.declared.fault.LineFault.{LineFault}
use Rattle.coniks_programs.specs.Faults.{of_run}
use Rattle.coniks_proof.specs.Sha256.{sha256}
use Rattle.coniks_chain.specs.declared.entry.Entry.{Entry}
use Rattle.coniks_chain.specs.declared.auditor.AuditorState.{AuditorState}
use Rattle.coniks_chain.specs.declared.auditor.AuditFault.{AuditFault}
use Rattle.coniks_chain.specs.Chain.{Continues, Follows, before_at, auditor_after}
use Rattle.coniks_programs.specs.Members.{object_in}
use Rattle.coniks_tool.specs.Seal.{is_seal}
use Rattle.coniks_programs.specs.EntryLines.{entry_in, entry_on}
use Rattle.coniks_tool.specs.AuditFaults.{audit_fault}
use Rattle.coniks_tool.specs.AuditReplies.{is_audited, not_json}
use Rattle.coniks_tool.specs.Audit.{AuditState, AuditTurn, none_audited, judged_turn, entry_turn, audit_turn, audit_answer}
use Rattle.coniks_programs.specs.Turns.{refused}
use Rattle.coniks_tool.specs.AuditChain.{HoldsGoodChain, if_accepted, accepted_entries}
use Rattle.coniks_tool.proofs.AuditFaultLemmas.{follows-none, none-follows}

-- the state after an accepted entry
abbrev after : AuditState → Entry → AuditState
after s e = record { key = s.key; before = Some (auditor_after sha256 e) }

-- the line contains this entry, it has no error, and this is the state after it
record IsTaken (s : AuditState) (found : Option Entry) (state : AuditState) : Type 0 where
  pub entry : Entry
  pub there : found ≡ Some entry
  pub faultless : audit_fault (is_seal s.key) s.before entry ≡ None
  pub then_is : state ≡ after s entry

-- an accepted turn takes the entry, and a refused one leaves the state unchanged
abbrev Says : AuditState → Option Entry → AuditTurn → Type 0
Says s found t = (is_audited t.outcome ≡ true → IsTaken s found t.state) × (is_audited t.outcome ≡ false → t.state ≡ s)

judged_says : (s : AuditState) (e : Entry) (f : Option AuditFault) → audit_fault (is_seal s.key) s.before e ≡ f → Says s (Some e) (judged_turn s e f)
judged_says s e (Some fault) is = (λ no. absurd (false≢true no), λ _. refl)
judged_says s e None is = (λ _. record { entry = e; there = refl; faultless = is; then_is = refl }, λ no. absurd (false≢true (sym no)))

entry_says : (s : AuditState) (found : Option Entry) → Says s found (entry_turn s found)
entry_says s None = (λ no. absurd (false≢true no), λ _. refl)
entry_says s (Some e) = judged_says s e (audit_fault (is_seal s.key) s.before e) refl

object_says : (s : AuditState) (object : Option Data) → Says s (option_and_then entry_in object) (option_map_or (λ d. entry_turn s (entry_in d)) object (refused s not_json))
object_says s None = (λ no. absurd (false≢true no), λ _. refl)
object_says s (Some d) = entry_says s (entry_in d)

line_says : (s : AuditState) (line : List ℕ) → Says s (entry_on line) (audit_turn s line)
line_says s line = object_says s (object_in line)

-- an entry with no error is accepted
abbrev Takes : AuditState → Entry → AuditTurn → Type 0
Takes s e t = (is_audited t.outcome ≡ true) × (t.state ≡ after s e)

takes_entry : (s : AuditState) (e : Entry) → audit_fault (is_seal s.key) s.before e ≡ None → Takes s e (entry_turn s (Some e))
takes_entry s e none = subst (λ f. Takes s e (judged_turn s e f)) (sym none) (refl, refl)

takes_object : (s : AuditState) (object : Option Data) (e : Entry) → option_and_then entry_in object ≡ Some e → audit_fault (is_seal s.key) s.before e ≡ None
    → Takes s e (option_map_or (λ d. entry_turn s (entry_in d)) object (refused s not_json))
takes_object s None e there none = absurd (false≢true (ap is_some there))
takes_object s (Some d) e there none = subst (λ found. Takes s e (entry_turn s found)) (sym there) (takes_entry s e none)

-- an entry, followed by others that continue after it
continues-cons : (hash : List ℕ → List ℕ) (v : List ℕ → List ℕ → Bool) (start : Option AuditorState) (e : Entry) (es : List Entry) → Follows v start e → Continues hash v (Some (auditor_after hash e)) es
    → (k : ℕ) (x : Entry) → slice_get (e ∷ es) k ≡ Some x → Follows v (before_at hash start (e ∷ es) k) x
continues-cons hash v start e es follows rest zero x at = subst (λ y. Follows v start y) (same_Some e x at) follows
continues-cons hash v start e es follows rest (suc zero) x at = rest zero x at
continues-cons hash v start e es follows rest (suc (suc k)) x at = rest (suc k) x at

continues-tail : (hash : List ℕ → List ℕ) (v : List ℕ → List ℕ → Bool) (start : Option AuditorState) (e : Entry) (es : List Entry) → Continues hash v start (e ∷ es)
    → (k : ℕ) (x : Entry) → slice_get es k ≡ Some x → Follows v (before_at hash (Some (auditor_after hash e)) es k) x
continues-tail hash v start e es all zero x at = all (suc zero) x at
continues-tail hash v start e es all (suc k) x at = all (suc (suc k)) x at

-- the entries continue from a state
abbrev GoesOn : AuditState → List Entry → Type 0
GoesOn s es = Continues sha256 (is_seal s.key) s.before es

goes_on-cons : (s state : AuditState) (e : Entry) (es : List Entry) → audit_fault (is_seal s.key) s.before e ≡ None → state ≡ after s e → GoesOn state es → GoesOn s (e ∷ es)
goes_on-cons s state e es none then_is rest =
    let moved : GoesOn (after s e) es = subst (λ t. GoesOn t es) then_is rest in
    continues-cons sha256 (is_seal s.key) s.before e es (none-follows (is_seal s.key) s.before e none) moved

-- with the next line, the accepted entries continue
chain_step : (s : AuditState) (line : List ℕ) (es : List Entry) (m : Bool) → is_audited (audit_turn s line).outcome ≡ m
    → GoesOn (audit_turn s line).state es → GoesOn s (if_accepted m (entry_on line) ++ es)
chain_step s line es true is rest =
    let t = (line_says s line).0 is in
    rw t.there (goes_on-cons s (audit_turn s line).state t.entry es t.faultless t.then_is rest)
chain_step s line es false is rest = subst (λ state. GoesOn state es) ((line_says s line).1 is) rest

pub accepted-chain : (s : AuditState) (lines : List (List ℕ)) → GoesOn s (accepted_entries s lines)
accepted-chain s [] = λ k e at. absurd (false≢true (ap is_some at))
accepted-chain s (line ∷ lines) =
    chain_step s line (accepted_entries (audit_turn s line).state lines) (is_audited (audit_turn s line).outcome) refl (accepted-chain (audit_turn s line).state lines)

-- each line contains an entry, and the entries continue from a state
record HoldsOn (s : AuditState) (lines : List (List ℕ)) : Type 0 where
  pub entries : List Entry
  pub stored : map entry_on lines ≡ map Some entries
  pub good : GoesOn s entries

all-holds : (s : AuditState) (lines : List (List ℕ)) → all_accepted audit_answer s lines ≡ true → HoldsOn s lines
all-holds s [] all = record { entries = []; stored = refl; good = λ k e at. absurd (false≢true (ap is_some at)) }
all-holds s (line ∷ lines) all =
    let t = audit_turn s line in
    let two = and_parts (is_audited t.outcome) (all_accepted audit_answer t.state lines) all in
    let taken = (line_says s line).0 two.0 in
    let rest = all-holds t.state lines two.1 in
    let stored : entry_on line ∷ map entry_on lines ≡ Some taken.entry ∷ map Some rest.entries = rw (taken.there, rest.stored) refl in
    record { entries = taken.entry ∷ rest.entries; stored = stored; good = goes_on-cons s t.state taken.entry rest.entries taken.faultless taken.then_is rest.good }

first_same : (a b : Option Entry) (xs ys : List (Option Entry)) → a ∷ xs ≡ b ∷ ys → a ≡ b
first_same a b xs ys same = cc

rest_same : (a b : Option Entry) (xs ys : List (Option Entry)) → a ∷ xs ≡ b ∷ ys → xs ≡ ys
rest_same a b xs ys same = cc

is_empty : List (Option Entry) → Bool
is_empty [] = true
is_empty (x ∷ xs) = false

none_stored : (x : Option Entry) (xs : List (Option Entry)) → x ∷ xs ≡ [] → ⊥
unfolding is_empty
none_stored x xs same = false≢true (ap is_empty same)

holds-all : (s : AuditState) (lines : List (List ℕ)) (es : List Entry) → map entry_on lines ≡ map Some es → GoesOn s es → all_accepted audit_answer s lines ≡ true
holds-all s [] es stored good = refl
holds-all s (line ∷ lines) [] stored good = absurd (none_stored (entry_on line) (map entry_on lines) stored)
holds-all s (line ∷ lines) (e ∷ es) stored good =
    let there = first_same (entry_on line) (Some e) (map entry_on lines) (map Some es) stored in
    let took = takes_object s (object_in line) e there (follows-none (is_seal s.key) s.before e (good zero e refl)) in
    let rest : GoesOn (audit_turn s line).state es = subst (λ state. GoesOn state es) (sym took.1) (continues-tail sha256 (is_seal s.key) s.before e es good) in
    rw took.0 (holds-all (audit_turn s line).state lines es (rest_same (entry_on line) (Some e) (map entry_on lines) (map Some es) stored) rest)

-- a run that replies to all lines returns true exactly if the lines contain a good chain
pub all-chain : (key input : List ℕ) (old new : Sink) (start state : AuditState) (result : Result Bool LineFault)
    → start ≡ none_audited key → IfOk result (AnswersAll audit_answer start input old new state)
    → IfOk (of_run result) (λ all. (all ≡ true) ↔ HoldsGoodChain key (lines_of input))
all-chain key input old new start state (Ok all) at answers =
    let all_is : all ≡ all_accepted audit_answer (none_audited key) (lines_of input) = subst (λ (s : AuditState). all ≡ all_accepted audit_answer s (lines_of input)) at answers.all_is in (
      λ is.
          let h = all-holds (none_audited key) (lines_of input) (sym all_is ∙ is) in
          record { entries = h.entries; stored = h.stored; good = h.good },
      λ h. all_is ∙ holds-all (none_audited key) (lines_of input) h.entries h.stored h.good,
    )
all-chain key input old new start state (Err fault) at answers = tt
