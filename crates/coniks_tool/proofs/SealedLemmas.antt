-- Chains under the demonstration seal.
use Rattle.std.proofs.Common.{◌≡◌, ℕ, zero, suc, List, [], ◌∷◌, ◌++◌, length, Bool, true, refl, sym, ap, ◌∙◌, arith, Option, Some, None, slice_get}
use Rattle.std.proofs.lemmas.Slice.Eq.{bytes_eq-Decides}
use Rattle.coniks_chain.specs.Chain.{Follows, GoodChain, before_at, auditor_after}
use Rattle.coniks_chain.specs.Entries.{body_bytes, signed}
use Rattle.coniks_chain.specs.declared.auditor.AuditorState.{AuditorState}
use Rattle.coniks_chain.specs.declared.entry.Body.{Body}
use Rattle.coniks_chain.specs.declared.entry.Entry.{Entry}
use Rattle.coniks_directory.specs.Chain.{IsChainOf, body_of}
use Rattle.coniks_directory.specs.History.{Shown}
use Rattle.coniks_proof.specs.Sha256.{sha256}
use Rattle.coniks_threads.specs.Lists.{last_of}
use Rattle.coniks_tool.specs.Chains.{chain_after, chain_of, entry_after, next_entry}
use Rattle.coniks_tool.specs.Demo.{demo_index}
use Rattle.coniks_tool.specs.Seal.{is_seal, seal_of}

-- the state before a later place
before_at-next : (before : Option AuditorState) (e : Entry) (chain : List Entry) (k : ℕ) → before_at sha256 before (e ∷ chain) (suc k) ≡ before_at sha256 (Some (auditor_after sha256 e)) chain k
before_at-next before e chain zero = refl
before_at-next before e chain (suc k) = refl

last-push : {T : Type 0} (xs : List T) (x : T) → last_of (xs ++ x ∷ []) ≡ Some x
last-push [] x = refl
last-push (y ∷ []) x = refl
last-push (y ∷ z ∷ xs) x = last-push (z ∷ xs) x

-- equal lists have the same last element
same_last : {T : Type 0} (xs ys : List T) (x y : T) → xs ++ x ∷ [] ≡ ys ++ y ∷ [] → x ≡ y
same_last xs ys x y same = one x y (sym (last-push xs x) ∙ ap last_of same ∙ last-push ys y)
  where
    one : {T : Type 0} (x y : T) → Some x ≡ Some y → x ≡ y
    one x y h = cc

module _ (key policy : List ℕ) where
  -- if each entry is the one after the state before it, the chain is the sealed one
  same_chain : (before : Option AuditorState) (history : List Shown) (chain : List Entry) → length chain ≡ length history
      → ((k : ℕ) (s : Shown) (e : Entry) → slice_get history k ≡ Some s → slice_get chain k ≡ Some e → e ≡ entry_after key policy (before_at sha256 before chain k) s)
      → chain ≡ chain_after key policy before history
  same_chain before [] [] long each = refl
  same_chain before [] (e ∷ chain) long each = absurd (omega arith)
  same_chain before (s ∷ history) [] long each = absurd (omega arith)
  same_chain before (s ∷ history) (e ∷ chain) long each =
      let first : e ≡ entry_after key policy before s = each 0 s e refl refl in
      let rest : chain ≡ chain_after key policy (Some (auditor_after sha256 e)) history =
      same_chain (Some (auditor_after sha256 e)) history chain (omega arith) (λ k x y at_x at_y. each (suc k) x y at_x at_y ∙ ap (λ b. entry_after key policy b x) (before_at-next before e chain k)) in
      ap (λ (es : List Entry). e ∷ es) rest ∙ ap (λ (x : Entry). x ∷ chain_after key policy (Some (auditor_after sha256 x)) history) first

  -- one more epoch
  chain_after-push : (before : Option AuditorState) (history : List Shown) (s : Shown) → chain_after key policy before (history ++ s ∷ [])
      ≡ chain_after key policy before history ++ entry_after key policy (before_at sha256 before (chain_after key policy before history) (length (chain_after key policy before history))) s ∷ []
  chain_after-push before [] s = refl
  chain_after-push before (x ∷ history) s =
      let e = entry_after key policy before x in
      let chain = chain_after key policy (Some (auditor_after sha256 e)) history in
      ap (λ (es : List Entry). e ∷ es)
      (chain_after-push (Some (auditor_after sha256 e)) history s ∙ ap (λ b. chain ++ entry_after key policy b s ∷ []) (sym (before_at-next before e chain (length chain))))

  module _ (verdict : List ℕ → List ℕ → Bool) (own : (bytes signature : List ℕ) → verdict bytes signature ≡ is_seal key bytes signature) where
    -- an entry of an epoch whose signature verifies is the sealed one
    sealed_is : (before : Option AuditorState) (s : Shown) (e : Entry) → e.body ≡ body_of sha256 (demo_index key) policy before s → Follows verdict before e → e ≡ entry_after key policy before s
    sealed_is before s e body follows =
        let stated : verdict (body_bytes e.body) e.signature.0 ≡ true = follows.rows.1.1.1.1.1.1.1.0 in
        let seal : e.signature.0 ≡ seal_of key (body_bytes e.body) = (bytes_eq-Decides e.signature.0 (seal_of key (body_bytes e.body))).0 (sym (own (body_bytes e.body) e.signature.0) ∙ stated) in
        ap (λ (x : List ℕ). signed e.body (record { 0 = x })) seal ∙ ap (λ (b : Body). signed b (record { 0 = seal_of key (body_bytes b) })) body

    -- a good chain of a history is the sealed one
    pub chain_is : (history : List Shown) (chain : List Entry) → IsChainOf sha256 (demo_index key) policy None history chain → GoodChain sha256 verdict chain → chain ≡ chain_of key policy history
    chain_is history chain is good =
        same_chain None history chain is.long (λ k s e at_s at_e. sealed_is (before_at sha256 None chain k) s e (is.bodies k s e at_s at_e) (good k e at_e))

    -- so its last entry is the next one after the earlier epochs
    pub entry_is : (history : List Shown) (s : Shown) (chain : List Entry) (entry : Entry) → IsChainOf sha256 (demo_index key) policy None (history ++ s ∷ []) (chain ++ entry ∷ [])
        → GoodChain sha256 verdict (chain ++ entry ∷ []) → entry ≡ next_entry key policy history s
    entry_is history s chain entry is good =
        same_last chain (chain_of key policy history) entry (next_entry key policy history s) (chain_is (history ++ s ∷ []) (chain ++ entry ∷ []) is good ∙ chain_after-push None history s)
