-- The chain of a history, entry by entry.
use Rattle.std.proofs.Common.{◌≡◌, ℕ, ◌-◌, ◌<◌, ◌≤◌, List, [], ◌∷◌, ◌++◌, length, length-append, Bool, true}
use Rattle.std.proofs.Common.{refl, sym, ap, subst, ◌∙◌, ◌⊎◌, arith, inl, inr, IfSome, Option, Some, None, slice_get}
use Rattle.coniks_directory.proofs.Words.{AreRising, AreUnder, AuditorState, Body, Follows, IsChainOf, IsUnder, Shown, before_at, body_bytes, body_of}
use Rattle.coniks_directory.proofs.Words.{epoch_before, last_number, latest_epoch, latest_nonce, latest_version, link_before, slice_get-get_or}
use Rattle.coniks_directory.proofs.Words.{slice_get_within}
use Rattle.coniks_chain.specs.declared.entry.Entry.{Entry}
use Rattle.coniks_chain.proofs.Lemmas.{before_at-push}
use Rattle.coniks_tree.proofs.Lemmas.{Extends-append, get-last, get-push}
use Rattle.coniks_directory.proofs.LastLemmas.{last_found}

pub rising-push : (t : ℕ) (ns : List ℕ) (n : ℕ) → AreRising t ns → last_number t ns < n → AreRising t (ns ++ n ∷ [])
rising-push t [] n up later = (later, tt)
rising-push t (m ∷ ns) n up later = (up.0, rising-push m ns n up.1 later)

-- the last number is that from 0 on, if there is one or the start is 0
pub last-from : (t : ℕ) (ns : List ℕ) → (ns ≡ [] → t ≡ 0) → last_number t ns ≡ last_number 0 ns
last-from t [] none = none refl
last-from t (n ∷ ns) none = refl

-- numbers that rise from t rise from 0
pub rising-weaken : (t : ℕ) (ns : List ℕ) → AreRising t ns → AreRising 0 ns
rising-weaken t [] up = tt
rising-weaken t (n ∷ ns) up = ((let least = up.0 in omega arith), up.1)

pub under-push : (version : ℕ) (nonce : List ℕ) (history : List Shown) (s : Shown) → AreUnder version nonce history
    → IsUnder (latest_version version history) (latest_nonce nonce history) s → AreUnder version nonce (history ++ s ∷ [])
under-push version nonce [] s all last = (last, tt)
under-push version nonce (x ∷ history) s all last = (all.0, under-push x.version x.nonce history s all.1 last)

-- the versions of an entry
abbrev pub IsVersion : ℕ → Type 0
IsVersion version = (version ≡ 1) ⊎ (version ≡ 2)

version_of : (version : ℕ) (nonce : List ℕ) (s : Shown) → IsVersion version → IsUnder version nonce s → IsVersion s.version
version_of version nonce s known (None, same, _) = subst IsVersion (sym same) known
version_of version nonce s known (Some new_nonce, second, _) = inr second

pub latest-known : (version : ℕ) (nonce : List ℕ) (history : List Shown) → IsVersion version → AreUnder version nonce history → IsVersion (latest_version version history)
latest-known version nonce [] known all = known
latest-known version nonce (s ∷ history) known all = latest-known s.version s.nonce history (version_of version nonce s known all.0) all.1

-- ---- the last entry

-- the state before the next entry is that of the latest epoch, with its version and nonce
pub record IsLast (nonce : List ℕ) (history : List Shown) (before : Option AuditorState) : Type 0 where
  pub epoch : epoch_before before ≡ latest_epoch history
  pub version : IfSome before (λ b. latest_version 1 history ≡ b.version)
  pub under : IfSome before (λ b. latest_nonce nonce history ≡ b.nonce.0)

pub is_last : (hash index_of : List ℕ → List ℕ) (policy nonce : List ℕ) (before : Option AuditorState) (history : List Shown) (chain : List Entry) → IsChainOf hash index_of policy before history chain
    → (chain ≡ [] → before ≡ None) → IsLast nonce history (before_at hash before chain (length chain))
is_last hash index_of policy nonce before [] [] is begun = rw (begun refl) (record { epoch = refl; version = tt; under = tt })
is_last hash index_of policy nonce before [] (e ∷ chain) is begun = absurd (let long = is.long in omega arith)
is_last hash index_of policy nonce before (s ∷ history) [] is begun = absurd (let long = is.long in omega arith)
is_last hash index_of policy nonce before (s ∷ history) (e ∷ chain) is begun =
    let long : length chain ≡ length history = (let all = is.long in omega arith) in
    let shown = slice_get-get_or (s ∷ history) (length history) s (omega arith) in
    let place : length (s ∷ history) - 1 ≡ length history = omega arith in
    let last = ap (slice_get (s ∷ history)) place ∙ shown in
    let entry = slice_get-get_or (e ∷ chain) (length chain) e (omega arith) in
    let body = is.bodies (length chain) _ _ (ap (slice_get (s ∷ history)) long ∙ shown) entry in
    rw entry (record {
      epoch = ap (λ (b : Body). b.t) body ∙ sym (last_found latest_epoch (λ x. x.t) (λ x. refl) (λ x y xs. refl) (s ∷ history) _ last);
      version = last_found (latest_version 1) (λ x. x.version) (λ x. refl) (λ x y xs. refl) (s ∷ history) _ last ∙ sym (ap (λ (b : Body). b.version) body);
      under = last_found (latest_nonce nonce) (λ x. x.nonce) (λ x. refl) (λ x y xs. refl) (s ∷ history) _ last ∙ sym (ap (λ (b : Body). b.nonce.0) body);
    })

-- ---- one more entry

-- one more epoch, and its entry
pub chain-push : (hash index_of : List ℕ → List ℕ) (policy : List ℕ) (start : Option AuditorState) (history : List Shown) (chain : List Entry) (shown : Shown) (entry : Entry) → IsChainOf hash index_of policy start history chain
    → entry.body ≡ body_of hash index_of policy (before_at hash start chain (length chain)) shown → IsChainOf hash index_of policy start (history ++ shown ∷ []) (chain ++ entry ∷ [])
chain-push hash index_of policy start history chain shown entry is body = record {
  long = let long = is.long in omega (arith, length-append chain (entry ∷ []), length-append history (shown ∷ []));
  bodies = λ k x e at_x at_e. elim (get-push chain entry k e at_e) [
    | inl old ↦
        let within = slice_get_within chain k e old in
        let at = slice_get-get_or history k x (let long = is.long in omega arith) in
        is.bodies k x e (at ∙ sym (Extends-append history (shown ∷ []) k _ at) ∙ at_x) old ∙ ap (λ b. body_of hash index_of policy b x) (sym (before_at-push hash start chain entry k (omega arith)))
    | inr (here, same) ↦
        let at = ap (slice_get (history ++ shown ∷ [])) (here ∙ is.long) ∙ get-last history shown in
        let shown-is : shown ≡ x = cc in
        let before = sym (before_at-push hash start chain entry (length chain) (omega arith)) ∙ ap (before_at hash start (chain ++ entry ∷ [])) (sym here) in
        ap (λ (f : Entry). f.body) (sym same) ∙ body ∙ ap (λ b. body_of hash index_of policy b shown) before ∙ ap (body_of hash index_of policy (before_at hash start (chain ++ entry ∷ []) k)) shown-is
  ];
}

-- the entry of a later epoch, which keeps version and nonce or rotates the nonce, follows
module _ (hash index_of : List ℕ → List ℕ) (policy nonce : List ℕ) (verdict : List ℕ → List ℕ → Bool) (history : List Shown) (known : IsVersion (latest_version 1 history))
    (shown : Shown) (later : latest_epoch history < shown.t) (entry : Entry) (signed : verdict (body_bytes entry.body) entry.signature.0 ≡ true) where
  -- the conditions for an entry of this version and nonce after one of the latest version and nonce
  record MayCome (version : ℕ) (under : List ℕ) : Type 0 where
    is_version : IsVersion version
    no_less : latest_version 1 history ≤ version
    retained : version ≡ 1 → under ≡ latest_nonce nonce history

  may_come : IsUnder (latest_version 1 history) (latest_nonce nonce history) shown → MayCome shown.version shown.nonce
  may_come (None, version, same) = record { is_version = subst IsVersion (sym version) known; no_less = omega (arith, version); retained = λ first. same }
  may_come (Some new_nonce, version, _) = record {
    is_version = inr version;
    no_less = elim known [ inl one ↦ omega (arith, one, version) | inr two ↦ omega (arith, two, version) ];
    retained = λ first. absurd (omega (arith, first, version));
  }

  pub follows_next : (before : Option AuditorState) → entry.body ≡ body_of hash index_of policy before shown → IsLast nonce history before
      → IsUnder (latest_version 1 history) (latest_nonce nonce history) shown → Follows verdict before entry
  follows_next before body last under =
      let may = may_come under in
      let version = ap (λ (b : Body). b.version) body in
      let t = ap (λ (b : Body). b.t) body in
      let t_prev = ap (λ (b : Body). b.t_prev) body in
      let previous = ap (λ (b : Body). b.previous.0) body in
      let nonce-is = ap (λ (b : Body). b.nonce.0) body in
      let is_version = subst IsVersion (sym version) may.is_version in
      let least = may.no_less in
      (elim before as (λ o. IsLast nonce history o → entry.body.t_prev ≡ epoch_before o → entry.body.previous.0 ≡ link_before o → Follows verdict o entry) [
        | None ↦ λ l epoch link. record { rows = (is_version, (tt, (omega (arith, later, t), (tt, (epoch, (link, (tt, (signed, tt)))))))) }
        | Some b ↦ λ l epoch link.
            let no_less : b.version ≤ entry.body.version = omega (arith, least, version, l.version) in
            let after : b.t < entry.body.t = omega (arith, later, t, l.epoch) in
            let retained = λ (first : entry.body.version ≡ 1). nonce-is ∙ may.retained (sym version ∙ first) ∙ l.under in
            record { rows = (is_version, (no_less, (tt, (after, (epoch, (link, (retained, (signed, tt)))))))) }
      ]) last t_prev previous
