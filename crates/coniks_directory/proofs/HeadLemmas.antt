-- The heads of a chain, whose epochs increase.
use Rattle.std.proofs.Common.{◌≡◌, ℕ, suc, ◌+◌, ◌≤◌, get_or, append_assoc, length-append, List, [], ◌∷◌, ◌++◌, length, map, refl, sym, ap, subst, ◌∙◌, arith, Option, Some, slice_get}
use Rattle.coniks_proof.specs.Octets.{Octets}
use Rattle.coniks_directory.proofs.Words.{AreRising, AuditorState, Begins, Body, Head, IsChainOf, Shown, before_at, epoch_before, head_at, heads_of, last_of, link_before}
use Rattle.coniks_directory.proofs.Words.{map-map, numbers_of, same_Some}
use Rattle.coniks_chain.specs.Entries.{link_preimage}
use Rattle.coniks_chain.specs.declared.entry.Entry.{Entry}
use Rattle.coniks_directory.proofs.NumberLemmas.{rising-sorted}

-- the entries have the numbers of their epochs
numbers_alike : (history : List Shown) (chain : List Entry) → length chain ≡ length history
    → ((k : ℕ) (s : Shown) (e : Entry) → slice_get history k ≡ Some s → slice_get chain k ≡ Some e → e.body.t ≡ s.t) → map (λ (e : Entry). e.body.t) chain ≡ numbers_of history
numbers_alike [] [] long same = refl
numbers_alike [] (e ∷ chain) long same = absurd (omega arith)
numbers_alike (s ∷ history) [] long same = absurd (omega arith)
numbers_alike (s ∷ history) (e ∷ chain) long same =
    ap (λ n. n ∷ map (λ (x : Entry). x.body.t) chain) (same 0 s e refl refl)
    ∙ ap (λ ns. s.t ∷ ns) (numbers_alike history chain (omega arith) (λ k x f at_x at_f. same (suc k) x f at_x at_f))

pub chain-rises : (hash index_of : List ℕ → List ℕ) (policy : List ℕ) (before : Option AuditorState) (t : ℕ) (history : List Shown) (chain : List Entry) → IsChainOf hash index_of policy before history chain
    → AreRising t (numbers_of history) → AreRising t (map (λ (e : Entry). e.body.t) chain)
chain-rises hash index_of policy before t history chain is up =
    subst (AreRising t) (sym (numbers_alike history chain is.long (λ k s e at_s at_e. ap (λ (b : Body). b.t) (is.bodies k s e at_s at_e)))) up

-- the last of the heads before the others is just before the first of these
last_place : (heads rest : List Head) (h : Head) → last_of heads ≡ Some h → (n : ℕ) × (suc n ≡ length heads) × ((d : Head) → get_or (heads ++ rest) n d ≡ h)
last_place [] rest h is = absurd (let never = is in cc)
last_place (x ∷ []) rest h is = (0, refl, λ d. same_Some x h is)
last_place (x ∷ y ∷ hs) rest h is = let k = last_place (y ∷ hs) rest h is in (suc k.0, ap suc k.1, k.2)

pub no_older : (hash index_of : List ℕ → List ℕ) (policy : List ℕ) (before : Option AuditorState) (history : List Shown) (chain : List Entry) (had has : List Head) (latest answer : Head)
    → IsChainOf hash index_of policy before history chain
    → AreRising (epoch_before before) (numbers_of history) → Begins had has → Begins has (heads_of hash chain) → last_of had ≡ Some latest → last_of has ≡ Some answer → latest.epoch ≤ answer.epoch
no_older hash index_of policy before history chain had has latest answer is up begins within last_had last_has =
    let epoch : Head → ℕ = λ h. h.epoch in
    let all : heads_of hash chain ≡ had ++ (begins.0 ++ within.0) = within.1 ∙ ap (λ hs. hs ++ within.0) begins.1 ∙ append_assoc had begins.0 within.0 in
    let rise : AreRising (epoch_before before) (map epoch (heads_of hash chain)) = rw (map-map epoch (head_at hash) chain) (chain-rises hash index_of policy before (epoch_before before) history chain is up) in
    let first = last_place had (begins.0 ++ within.0) latest last_had in
    let last = last_place has within.0 answer last_has in
    let one : get_or (heads_of hash chain) first.0 latest ≡ latest = ap (λ hs. get_or hs first.0 latest) all ∙ first.2 latest in
    let other : get_or (heads_of hash chain) last.0 latest ≡ answer = ap (λ hs. get_or hs last.0 latest) within.1 ∙ last.2 latest in
    let longer : length has ≡ length had + length begins.0 = ap length begins.1 ∙ length-append had begins.0 in
    let long : length (heads_of hash chain) ≡ length has + length within.0 = ap length within.1 ∙ length-append has within.0 in
    let sorted = rising-sorted epoch (epoch_before before) (heads_of hash chain) rise first.0 last.0 latest (omega (arith, first.1, last.1)) (omega (arith, last.1)) in
    subst (λ h. latest.epoch ≤ h.epoch) other (subst (λ h. h.epoch ≤ epoch (get_or (heads_of hash chain) last.0 latest)) one sorted)

-- an entry that follows this chain contains the link of its last entry
pub link_of_last : (hash : Octets → Octets) (before : Option AuditorState) (chain : List Entry) (entry : Entry)
    → link_before (before_at hash before (chain ++ entry ∷ []) (length (chain ++ entry ∷ []))) ≡ hash (link_preimage entry)
link_of_last hash before [] entry = refl
link_of_last hash before (e ∷ []) entry = refl
link_of_last hash before (e ∷ f ∷ chain) entry = link_of_last hash before (f ∷ chain) entry
