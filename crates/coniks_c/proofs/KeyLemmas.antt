-- The key of a presence proof is at the end of its bytes.
use Rattle.std.proofs.Common.{◌≡◌, ◌≤◌, ◌+◌, ◌-◌, ℕ, List, ◌∷◌, ◌++◌, length, take, drop, Some, refl, sym, ap, subst, ◌∙◌, arith, append_assoc, length-append}
use Rattle.std.specs.Int.{w16, w32, to_be_bytes}
use Rattle.std.proofs.Math.Seq.{drop-append_seam, take-length}
use Rattle.std.proofs.lemmas.List.{take-append-drop}
use Rattle.coniks_proof.specs.Proofs.{answer_of}
use Rattle.coniks_proof.specs.Wire.{IsWire, sibling_bytes, wire_form}
use Rattle.coniks_proof.specs.declared.paths.End.{End}
use Rattle.coniks_proof.specs.declared.paths.End.TheVariants.{Empty, Other, Here}
use Rattle.coniks_proof.specs.declared.paths.Proof.{Proof}
use Rattle.coniks_c.specs.Checked.{part}

-- the bytes end with these
abbrev pub Ends : List ℕ → List ℕ → Type 0
Ends bytes last = (front : List ℕ) × (bytes ≡ front ++ last)

ends_after : (before bytes last : List ℕ) → Ends bytes last → Ends (before ++ bytes) last
ends_after before bytes last ends = (before ++ ends.0, ap (λ b. before ++ b) ends.1 ∙ sym (append_assoc before ends.0 last))

form_ends : (proof : Proof) (key : List ℕ) → answer_of proof.end ≡ Some key → Ends (wire_form proof) key
form_ends proof key is = by proof.end is
  where
    by : (end : End) → answer_of end ≡ Some key → Ends (wire_form (record { siblings = proof.siblings; end = end })) key
    by Empty is = cc
    by (Other index commitment) is = cc
    by (Here name here opening) is =
        let same : here ≡ key = cc in
        let front = opening.0 ++ to_be_bytes w16 (length name) ++ name ++ to_be_bytes w32 (length here) in
        let ends = ends_after (2 ∷ to_be_bytes w16 (length proof.siblings) ++ sibling_bytes proof.siblings) (front ++ here) here (front, refl) in
        subst (λ (k : List ℕ). Ends (wire_form (record { siblings = proof.siblings; end = Here name here opening })) k) same ends

pub wire_ends : (bytes key : List ℕ) (proof : Proof) → IsWire bytes proof → answer_of proof.end ≡ Some key → Ends bytes key
wire_ends bytes key proof wire is =
    let ends = form_ends proof key is in
    (ends.0, wire.same ∙ ends.1)

-- so do the bytes of which these are the last
pub ends_drop : (n : ℕ) (bytes last : List ℕ) → Ends (drop n bytes) last → Ends bytes last
ends_drop n bytes last ends =
    let after = ends_after (take n bytes) (drop n bytes) last ends in
    (after.0, sym (take-append-drop n bytes) ∙ after.1)

pub last_part : (bytes last : List ℕ) → Ends bytes last
    → (length last ≤ length bytes) × (part bytes (length bytes - length last) (length last) ≡ last)
last_part bytes last ends =
    let size : length bytes ≡ length ends.0 + length last = ap length ends.1 ∙ length-append ends.0 last in
    let cut : length bytes - length last ≡ length ends.0 = omega (arith, size) in
    let rest : drop (length bytes - length last) bytes ≡ last =
    ap (λ n. drop n bytes) cut ∙ ap (drop (length ends.0)) ends.1 ∙ drop-append_seam ends.0 last in
    (omega (arith, size), ap (take (length last)) rest ∙ take-length last)

-- what stands after all but the key's bytes is the key
pub key_is_last : (bytes key : List ℕ) (proof : Proof) → IsWire bytes proof → answer_of proof.end ≡ Some key
    → (length key ≤ length bytes) × (part bytes (length bytes - length key) (length key) ≡ key)
key_is_last bytes key proof wire is = last_part bytes key (wire_ends bytes key proof wire is)
