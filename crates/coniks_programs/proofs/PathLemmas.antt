-- Paths as byte lists.
use Rattle.std.proofs.Common.{◌≡◌, ◌≢◌, ℕ, List, [], true, false, refl, sym, ap, ◌∙◌, if◌then◌else◌}
use Rattle.std.specs.Str.{bytes_eq}
use Rattle.std.proofs.lemmas.Slice.Eq.{bytes_eq-Decides}
use Rattle.coniks_proof.specs.Entries.{Entry}
use Rattle.coniks_proof.specs.Hashing.{Hashing}
use Rattle.coniks_proof.specs.Paths.{siblings, end_of, EndIs, IsPath}
use Rattle.coniks_proof.specs.Registry.{Registered}
use Rattle.coniks_proof.specs.declared.paths.Proof.{Proof}
use Rattle.coniks_proof.specs.declared.paths.End.{End}
use Rattle.coniks_proof.specs.declared.paths.End.TheVariants.{Empty, Other, Here}
use Rattle.coniks_programs.specs.Paths.{PathEnd, other_entry, its_entry, end_at, end_shown, path_among, path_of}

-- an end as byte lists
end_is_shown : (index : List ℕ) (es : List (Entry Registered)) (end : End) → EndIs index es end → end_shown end ≡ end_at index es
end_is_shown index es Empty is = ap (end_at index) (sym is)
end_is_shown index es (Other other commitment) is =
    let e : Entry Registered = record { index = other.0; commitment = commitment.0; behind = is.1.0 } in
    let off : bytes_eq other.0 index ≡ false = unlike other.0 index is.0 in
    ap (λ b. if b then its_entry e.behind.name e.behind.key e.behind.opening else other_entry other.0 commitment.0) (sym off) ∙ ap (end_at index) (sym is.1.1)
  where
    unlike : (x y : List ℕ) → x ≢ y → bytes_eq x y ≡ false
    unlike x y apart = (elim (bytes_eq x y) as (λ v. bytes_eq x y ≡ v → v ≡ false) [
      | true ↦ λ on. absurd (apart ((bytes_eq-Decides x y).0 on))
      | false ↦ λ _. refl
    ]) refl
end_is_shown index es (Here name key opening) is =
    let on : bytes_eq index index ≡ true = (bytes_eq-Decides index index).1 refl in
    ap (λ b. if b then its_entry name key opening.0 else other_entry index is.0) (sym on) ∙ ap (end_at index) (sym is.1)

-- a proof that is the path to an index shows that path
pub path_is : (by : Hashing) (es : List (Entry Registered)) (index : List ℕ) (proof : Proof) → IsPath by es index proof → path_of proof ≡ path_among by es index
path_is by es index proof p =
    ap (λ (ss : List (List ℕ)). record { siblings = ss; end = end_shown proof.end }) p.siblings_are
    ∙ ap (λ (e : PathEnd). record { siblings = siblings by [] index es; end = e }) (end_is_shown index (end_of [] index es) proof.end p.end_is)
