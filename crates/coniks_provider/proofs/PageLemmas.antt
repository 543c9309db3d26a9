-- Pages of bindings.
use Rattle.std.proofs.Common.{◌≡◌, ℕ, ◌+◌, List, length, map, take, sym, ap, ap₂, ◌∙◌, Option, Some}
use Rattle.std.specs.Prelude.{nat_lt, option_map}
use Rattle.std.proofs.lemmas.List.{length-map, take-map}
use Rattle.serde_json.specs.Written.{compact_text}
use Rattle.coniks_directory.specs.Bindings.{Indexed as IndexedBinding, bindings_page, indexed_binding}
use Rattle.coniks_directory.specs.History.{Shown, shown_at}
use Rattle.coniks_directory.specs.Supplied.{supplied_index}
use Rattle.coniks_directory.specs.declared.bindings.IndexedBinding.{IndexedBinding as Binding}
use Rattle.coniks_proof.specs.Sha256.{sha256}
use Rattle.coniks_provider.specs.Answers.{listed, page_data}
use Rattle.coniks_provider.specs.Turns.{ProviderDirectory, bindings_with, index_of_bytes, page_of_found, serving}

module _ (o : ProviderDirectory) (epoch : ℕ) (after : Option (List ℕ)) (most : ℕ) where
  pub listed_is : (shown : Shown) (found : List Binding) → shown_at o.history epoch ≡ Some shown
      → map indexed_binding found ≡ bindings_page sha256 (supplied_index o.indices) shown.registry (option_map index_of_bytes after) (most + 1)
      → listed (compact_text (page_data epoch (map indexed_binding (take most found)) (nat_lt most (length found)))) ≡ bindings_with (serving o) epoch after most
  listed_is shown found at is =
      rw at (ap₂ (λ (bs : List IndexedBinding) (n : ℕ). listed (compact_text (page_data epoch bs (nat_lt most n)))) (sym (take-map indexed_binding most found)) (sym (length-map found indexed_binding))
      ∙ ap (page_of_found epoch most) is)
