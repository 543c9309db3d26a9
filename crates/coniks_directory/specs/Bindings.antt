-- Pages of the bindings of an epoch, in the order of their indices.
use Rattle.std.specs.Prelude.{◌≡◌, ℕ, List, map, Option, Some, None, is_some, true}
use Rattle.coniks_proof.specs.Entries.{Entry}
use Rattle.coniks_proof.specs.Octets.{Octets}
use Rattle.coniks_proof.specs.Registry.{Registered, Registry, entries_of}
use Rattle.coniks_proof.specs.declared.values.Index.{Index}
use Rattle.coniks_tree.specs.Pages.{page_of}
use Rattle.coniks_tree.specs.Table.{Numbered, registered_at}
use Rattle.coniks_tree.specs.declared.table.Record.{Record}
use Rattle.coniks_directory.specs.History.{Shown, shown_at}
use Rattle.coniks_directory.specs.declared.bindings.BindingsFault.{BindingsFault}
use Rattle.coniks_directory.specs.declared.bindings.BindingsFault.TheVariants.{UnknownEpoch, OutOfMemory}
use Rattle.coniks_directory.specs.declared.bindings.IndexedBinding.{IndexedBinding}

-- a binding, and the index of its name
abbrev pub Indexed : Type 0
Indexed = Octets × Registered

-- what an indexed binding says
abbrev pub indexed_binding : IndexedBinding → Indexed
indexed_binding b = (b.index.0, record { name = b.name.now; key = b.key.now; opening = b.opening.0 })

-- what the record of an entry binds, at the entry's index
abbrev pub binding_at : List Record → Numbered → Indexed
binding_at records e = (e.index, registered_at records e.behind)

-- what an entry of a registry's map binds, at its index
abbrev pub binding_in : Entry Registered → Indexed
binding_in e = (e.index, e.behind)

-- the first `most` bindings of a registry whose indices are greater than an index, or the first of all, in increasing order of index
abbrev pub bindings_page : (hash index_of : Octets → Octets) → Registry → Option Index → ℕ → List Indexed
bindings_page hash index_of registry after most = map binding_in (page_of after most (entries_of hash index_of registry))

-- there is an epoch of this number, and these are such bindings of its registry
pub record ArePageAt (hash index_of : Octets → Octets) (history : List Shown) (t : ℕ) (after : Option Index) (most : ℕ)
    (bindings : List IndexedBinding) : Type 0 where
  pub shown : Shown
  pub installed : shown_at history t ≡ Some shown
  pub page : map indexed_binding bindings ≡ bindings_page hash index_of shown.registry after most

-- the error of a page: the first that applies
abbrev pub IsUnlisted : List Shown → ℕ → BindingsFault → Type 0
IsUnlisted history t UnknownEpoch = shown_at history t ≡ None
IsUnlisted history t OutOfMemory = is_some (shown_at history t) ≡ true
