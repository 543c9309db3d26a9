-- Lookups on an opened directory.
use Rattle.std.proofs.Common.{◌≡◌, ℕ, List, [], ◌∷◌, map, true, false, refl, sym, ap, subst, ◌∙◌, Option, Some, None, if◌then◌else◌}
use Rattle.std.specs.Prelude.{◌==◌, cond, find, is_some, zip}
use Rattle.std.proofs.lemmas.Bool.{false≢true}
use Rattle.std.proofs.lemmas.Option.{same_Some}
use Rattle.coniks_chain.specs.Chain.{auditor_after}
use Rattle.coniks_chain.specs.declared.auditor.AuditorState.{AuditorState}
use Rattle.coniks_chain.specs.declared.entry.Entry.{Entry}
use Rattle.coniks_directory.specs.History.{Shown, shown_at}
use Rattle.coniks_directory.specs.Lookups.{IsFound, IsMissed}
use Rattle.coniks_directory.specs.declared.lookup.LookupFault.{LookupFault}
use Rattle.coniks_directory.specs.declared.lookup.LookupFault.TheVariants.{NameLength, OutOfMemory, UnknownEpoch}
use Rattle.coniks_proof.specs.Batches.{fits}
use Rattle.coniks_proof.specs.Hashing.{hashing}
use Rattle.coniks_proof.specs.Registry.{entries_of}
use Rattle.coniks_proof.specs.Sha256.{sha256}
use Rattle.coniks_proof.specs.declared.paths.Proof.{Proof}
use Rattle.coniks_proof.specs.declared.values.TheConstants.{MAX_NAME}
use Rattle.coniks_tool.specs.Chains.{chain_after, chain_of, entry_after}
use Rattle.coniks_tool.specs.Demo.{demo_index}
use Rattle.coniks_programs.specs.Paths.{Path, path_of, path_to}
use Rattle.coniks_programs.specs.Refusals.{Refusal, bad_name_length, unknown_epoch}
use Rattle.coniks_tool.specs.Refusals.{lookup_refused_as}
use Rattle.coniks_tool.specs.ScriptReplies.{because, looked_up}
use Rattle.coniks_tool.specs.Script.{Chained, ScriptDirectory, epoch_at, epochs_of, lookup_at, lookup_with}
use Rattle.coniks_programs.proofs.Lemmas.{path_is}

-- the entry of exactly this epoch
abbrev pub entry_at : List Entry → ℕ → Option Entry
entry_at chain epoch = find (λ (e : Entry). e.body.t == epoch) chain

-- epochs with their entries
abbrev paired : List Shown → List Entry → List Chained
paired history chain = map (λ pair. record { shown = pair.0; entry = pair.1 }) (zip history chain)

-- an epoch with its entry, if there are both
abbrev pair_up : Option Shown → Option Entry → Option Chained
pair_up None e = None
pair_up (Some s) None = None
pair_up (Some s) (Some e) = Some (record { shown = s; entry = e })

module _ (key policy : List ℕ) (number : ℕ) where
  -- the search among epochs with their entries finds what the two separate searches find
  both : (before : Option AuditorState) (history : List Shown)
      → epoch_at (paired history (chain_after key policy before history)) number ≡ pair_up (shown_at history number) (entry_at (chain_after key policy before history) number)
  both before [] = refl
  both before (shown ∷ history) =
      let entry = entry_after key policy before shown in
      let later = chain_after key policy (Some (auditor_after sha256 entry)) history in
      elim (shown.t == number) as (λ b. cond b (Some (record { shown = shown; entry = entry })) (epoch_at (paired history later) number)
      ≡ pair_up (cond b (Some shown) (shown_at history number)) (cond b (Some entry) (entry_at later number))) [
        | true ↦ refl
        | false ↦ both (Some (auditor_after sha256 entry)) history
      ]

  -- and it finds one if there is such an epoch
  there : (before : Option AuditorState) (history : List Shown) → is_some (epoch_at (paired history (chain_after key policy before history)) number) ≡ is_some (shown_at history number)
  there before [] = refl
  there before (shown ∷ history) =
      let entry = entry_after key policy before shown in
      let later = chain_after key policy (Some (auditor_after sha256 entry)) history in
      elim (shown.t == number) as (λ b. is_some (cond b (Some (record { shown = shown; entry = entry })) (epoch_at (paired history later) number)) ≡
      is_some (cond b (Some shown) (shown_at history number))) [
        | true ↦ refl
        | false ↦ there (Some (auditor_after sha256 entry)) history
      ]

-- a name whose length is out of range
off : (index_of : List ℕ → List ℕ) (name : List ℕ) (e : Option Chained) → is_some e ≡ true → fits MAX_NAME name ≡ false → because bad_name_length ≡ lookup_at index_of name e
off index_of name None is long = absurd (false≢true is)
off index_of name (Some e) is long = ap (λ b. if b then looked_up e.entry (index_of name) name (path_to sha256 index_of e.shown.nonce e.shown.registry (index_of name)) else because bad_name_length) (sym long)

-- a name whose length is in range
into : (index_of : List ℕ → List ℕ) (name : List ℕ) (shown : Shown) (entry : Entry) → fits MAX_NAME name ≡ true
    → lookup_at index_of name (Some (record { shown = shown; entry = entry })) ≡ looked_up entry (index_of name) name (path_to sha256 index_of shown.nonce shown.registry (index_of name))
into index_of name shown entry on = ap (λ b. if b then looked_up entry (index_of name) name (path_to sha256 index_of shown.nonce shown.registry (index_of name)) else because bad_name_length) on

module _ (o : ScriptDirectory) (epoch : ℕ) (name bytes : List ℕ) (same : bytes ≡ name) where
  pub missed_length : (fault : LookupFault) → fault ≡ NameLength → IsMissed o.history epoch bytes fault → because bad_name_length ≡ lookup_with (Some o) epoch name
  missed_length fault is missed =
      let m : (is_some (shown_at o.history epoch) ≡ true) × (fits MAX_NAME bytes ≡ false) = subst (λ (f : LookupFault). IsMissed o.history epoch bytes f) is missed in
      off (demo_index o.key) name (epoch_at (epochs_of o) epoch) (there o.key o.policy epoch None o.history ∙ m.0) (ap (fits MAX_NAME) (sym same) ∙ m.1)

  pub missed_epoch : (fault : LookupFault) → fault ≡ UnknownEpoch → IsMissed o.history epoch bytes fault → because unknown_epoch ≡ lookup_with (Some o) epoch name
  missed_epoch fault is missed =
      let none : shown_at o.history epoch ≡ None = subst (λ (f : LookupFault). IsMissed o.history epoch bytes f) is missed in
      sym (ap (lookup_at (demo_index o.key) name) (both o.key o.policy epoch None o.history ∙ ap (λ (s : Option Shown). pair_up s (entry_at (chain_of o.key o.policy o.history) epoch)) none))

  -- and so a lookup is refused by its error
  pub missed_is : (fault : LookupFault) (why : Refusal) → IsMissed o.history epoch bytes fault → lookup_refused_as fault ≡ Some why → because why ≡ lookup_with (Some o) epoch name
  missed_is UnknownEpoch why missed is = ap because (sym (same_Some unknown_epoch why is)) ∙ missed_epoch UnknownEpoch refl missed
  missed_is NameLength why missed is = ap because (sym (same_Some bad_name_length why is)) ∙ missed_length NameLength refl missed
  missed_is OutOfMemory why missed is = absurd (let never = is in cc)

  module _ (proof : Proof) (found : IsFound sha256 (demo_index o.key) o.history epoch bytes proof) (chain : List Entry) (is : chain ≡ chain_of o.key o.policy o.history) where
    here : (e : Option Entry) → e ≡ entry_at chain epoch → lookup_with (Some o) epoch name ≡ lookup_at (demo_index o.key) name (pair_up (shown_at o.history epoch) e)
    here e at =
        ap (lookup_at (demo_index o.key) name) (both o.key o.policy epoch None o.history
        ∙ ap (pair_up (shown_at o.history epoch)) (sym (at ∙ ap (λ (es : List Entry). entry_at es epoch) is)))

    pub found_there : (entry : Entry) (text index : List ℕ) → Some entry ≡ entry_at chain epoch → text ≡ name
        → index ≡ demo_index o.key name → looked_up entry index text (path_of proof) ≡ lookup_with (Some o) epoch name
    found_there entry text index at text_is index_is =
        let path = path_is (hashing sha256 found.shown.nonce) (entries_of sha256 (demo_index o.key) found.shown.registry) (demo_index o.key bytes) proof found.path in
        ap (λ (t : List ℕ). looked_up entry index t (path_of proof)) text_is
        ∙ ap (λ (i : List ℕ). looked_up entry i name (path_of proof)) index_is
        ∙ ap (λ (p : Path). looked_up entry (demo_index o.key name) name p)
        (path ∙ ap (λ (x : List ℕ). path_to sha256 (demo_index o.key) found.shown.nonce found.shown.registry (demo_index o.key x)) same)
        ∙ sym (here (Some entry) at ∙ ap (λ (s : Option Shown). lookup_at (demo_index o.key) name (pair_up s (Some entry)))
        found.installed ∙ into (demo_index o.key) name found.shown entry (ap (fits MAX_NAME) (sym same) ∙ found.sized))
