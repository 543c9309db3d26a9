-- The form of a state, and what a client asks of its changes.
use Rattle.std.proofs.Common.{◌≡◌, ℕ, List, [], ◌∷◌, map, get_or, Some, refl, sym, subst, ◌∙◌, ⊎_elim, inl, inr, Option, None, ap}
use Rattle.std.specs.List.{All, slice_get}
use Rattle.std.specs.Option.{option_map}
use Rattle.std.proofs.lemmas.List.Elements.{All-head, All-tail}
use Rattle.std.proofs.lemmas.Option.{slice_get-get_or, slice_get_within, same_Some}
use Rattle.coniks_client.specs.Changes.{AreInOrder, IsDecided, wanted}
use Rattle.coniks_client.specs.Honest.{AreOther}
use Rattle.coniks_client.specs.StoredEntry.{epoch_in}
use Rattle.coniks_client.specs.declared.changes.Change.{Change}
use Rattle.coniks_client.specs.declared.stored.StoredEntry.{StoredEntry}
use Rattle.coniks_client.specs.declared.watching.Watch.{Watch}
use Rattle.coniks_quorum.specs.StateForms.{AreDistinct, AreFormed, AreOrdered, IsClear, IsClearAt, IsFormed, IsFormedWatch, IsOutside}
use Rattle.coniks_quorum.specs.StateLaws.{BackLaw, FormLaw, PartsLaw, WatchedLaw}
use Rattle.coniks_quorum.specs.Saved.{SavedChange, SavedWatch, saved_change, saved_state, saved_watch}
use Rattle.coniks_quorum.specs.Says.{SaysWatch}
use Rattle.coniks_quorum.specs.declared.states.client.Client.{Client}
use Rattle.coniks_quorum.specs.declared.states.state.Watched.{Watched}

in_order : (from : ℕ) (changes : List Change) → AreOrdered from (map saved_change changes) → AreInOrder from changes
in_order from [] ordered = tt
in_order from (change ∷ later) ordered = (ordered.0, ordered.1, in_order change.first_new later ordered.2)

-- a key is its bytes
key_is : (a b : List ℕ) → wanted a ≡ wanted b → a ≡ b
key_is [] [] same = refl
key_is [] (y ∷ b) same = absurd (cc)
key_is (x ∷ a) [] same = absurd (cc)
key_is (x ∷ a) (y ∷ b) same = cc

are_other : (key : List ℕ) (changes : List Change) → AreDistinct key (map saved_change changes) → AreOther (wanted key) changes
are_other key [] distinct = tt
are_other key (change ∷ later) distinct = (λ same. distinct.0 (key_is key change.key.now same), are_other change.key.now later distinct.1)

-- an epoch outside of each window is decided
decided : (epoch : ℕ) (changes : List Change) → All (IsOutside epoch) (map saved_change changes) → IsDecided changes epoch
decided epoch [] outside = tt
decided epoch (change ∷ later) outside =
    let here = All-head (IsOutside epoch) (saved_change change) (map saved_change later) outside in
    let rest = decided epoch later (All-tail (IsOutside epoch) (saved_change change) (map saved_change later) outside) in
    ⊎_elim (λ old. inl old) (λ new. inr (new, rest)) here

clear_at : (stored : List StoredEntry) (k : ℕ) (mine : StoredEntry) → slice_get stored k ≡ Some mine → mine.seen ≡ 1 → (changes : List SavedChange) → All (IsClear stored) changes
    → All (IsOutside (epoch_in mine)) changes
clear_at stored k mine at same changes clear = λ j d below.
    let within = slice_get_within stored k mine at in
    let here : get_or stored k mine ≡ mine = same_Some (get_or stored k mine) mine (sym (slice_get-get_or stored k mine within) ∙ at) in
    subst (λ x. IsClearAt (get_or changes j d) x) here (clear j d below k mine within) same

are_formed : (client : Client) (watch : Watch) → client.watch ≡ Some watch → IsFormed (saved_state client) → AreFormed client.stored.now watch.key.now (map saved_change client.changes.now)
are_formed client watch is formed = subst (λ w. IsFormedWatch client.stored.now (option_map (saved_watch client.changes.now) w)) is formed.changes

pub form_law : FormLaw
form_law client watch is formed =
    let are = are_formed client watch is formed in (
      in_order 0 client.changes.now are.order,
      are_other watch.key.now client.changes.now are.distinct,
      λ k mine at same. decided (epoch_in mine) client.changes.now (clear_at client.stored.now k mine at same (map saved_change client.changes.now) are.clear),
    )

pub watched_law : WatchedLaw
watched_law hash scheme client watch is formed backed = let form = form_law client watch is formed in record { order = form.0; decided = form.2; backed = backed }

pub back_law : BackLaw
back_law hash client bytes are formed = record { bytes_of = are; own = refl; formed = formed }

watch_is : (w : Option Watched) (s : Option SavedWatch) (mine : Option Watch) (changes : List Change) → SaysWatch w s → mine ≡ option_map (λ watched. watched.watch) w
    → ((x : SavedWatch) → s ≡ Some x → map saved_change changes ≡ x.changes) → option_map (saved_watch changes) mine ≡ s
watch_is None None mine changes says is are = ap (option_map (saved_watch changes)) is
watch_is None (Some s) mine changes says is are = absurd says
watch_is (Some w) None mine changes says is are = absurd says
watch_is (Some w) (Some s) mine changes says is are =
    let cs = map saved_change changes in
    ap (option_map (saved_watch changes)) is
    ∙ ap (λ x. Some (record { name = x; since = w.watch.since; key = w.watch.key.now; changes = cs })) says.name
    ∙ ap (λ x. Some (record { name = s.name; since = x; key = w.watch.key.now; changes = cs })) says.since
    ∙ ap (λ x. Some (record { name = s.name; since = s.since; key = x; changes = cs })) says.key
    ∙ ap (λ x. Some (record { name = s.name; since = s.since; key = s.key; changes = x })) (are s refl)

pub parts_law : PartsLaw
parts_law client state saved says made =
    let watch = option_map (saved_watch client.changes.now) client.watch in
    ap (λ x. record { policy = x; stored = client.stored.now; alarms = client.alarms.now; trust = client.trust.now; marks = client.marks.now; watch = watch }) made.policy
    ∙ ap (λ x. record { policy = saved.policy; stored = x; alarms = client.alarms.now; trust = client.trust.now; marks = client.marks.now; watch = watch })
    (made.stored ∙ says.stored)
    ∙ ap (λ x. record { policy = saved.policy; stored = saved.stored; alarms = x; trust = client.trust.now; marks = client.marks.now; watch = watch })
    (made.alarms ∙ says.alarms)
    ∙ ap (λ x. record { policy = saved.policy; stored = saved.stored; alarms = saved.alarms; trust = x; marks = client.marks.now; watch = watch })
    (made.trust ∙ says.trust)
    ∙ ap (λ x. record { policy = saved.policy; stored = saved.stored; alarms = saved.alarms; trust = saved.trust; marks = x; watch = watch })
    (made.marks ∙ says.marks)
    ∙ ap (λ x. record { policy = saved.policy; stored = saved.stored; alarms = saved.alarms; trust = saved.trust; marks = saved.marks; watch = x })
    (watch_is state.watch saved.watch client.watch client.changes.now says.watch made.watch made.changes)
