-- What the steps of a client keep of the watched name.
use Rattle.std.proofs.Common.{◌≡◌, ℕ, ◌+◌, ◌<◌, ◌&&◌, List, length, drop, take, Bool, true, false, if◌then◌else◌, nat_le, Option, Some, None, IfSome, refl, sym, ap, subst, ◌∙◌, ⊎_elim, arith}
use Rattle.std.specs.List.{slice_get}
use Rattle.std.specs.Str.{bytes_eq}
use Rattle.std.proofs.lemmas.Slice.Eq.{bytes_eq-Decides}
use Rattle.std.proofs.lemmas.Option.{same_Some}
use Rattle.coniks_chain.specs.declared.entry.Entry.{Entry}
use Rattle.coniks_client.specs.Changes.{AreInOrder, IsDecided, Keeps, expected, is_accepted, marked, wanted}
use Rattle.coniks_client.specs.StoredEntry.{entry_in, epoch_in}
use Rattle.coniks_client.specs.Owner.{IsSame, IsShown, IsWatched, IsWatcher, Scheme}
use Rattle.coniks_client.specs.Steps.{Marks, SaysSame, given_changes, given_number, is_watched, with_one}
use Rattle.coniks_client.specs.Watching.{other_number, seen_number}
use Rattle.coniks_client.specs.declared.changes.Change.{Change}
use Rattle.coniks_client.specs.declared.stored.StoredEntry.{StoredEntry}
use Rattle.coniks_client.specs.declared.watching.Watch.{Watch}
use Rattle.coniks_client.proofs.ChangeLemmas.{marked-decides, marked-keeps, marked-order}
use Rattle.coniks_client.proofs.StepLemmas.{backed-push, was_at, which}
use Rattle.coniks_client.proofs.PartLemmas.{drop-backed, of_drop, of_take, take-owner}

-- changes that keep what is expected of each stored epoch keep the watch
pub watched-keeps : (hash : List ℕ → List ℕ) (scheme : Scheme) (name : List ℕ) (key key' : Option (List ℕ)) (changes changes' : List Change) (stored : List StoredEntry)
    → ((k : ℕ) (mine : StoredEntry) → slice_get stored k ≡ Some mine → Keeps key changes key' changes' (epoch_in mine)) → AreInOrder 0 changes'
    → IsWatched hash scheme name key changes stored → IsWatched hash scheme name key' changes' stored
watched-keeps hash scheme name key key' changes changes' stored keeps order watched = record {
  order = order;
  decided = λ k mine at same. let all = keeps k mine at (watched.decided k mine at same) in all.0;
  backed = λ k mine at same.
      let all = keeps k mine at (watched.decided k mine at same) in
      subst (λ (a : Option (List ℕ)). IsShown hash scheme (entry_in mine) name a) (sym all.1) (watched.backed k mine at same);
}

-- the first two parts of a watched name
watched-name : (watch : Watch) (name : List ℕ) (epoch : ℕ) → is_watched watch name epoch ≡ true → name ≡ watch.name.now
watched-name watch name epoch e = by (bytes_eq name watch.name.now) (nat_le watch.since epoch) refl e
  where
    by : (a b : Bool) → bytes_eq name watch.name.now ≡ a → (a && b) ≡ true → name ≡ watch.name.now
    by true b is both = let decides = bytes_eq-Decides name watch.name.now in decides.0 is
    by false b is both = absurd (cc)

other-not : (answer : Option (List ℕ)) → ¬ (other_number answer ≡ 1)
other-not None = λ (e : 4 ≡ 1). omega arith
other-not (Some key) = λ (e : 3 ≡ 1). omega arith

accepted-of : (b : Bool) (answer : Option (List ℕ)) → (if b then 1 else other_number answer) ≡ 1 → b ≡ true
accepted-of true answer e = refl
accepted-of false answer e = absurd (other-not answer e)

module _ (hash : List ℕ → List ℕ) (scheme : Scheme) (old new : List StoredEntry) (place : ℕ) (was : StoredEntry) (at : slice_get old place ≡ Some was)
    (watch : Watch) (changes : List Change) (answer : Option (List ℕ)) where
  -- an epoch of the watched name was marked
  marked-watched : Marks old new place (Some (seen_number watch changes (epoch_in was) answer)) → IsShown hash scheme (entry_in was) watch.name.now answer
      → IsWatched hash scheme watch.name.now (wanted watch.key.now) changes old
      → IsWatched hash scheme watch.name.now (wanted watch.key.now) (marked (wanted watch.key.now) changes (epoch_in was) answer) new
  marked-watched marks shown watched =
      let key = wanted watch.key.now in
      let number : Option ℕ = Some (seen_number watch changes (epoch_in was) answer) in
      let then_marked = marked key changes (epoch_in was) answer in
      let decides : IsSame (seen_number watch changes (epoch_in was) answer) → IsDecided then_marked (epoch_in was) × (expected key then_marked (epoch_in was) ≡ answer) =
      λ says. marked-decides 0 key changes (epoch_in was) answer watched.order (accepted-of (is_accepted key changes (epoch_in was) answer) answer says) in
      let all : (k : ℕ) (x : StoredEntry) → slice_get new k ≡ Some x → IsSame x.seen → IsDecided then_marked (epoch_in x) × IsShown hash scheme (entry_in x) watch.name.now (expected key then_marked (epoch_in x)) =
      λ k x at_x same.
      let y = was_at old new place was at number marks k x at_x in
      subst (λ (e : Entry). IsDecided then_marked e.body.t × IsShown hash scheme e watch.name.now (expected key then_marked e.body.t)) y.2 (⊎_elim
      (λ (stored : IsSame x.seen → IsSame y.0.seen).
      let before = watched.decided k y.0 y.1 (stored same) in
      let keeps = marked-keeps 0 key changes (epoch_in was) answer (epoch_in y.0) watched.order before in
      (keeps.0, subst (λ (a : Option (List ℕ)). IsShown hash scheme (entry_in y.0) watch.name.now a) (sym keeps.1) (watched.backed k y.0 y.1 (stored same))))
      (λ (here : (k ≡ place) × (IsSame x.seen → SaysSame number)).
      let is : was ≡ y.0 = same_Some was y.0 (sym at ∙ ap (slice_get old) (sym here.0) ∙ y.1) in
      let reported = decides (here.1 same) in
      subst (λ (z : StoredEntry). IsDecided then_marked (epoch_in z) × IsShown hash scheme (entry_in z) watch.name.now (expected key then_marked (epoch_in z))) is
      (reported.0, subst (λ (a : Option (List ℕ)). IsShown hash scheme (entry_in was) watch.name.now a) (sym reported.1) shown))
      y.3) in
      record {
        order = marked-order 0 key changes (epoch_in was) answer watched.order;
        decided = λ k x at_x same. let it = all k x at_x same in it.0;
        backed = λ k x at_x same. let it = all k x at_x same in it.1;
      }

  -- what a lookup marks
  pub given-watched : (name : List ℕ) (number : Option ℕ) (now : List Change) → Marks old new place number → number ≡ given_number (Some watch) changes name (epoch_in was) answer
      → now ≡ given_changes (Some watch) changes name (epoch_in was) answer → IsShown hash scheme (entry_in was) name answer
      → IsWatched hash scheme watch.name.now (wanted watch.key.now) changes old → IsWatched hash scheme watch.name.now (wanted watch.key.now) now new
  given-watched name number now marks is_number is_now shown watched = by (is_watched watch name (epoch_in was)) refl
    where
      by : (b : Bool) → is_watched watch name (epoch_in was) ≡ b → IsWatched hash scheme watch.name.now (wanted watch.key.now) now new
      by true e =
          let number_is : number ≡ Some (seen_number watch changes (epoch_in was) answer) =
          is_number ∙ ap (λ (b : Bool). if b then Some (seen_number watch changes (epoch_in was) answer) else None) e in
          let then_is : now ≡ marked (wanted watch.key.now) changes (epoch_in was) answer =
          is_now ∙ ap (λ (b : Bool). if b then marked (wanted watch.key.now) changes (epoch_in was) answer else changes) e in
          subst (λ (l : List Change). IsWatched hash scheme watch.name.now (wanted watch.key.now) l new) (sym then_is)
          (marked-watched (subst (Marks old new place) number_is marks)
          (subst (λ (n : List ℕ). IsShown hash scheme (entry_in was) n answer) (watched-name watch name (epoch_in was) e) shown) watched)
      by false e =
          let number_is : number ≡ None = is_number ∙ ap (λ (b : Bool). if b then Some (seen_number watch changes (epoch_in was) answer) else None) e in
          let then_is : now ≡ changes = is_now ∙ ap (λ (b : Bool). if b then marked (wanted watch.key.now) changes (epoch_in was) answer else changes) e in
          let new_is : new ≡ old = subst (Marks old new place) number_is marks in
          subst (λ (l : List Change). IsWatched hash scheme watch.name.now (wanted watch.key.now) l new) (sym then_is)
          (subst (λ (l : List StoredEntry). IsWatched hash scheme watch.name.now (wanted watch.key.now) changes l) (sym new_is) watched)

-- whatever is watched
pub any-watched : (hash : List ℕ → List ℕ) (scheme : Scheme) (old new : List StoredEntry) (place : ℕ) (was : StoredEntry) (at : slice_get old place ≡ Some was)
    (watch : Option Watch) (changes : List Change) (answer : Option (List ℕ)) (name : List ℕ) (number : Option ℕ) (now : List Change)
    → Marks old new place number → number ≡ given_number watch changes name (epoch_in was) answer
    → now ≡ given_changes watch changes name (epoch_in was) answer → IsShown hash scheme (entry_in was) name answer
    → IfSome watch (λ w. IsWatched hash scheme w.name.now (wanted w.key.now) changes old → IsWatched hash scheme w.name.now (wanted w.key.now) now new)
any-watched hash scheme old new place was at None changes answer name number now marks is_number is_now shown = tt
any-watched hash scheme old new place was at (Some watch) changes answer name number now marks is_number is_now shown =
    given-watched hash scheme old new place was at watch changes answer name number now marks is_number is_now shown

-- an epoch that shows nothing yet needs nothing behind it
pub watched-push : (hash : List ℕ → List ℕ) (scheme : Scheme) (name : List ℕ) (key : Option (List ℕ)) (changes : List Change) (stored : List StoredEntry) (mine : StoredEntry)
    → ¬ IsSame mine.seen → IsWatched hash scheme name key changes stored → IsWatched hash scheme name key changes (with_one stored mine)
watched-push hash scheme name key changes stored mine unseen watched = record {
  order = watched.order;
  decided = λ k x at same. ⊎_elim
      (λ (old : (k < length stored) × (slice_get stored k ≡ Some x)). watched.decided k x old.1 same)
      (λ (new : (k ≡ length stored) × (mine ≡ x)). absurd (unseen (subst (λ (y : StoredEntry). IsSame y.seen) (sym new.1) same)))
      (which stored mine x k at);
  backed = backed-push hash scheme name (expected key changes) stored mine unseen watched.backed;
}

-- the last stored epochs, and the first ones
pub drop-watched : (hash : List ℕ → List ℕ) (scheme : Scheme) (name : List ℕ) (key : Option (List ℕ)) (changes : List Change) (stored : List StoredEntry) (n : ℕ)
    → IsWatched hash scheme name key changes stored → IsWatched hash scheme name key changes (drop n stored)
drop-watched hash scheme name key changes stored n watched = record {
  order = watched.order;
  decided = λ k x at same. watched.decided (n + k) x (sym (of_drop stored n k) ∙ at) same;
  backed = drop-backed hash scheme name (expected key changes) stored n watched.backed;
}

pub take-watcher : (hash : List ℕ → List ℕ) (scheme : Scheme) (name : List ℕ) (key : Option (List ℕ)) (changes : List Change) (first last : ℕ) (stored : List StoredEntry) (n : ℕ)
    → IsWatcher hash scheme name key changes first last stored → IsWatcher hash scheme name key changes first last (take n stored)
take-watcher hash scheme name key changes first last stored n owns =
    let part = take-owner hash scheme name (expected key changes) first last stored n
    (record { chain = owns.chain; begins = owns.begins; same = owns.same; backed = owns.watched.backed }) in
    record {
      chain = part.chain;
      begins = part.begins;
      same = part.same;
      watched = record {
        order = owns.watched.order;
        decided = λ k x at same. owns.watched.decided k x (of_take stored n k x at) same;
        backed = part.backed;
      };
    }
