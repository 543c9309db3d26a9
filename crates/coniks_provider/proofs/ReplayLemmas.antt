-- The loops over the elements of a line of a snapshot.
use Rattle.std.proofs.Common.{◌≡◌, ℕ, ◌+◌, ◌<◌, ◌≤◌, List, [], ◌∷◌, ◌++◌, Bool, length, drop, get_or, refl, ap, subst, sym, ◌∙◌, arith, drop_of_length-le, Some, None, true, false}
use Rattle.std.specs.Prelude.{◌==◌, ◌&&◌, ◌⊎◌, nat_le, option_and_then, Ok, Err}
use Rattle.std.proofs.lemmas.Bool.Decides.{nat_tests}
use Rattle.coniks_lines.specs.Known.{Appends, Takes as Reads, next_count}
use Rattle.coniks_lines.specs.Runs.{ComesToEnd, Streams}
use Rattle.coniks_programs.specs.Members.{array_in, object_in}
use Rattle.coniks_programs.specs.Turns.{Takes}
use Rattle.coniks_provider.specs.Turns.{ProviderState}
use Rattle.coniks_provider.specs.declared.replay.Place.{Place as Stage}
use Rattle.coniks_provider.specs.declared.replay.Step.{Step as Done}
use Rattle.coniks_chain.specs.Entries.{entry_from}
use Rattle.serde_json.specs.Data.{Data, item}
use Rattle.serde_json.specs.View.{view, items_view}
use Rattle.serde_json.specs.declared.value.Value.{Value}
use Rattle.coniks_provider.specs.Replays.{IsReplayed, IsReportOf, Replay, is_on, is_replayed, line_turn, place_after, place_of, replay_after, replay_at, replay_of, report_text, step_of}
use Rattle.coniks_provider.specs.Replays.{after_bodies, after_body, after_entries, after_entry, count_of, digits_of, group_in, if_group, needed, or_differs, with_body, with_entry}
use Rattle.coniks_programs.specs.declared.printing.Member.TheVariants.{Entries, Replaced}
use Rattle.coniks_provider.specs.declared.replay.refusal.Why.{Why}
use Rattle.coniks_provider.specs.declared.replay.refusal.Why.TheVariants.{Differs, Member}
use Rattle.coniks_provider.specs.declared.replay.snapshot.Snapshot.{Snapshot}
use Rattle.coniks_provider.proofs.OperationsLemmas.{here}

-- there are as many elements as values
pub count_view : (vs : List Value) → count_of (items_view vs) ≡ length vs
count_view [] = refl
count_view (v ∷ vs) = let rest = count_view vs in omega (arith, rest)

-- elements that are too few or too many, or neither
group_off : (vs : List Value) → ((length vs == 0) ≡ true) ⊎ (((length vs == 0) ≡ false) × (1000 < length vs)) → if_group (items_view vs) ≡ None
group_off vs out =
    let n = count_view vs in
    let off : (nat_le 1 (count_of (items_view vs)) && nat_le (count_of (items_view vs)) 1000) ≡ false = rw n (grind (arith, nat_tests)) in
    rw off refl

group_on : (vs : List Value) → (length vs == 0) ≡ false → length vs ≤ 1000 → if_group (items_view vs) ≡ Some (items_view vs)
group_on vs some few =
    let n = count_view vs in
    let on : (nat_le 1 (count_of (items_view vs)) && nat_le (count_of (items_view vs)) 1000) ≡ true = rw n (grind (arith, nat_tests)) in
    rw on refl

pub no_group : (name : List ℕ) (d : Data) (vs : List Value) → Some (items_view vs) ≡ array_in name d
    → ((length vs == 0) ≡ true) ⊎ (((length vs == 0) ≡ false) × (1000 < length vs)) → None ≡ group_in name d
no_group name d vs is out = sym (ap (option_and_then if_group) (sym is) ∙ group_off vs out)

pub whole_group : (name : List ℕ) (d : Data) (vs : List Value) → Some (items_view vs) ≡ array_in name d → (length vs == 0) ≡ false → length vs ≤ 1000
    → Some (items_view vs) ≡ group_in name d
whole_group name d vs is some few = sym (ap (option_and_then if_group) (sym is) ∙ group_on vs some few)

-- an element is no entry, or an entry that doesn't follow, or one that does
pub no_entry : (s : Snapshot) (d : Data) → digits_of 209 d ≡ None → after_entry s d ≡ Err (Member Entries)
no_entry s d none = ap (λ found. needed found Entries (λ bytes. or_differs (with_entry s (entry_from bytes)))) none

pub other_entry : (s : Snapshot) (d : Data) (bytes : List ℕ) → digits_of 209 d ≡ Some bytes → with_entry s (entry_from bytes) ≡ None → after_entry s d ≡ Err Differs
other_entry s d bytes some none = ap (λ found. needed found Entries (λ b. or_differs (with_entry s (entry_from b)))) some ∙ ap or_differs none

pub next_entry : (s : Snapshot) (d : Data) (bytes : List ℕ) (next : Snapshot) → digits_of 209 d ≡ Some bytes → with_entry s (entry_from bytes) ≡ Some next → after_entry s d ≡ Ok next
next_entry s d bytes next some is = ap (λ found. needed found Entries (λ b. or_differs (with_entry s (entry_from b)))) some ∙ ap or_differs is

-- the same of a body
pub no_body : (s : Snapshot) (d : Data) → digits_of 145 d ≡ None → after_body s d ≡ Err (Member Replaced)
no_body s d none = ap (λ found. needed found Replaced (λ bytes. or_differs (with_body s))) none

pub other_body : (s : Snapshot) (d : Data) (bytes : List ℕ) → digits_of 145 d ≡ Some bytes → with_body s ≡ None → after_body s d ≡ Err Differs
other_body s d bytes some none = ap (λ found. needed found Replaced (λ b. or_differs (with_body s))) some ∙ ap or_differs none

pub next_body : (s : Snapshot) (d : Data) (bytes : List ℕ) (next : Snapshot) → digits_of 145 d ≡ Some bytes → with_body s ≡ Some next → after_body s d ≡ Ok next
next_body s d bytes next some is = ap (λ found. needed found Replaced (λ b. or_differs (with_body s))) some ∙ ap or_differs is

module _ (vs : List Value) (i : ℕ) (start s : Snapshot) where
  -- the result for the values is that for the rest
  abbrev EntriesLeft : Type 0
  EntriesLeft = after_entries start (items_view vs) ≡ after_entries s (items_view (drop i vs))

  abbrev BodiesLeft : Type 0
  BodiesLeft = after_bodies start (items_view vs) ≡ after_bodies s (items_view (drop i vs))

  entries_here : (v : Value) → i < length vs → v ≡ get_or vs i v → EntriesLeft
      → after_entries start (items_view vs) ≡ after_entries s (item (view v) (items_view (drop (i + 1) vs)))
  entries_here v lt is so_far = so_far ∙ ap (after_entries s) (here vs i v lt is)

  bodies_here : (v : Value) → i < length vs → v ≡ get_or vs i v → BodiesLeft
      → after_bodies start (items_view vs) ≡ after_bodies s (item (view v) (items_view (drop (i + 1) vs)))
  bodies_here v lt is so_far = so_far ∙ ap (after_bodies s) (here vs i v lt is)

  pub entry_taken : (v : Value) (next : Snapshot) → i < length vs → v ≡ get_or vs i v → after_entry s (view v) ≡ Ok next → EntriesLeft
      → after_entries start (items_view vs) ≡ after_entries next (items_view (drop (i + 1) vs))
  entry_taken v next lt is ok so_far = entries_here v lt is so_far ∙ (rw ok refl)

  pub entry_refused : (v : Value) (w : Why) → i < length vs → v ≡ get_or vs i v → after_entry s (view v) ≡ Err w → EntriesLeft
      → Err w ≡ after_entries start (items_view vs)
  entry_refused v w lt is bad so_far = sym (entries_here v lt is so_far ∙ (rw bad refl))

  pub entries_taken : length vs ≤ i → EntriesLeft → Ok s ≡ after_entries start (items_view vs)
  entries_taken past so_far = sym (so_far ∙ ap (λ (left : List Value). after_entries s (items_view left)) (drop_of_length-le vs past))

  pub body_taken : (v : Value) (next : Snapshot) → i < length vs → v ≡ get_or vs i v → after_body s (view v) ≡ Ok next → BodiesLeft
      → after_bodies start (items_view vs) ≡ after_bodies next (items_view (drop (i + 1) vs))
  body_taken v next lt is ok so_far = bodies_here v lt is so_far ∙ (rw ok refl)

  pub body_refused : (v : Value) (w : Why) → i < length vs → v ≡ get_or vs i v → after_body s (view v) ≡ Err w → BodiesLeft
      → Err w ≡ after_bodies start (items_view vs)
  body_refused v w lt is bad so_far = sym (bodies_here v lt is so_far ∙ (rw bad refl))

  pub bodies_taken : length vs ≤ i → BodiesLeft → Ok s ≡ after_bodies start (items_view vs)
  bodies_taken past so_far = sym (so_far ∙ ap (λ (left : List Value). after_bodies s (items_view left)) (drop_of_length-le vs past))

-- ---- a replay

-- a line that was taken or refused
pub advanced : (r : Replay) (line : List ℕ) (lines : ℕ) (place : Stage) (step : Done) (s : ProviderState) → is_on r.place ≡ true → lines ≡ r.lines + 1
    → Takes (line_turn r (object_in line)) (step_of step) s → place_of place ≡ place_after r.lines (step_of step) → replay_at lines place s ≡ replay_after r line
advanced r line lines place step s on more takes is = rw (on, more, is, takes.0, takes.1) refl

-- a report of the replay of all bytes that was written
pub replayed_by : (io : Streams) (all : Bool) (bytes : List ℕ) (m : Replay) (text line : List ℕ) → Reads io.from bytes io.from' → ComesToEnd io.from io.from'
    → m ≡ replay_of bytes → IsReportOf m all text → line ≡ text ++ 10 ∷ [] → Appends io.to line io.to' → io.to'.flushes ≡ next_count io.to.flushes → IsReplayed io all
replayed_by io all bytes m text line read at_end is report line_is written flushed = record {
  bytes = bytes;
  read = read;
  at_end = at_end;
  all_is = report.0 ∙ ap is_replayed is;
  written = subst (λ x. Appends io.to x io.to') (line_is ∙ ap (λ x. x ++ 10 ∷ []) (report.1 ∙ ap report_text is)) written;
  flushed = flushed;
}
