-- Parts that are grown.
use Rattle.std.proofs.Common.{◌≡◌, ◌<◌, ◌≤◌, ◌+◌, ◌-◌, ◌*◌, ℕ, zero, suc, List, [], ◌∷◌, ◌++◌, length, length-append, append_assoc, take, drop, Bool, true, false, Option, Some, None, slice_get, refl, sym, ap, ◌∙◌, subst, arith}
use Rattle.std.proofs.lemmas.List.{length-map}
use Rattle.std.specs.List.{take-map, drop-map}
use Rattle.coniks_proof.specs.Bits.{child}
use Rattle.coniks_proof.specs.Entries.{half, under}
use Rattle.coniks_proof.specs.Changes.{overwritten, AreApart, AreInOrder}
use Rattle.coniks_proof.specs.Hashing.{Hashing}
use Rattle.coniks_proof.proofs.Lemmas.{apart-halves, half-overwritten, length-child, overwritten-nothing, under-child}
use Rattle.coniks_tree.specs.Table.{Numbered, Extends, Table}
use Rattle.coniks_tree.specs.Counts.{joined_count, new_nodes}
use Rattle.coniks_tree.proofs.Lemmas.{new-unchanged, new_joined}
use Rattle.coniks_tree.specs.Parts.{Stands, Fits, KeepsNone, Placed, AllPlaced, node_count, is_made, entries_in, entry_of_change}
use Rattle.coniks_tree.specs.declared.table.Record.{Record}
use Rattle.coniks_tree.specs.declared.table.Root.{Root}
use Rattle.coniks_tree.specs.declared.part.Change.{Change}
use Rattle.coniks_tree.specs.declared.part.Part.{Part}
use Rattle.coniks_threads.specs.Sides.{lefts, side}
use Rattle.coniks_threads.specs.Jobs.{in_range, jobs_below, job_of}
use Rattle.coniks_threads.specs.Grown.{IsOldMap, AllStored, IsNewPart, AreNewParts, AreDone, unchanged}
use Rattle.coniks_threads.specs.declared.jobs.Job.{Job}
use Rattle.coniks_threads.specs.Places.{AllFrom}
use Rattle.coniks_threads.proofs.SideLemmas.{lefts_few, length-left, length-right, side_is_half, side_in_order}
use Rattle.coniks_threads.proofs.JobLemmas.{IsAt, at_start, at_left, at_right, in_range-at}

pub stored : (all : List Record) (cs : List Change) → AllPlaced all cs → AllStored all (entries_in cs)
stored all [] h = tt
stored all (c ∷ cs) h = (h.0, stored all cs h.1)

pub stored_back : (all : List Record) (cs : List Change) → AllStored all (entries_in cs) → AllPlaced all cs
stored_back all [] h = tt
stored_back all (c ∷ cs) h = (h.0, stored_back all cs h.1)

-- the records of the entries on both sides
stored_append : (all : List Record) (xs ys : List Numbered) → AllStored all (xs ++ ys) → AllStored all xs × AllStored all ys
stored_append all [] ys h = (tt, h)
stored_append all (x ∷ xs) ys h = let r = stored_append all xs ys h.1 in ((h.0, r.0), r.1)

pub under_none : (p : List Bool) → under {B = ℕ} p [] ≡ []
under_none p = go 0 p
  where
    go : (level : ℕ) (bits : List Bool) → Rattle.coniks_proof.specs.Entries.under_from {B = ℕ} level bits [] ≡ []
    go level [] = refl
    go level (true ∷ bits) = go (suc level) bits
    go level (false ∷ bits) = go (suc level) bits

some_same : {x y : Job} → Some x ≡ Some y → x ≡ y
some_same e = cc

pub range_of_entries : (j : Job) (cs : List Change) → entries_in (in_range j cs) ≡ in_range j (entries_in cs)
range_of_entries j cs = sym (take-map entry_of_change (j.to - j.from) (drop j.from cs)) ∙ ap (take (j.to - j.from)) (sym (drop-map entry_of_change j.from cs))

count_sum : (h l r a b joined : ℕ) → a ≤ 1 + 2 * (h * l) → b ≤ 1 + 2 * (h * r) → joined ≤ a + b + 1 → 0 < l + r → joined ≤ 1 + 2 * ((h + 1) * (l + r))
count_sum h l r a b joined ha hb hj some = omega arith

module _ (by : Hashing) (t : Table) (root : Option Root) where
  -- the old part is the new part if there are no changes
  pub old_grown : (p : List Bool) (part : Part) → is_made part ≡ false → Fits (length t.nodes) (length p) part
      → node_count part ≤ 1 → (root ≡ None → KeepsNone part) → ((all : List Record) → Extends t.records all → Placed all part)
      → ((old : List Numbered) → IsOldMap by t root old → Stands by t part p (under p old)) → IsNewPart by t root p [] part
  old_grown p part unmade fits few keeps placed stands = record {
    fits = fits;
    count = omega arith;
    placed = λ all more none. placed all more;
    keeps = keeps;
    new = λ old is below ordered apart. new-unchanged by t part p (length p) (under p old) [] refl unmade (omega (arith, below)) (stands old is);
    stands = λ old is ordered apart. subst (Stands by t part p) (sym (overwritten-nothing (under p old))) (stands old is);
  }

  -- a grown part
  pub grown_from : (p : List Bool) (cs : List Change) (before after : Part) → is_made before ≡ false → node_count before ≤ 1
      → (root ≡ None → KeepsNone before) → ((all : List Record) → Extends t.records all → Placed all before)
      → ((old : List Numbered) → IsOldMap by t root old → Stands by t before p (under p old))
      → Fits (length t.nodes) (length p) after → (length cs ≡ 0 → after ≡ before)
      → ((all : List Record) → Extends t.records all → Placed all before → AllPlaced all cs → Placed all after)
      → (is_made before ≡ false → 0 < length cs → node_count after ≤ 1 + 2 * ((256 - length p) * length cs))
      → ((entries : List Numbered) → AreInOrder (length p) (entries_in cs) → AreApart (length p) (overwritten entries (entries_in cs))
      → Stands by t before p entries → Stands by t after p (overwritten entries (entries_in cs)))
      → (KeepsNone before → KeepsNone after)
      → (is_made before ≡ false → 0 < length p + length cs → (entries : List Numbered) → AreInOrder (length p) (entries_in cs) → AreApart (length p) (overwritten entries (entries_in cs))
      → Stands by t before p entries → node_count after ≡ new_nodes (length p) entries (entries_in cs))
      → IsNewPart by t root p (entries_in cs) after
  grown_from p cs before after old few none placed stood fits same places counts stands keeps news = record {
    fits = fits;
    count = subst (λ n. node_count after ≤ 1 + 2 * ((256 - length p) * n)) (sym (length-map cs entry_of_change)) (bound cs same counts);
    placed = λ all more there. places all more (placed all more) (stored_back all cs there);
    keeps = λ root-is. keeps (none root-is);
    new = λ map is below ordered apart. news old (omega (arith, below, length-map cs entry_of_change)) (under p map) ordered apart (stood map is);
    stands = λ map is ordered apart. stands (under p map) ordered apart (stood map is);
  }
    where
      bound : (ds : List Change) → (length ds ≡ 0 → after ≡ before)
          → (is_made before ≡ false → 0 < length ds → node_count after ≤ 1 + 2 * ((256 - length p) * length ds)) → node_count after ≤ 1 + 2 * ((256 - length p) * length ds)
      bound [] s c = omega (arith, ap node_count (s refl))
      bound (d ∷ ds) s c = c old (omega arith)

  -- one side of the entries under a prefix: what its part represents, and the number of its new nodes
  record IsSide (b : Bool) (p : List Bool) (es old : List Numbered) (part : Part) : Type 0 where
    stands : Stands by t part (child p b) (half b (length p) (overwritten (under p old) es))
    new : node_count part ≡ new_nodes (suc (length p)) (half b (length p) (under p old)) (half b (length p) es)

  side_of : (b : Bool) (p : List Bool) (es old : List Numbered) (part : Part) → length p < 256 → IsNewPart by t root (child p b) (side b (length p) es) part
      → IsOldMap by t root old → AreInOrder (length p) es → AreApart (length p) (overwritten (under p old) es) → IsSide b p es old part
  side_of b p es old part short g is ordered apart =
      let some = side b (length p) es in
      let some-is : some ≡ half b (length p) es = side_is_half b (length p) es short ordered in
      let whole : half b (length p) (overwritten (under p old) es) ≡ overwritten (under (child p b) old) some =
      half-overwritten b (length p) (under p old) es ∙ ap (λ z. overwritten z (half b (length p) es)) (sym (under-child p b old)) ∙ ap (overwritten (under (child p b) old)) (sym some-is) in
      let ordered' = side_in_order b p es short ordered in
      let apart' : AreApart (length (child p b)) (overwritten (under (child p b) old) some) =
      subst (λ k. AreApart k (overwritten (under (child p b) old) some)) (sym (length-child p b))
      (subst (AreApart (suc (length p))) whole (apart-halves b (length p) (overwritten (under p old) es) short apart)) in
      record {
        stands = subst (Stands by t part (child p b)) (sym whole) (g.stands old is ordered' apart');
        new = g.new old is (omega (arith, length-child p b)) ordered' apart' ∙ ap (λ k. new_nodes k (under (child p b) old) some) (length-child p b)
            ∙ ap (λ z. new_nodes (suc (length p)) z some) (under-child p b old) ∙ ap (new_nodes (suc (length p)) (half b (length p) (under p old))) some-is;
      }

  side_count : (b : Bool) (p : List Bool) (es : List Numbered) (part : Part) → IsNewPart by t root (child p b) (side b (length p) es) part
      → node_count part ≤ 1 + 2 * ((255 - length p) * length (side b (length p) es))
  side_count b p es part g =
      let deeper : 256 - length (child p b) ≡ 255 - length p = omega (arith, length-child p b) in
      subst (λ z. node_count part ≤ 1 + 2 * (z * length (side b (length p) es))) deeper g.count

  -- the parts of two neighbouring prefixes, joined
  pub joined_grown : (p : List Bool) (es : List Numbered) (left right part : Part) → length p < 256 → 0 < length es
      → IsNewPart by t root (child p false) (side false (length p) es) left → IsNewPart by t root (child p true) (side true (length p) es) right
      → Fits (length t.nodes) (length p) part → node_count part ≤ node_count left + node_count right + 1
      → node_count part ≡ joined_count left right → (KeepsNone left → KeepsNone right → KeepsNone part)
      → ((all : List Record) → Placed all left → Placed all right → Placed all part)
      → ((entries : List Numbered) → Stands by t left (child p false) (half false (length p) entries)
      → Stands by t right (child p true) (half true (length p) entries) → Stands by t part p entries)
      → IsNewPart by t root p es part
  joined_grown p es left right part short some gl gr fits few new keeps placed stands =
      let l = length (side false (length p) es) in
      let r = length (side true (length p) es) in
      let all-is : l + r ≡ length es = omega (arith, length-left (length p) es, length-right (length p) es, lefts_few (length p) es) in
      let here : 256 - length p ≡ (255 - length p) + 1 = omega arith in
      let sum = count_sum (255 - length p) l r (node_count left) (node_count right) (node_count part) (side_count false p es left gl) (side_count true p es right gr) few (omega arith) in
      record {
        fits = fits;
        count = subst (λ z. node_count part ≤ 1 + 2 * (z * length es)) (sym here) (subst (λ z. node_count part ≤ 1 + 2 * (((255 - length p) + 1) * z)) all-is sum);
        placed = λ all more there.
            let both = stored_append all (side false (length p) es) (side true (length p) es) (subst (AllStored all) (sym (Rattle.coniks_threads.proofs.SideLemmas.sides_whole (length p) es)) there) in
            placed all (gl.placed all more both.0) (gr.placed all more both.1);
        keeps = λ none. keeps (gl.keeps none) (gr.keeps none);
        new = λ old is below ordered apart.
            let on-left = side_of false p es old left short gl is ordered apart in
            let on-right = side_of true p es old right short gr is ordered apart in
            new_joined by t left right (node_count part) p (under p old) es short some on-left.new on-right.new on-left.stands on-right.stands new;
        stands = λ old is ordered apart. stands (overwritten (under p old) es) (side_of false p es old left short gl is ordered apart).stands
            (side_of true p es old right short gr is ordered apart).stands;
      }

  -- the parts of the jobs of one side, then those of the other
  done_append : (all : List Numbered) (js ks : List Job) (xs : List Part) → AreDone by t root all (js ++ ks) xs
      → (ls : List Part) × (rs : List Part) × (xs ≡ ls ++ rs) × AreDone by t root all js ls × AreDone by t root all ks rs
  done_append all [] ks xs h = ([], xs, refl, tt, h)
  done_append all (j ∷ js) ks [] h = absurd h
  done_append all (j ∷ js) ks (x ∷ xs) h = let r = done_append all js ks xs h.1 in (x ∷ r.0, r.1, ap (λ l. x ∷ l) r.2, (h.0, r.3), r.4)

  done_none : (all : List Numbered) (xs : List Part) → AreDone by t root all [] xs → xs ≡ []
  done_none all [] h = refl
  done_none all (x ∷ xs) h = absurd h

  done_one : (all : List Numbered) (j : Job) (xs : List Part) → AreDone by t root all (j ∷ []) xs
      → (x : Part) × (xs ≡ x ∷ []) × IsNewPart by t root j.prefix (in_range j all) x
  done_one all j [] h = absurd h
  done_one all j (x ∷ xs) h = (x, ap (λ l. x ∷ l) (done_none all xs h.1), h.0)

  -- the parts of the jobs are those of the prefixes
  pub done_grown : (h : ℕ) (p : List Bool) (from : ℕ) (all es : List Numbered) (xs : List Part) → IsAt all from es → AreDone by t root all (jobs_below h p from es) xs
      → AreNewParts by t root h p es xs
  done_grown zero p from all [] xs at d = done_none all xs d
  done_grown (suc h) p from all [] xs at d = done_none all xs d
  done_grown zero p from all (e ∷ es) xs at d =
      let one = done_one all (job_of p from (from + length (e ∷ es))) xs d in
      (one.0, one.1, subst (λ z. IsNewPart by t root p z one.0) (in_range-at p from all (e ∷ es) at) one.2)
  done_grown (suc h) p from all (e ∷ es) xs at d =
      let both = done_append all (jobs_below h (child p false) from (side false (length p) (e ∷ es)))
      (jobs_below h (child p true) (from + lefts (length p) (e ∷ es)) (side true (length p) (e ∷ es))) xs d in (
        both.0,
        both.1,
        both.2,
        done_grown h (child p false) from all (side false (length p) (e ∷ es)) both.0 (at_left all from (length p) (e ∷ es) at) both.3,
        done_grown h (child p true) (from + lefts (length p) (e ∷ es)) all (side true (length p) (e ∷ es)) both.1 (at_right all from (length p) (e ∷ es) at) both.4,
      )

  pub grown_none : (h : ℕ) (p : List Bool) (xs : List Part) → AreNewParts by t root h p [] xs → xs ≡ []
  grown_none zero p xs g = g
  grown_none (suc h) p xs g = g

  -- at the split depth there is one part
  pub grown_one : (depth : ℕ) (p : List Bool) (es : List Numbered) (xs : List Part) → length p ≡ depth → 0 < length es → AreNewParts by t root (depth - length p) p es xs
      → (x : Part) × (xs ≡ x ∷ []) × IsNewPart by t root p es x
  grown_one depth p [] xs same some g = absurd (omega arith)
  grown_one depth p (e ∷ es) xs same some g =
      let none : depth - length p ≡ zero = omega arith in
      subst (λ h. AreNewParts by t root h p (e ∷ es) xs) none g

  -- the parts of a prefix above the split depth, after those before: those of its left side, then those of its right side
  pub record OnSides (depth : ℕ) (p : List Bool) (es : List Numbered) (before mine : List Part) : Type 0 where
    pub left : List Part
    pub right : List Part
    pub above : length p < depth
    pub parts : before ++ mine ≡ before ++ left ++ right
    pub on_left : AreNewParts by t root (depth - length (child p false)) (child p false) (side false (length p) es) left
    pub on_right : AreNewParts by t root (depth - length (child p true)) (child p true) (side true (length p) es) right

  pub grown_sides : (depth : ℕ) (p : List Bool) (es : List Numbered) (before mine : List Part) → length p < depth → 0 < length es
      → AreNewParts by t root (depth - length p) p es mine → OnSides depth p es before mine
  grown_sides depth p [] before mine above some g = absurd (omega arith)
  grown_sides depth p (e ∷ es) before mine above some g =
      let here : depth - length p ≡ suc (depth - suc (length p)) = omega arith in
      let s = subst (λ h. AreNewParts by t root h p (e ∷ es) mine) here g in
      record {
        left = s.0;
        right = s.1;
        above = above;
        parts = ap (λ xs. before ++ xs) s.2 ∙ sym (append_assoc before s.0 s.1);
        on_left = rw (length-child p false) s.3;
        on_right = rw (length-child p true) s.4;
      }

  -- the parts of a side, for the prefix and the entries that the code computed
  pub grown_as : (b : Bool) (depth : ℕ) (p : List Bool) (es : List Numbered) (xs : List Part) {level : ℕ} {q : List Bool} {some : List Numbered}
      → level ≡ length p → q ≡ child p b → some ≡ side b level es
      → AreNewParts by t root (depth - length (child p b)) (child p b) (side b (length p) es) xs → AreNewParts by t root (depth - length q) q some xs
  grown_as b depth p es xs {level} {q} {some} level-is q-is some-is g =
      subst (λ z. AreNewParts by t root (depth - length z) z some xs) (sym q-is)
      (subst (λ l. AreNewParts by t root (depth - length (child p b)) (child p b) l xs) (sym (some-is ∙ ap (λ k. side b k es) level-is)) g)

  -- the parts of the jobs, by their numbers
  module _ (cs : List Change) (jobs : List Job) (part : ℕ → Part → Type 0)
      (each : (n : ℕ) (x : Part) → part n x → (job : Job) × (slice_get jobs n ≡ Some job) × IsNewPart by t root job.prefix (entries_in (in_range job cs)) x) where
    pub numbered_done : (k : ℕ) (before js : List Job) (xs : List Part) → jobs ≡ before ++ js → length before ≡ k
        → AllFrom part k xs → length xs ≡ length js → AreDone by t root (entries_in cs) js xs
    numbered_done k before [] [] is at h same = tt
    numbered_done k before [] (x ∷ xs) is at h same = absurd (omega arith)
    numbered_done k before (j ∷ js) [] is at h same = absurd (omega arith)
    numbered_done k before (j ∷ js) (x ∷ xs) is at h same =
        (here, numbered_done (suc k) (before ++ j ∷ []) js xs (is ∙ sym (append_assoc before (j ∷ []) js)) (omega (arith, length-append before (j ∷ []))) h.1 (omega arith))
      where
        there : (bs : List Job) (n : ℕ) → length bs ≡ n → slice_get (bs ++ j ∷ js) n ≡ Some j
        there [] zero e = refl
        there [] (suc n) e = absurd (omega arith)
        there (b ∷ bs) zero e = absurd (omega arith)
        there (b ∷ bs) (suc n) e = there bs n (omega arith)

        here : IsNewPart by t root j.prefix (in_range j (entries_in cs)) x
        here = let f = each k x h.0 in
            let same_job : f.0 ≡ j = some_same (sym f.1 ∙ ap (λ l. slice_get l k) is ∙ there before k at) in
            let same_range : entries_in (in_range j cs) ≡ in_range j (entries_in cs) = range_of_entries j cs in
            subst (λ es. IsNewPart by t root j.prefix es x) same_range
            (subst (λ (b : Job). IsNewPart by t root b.prefix (entries_in (in_range b cs)) x) same_job f.2)

  -- the parts of all jobs, beginning at the root
  pub parts_ready : (depth : ℕ) (p : List Bool) (es : List Numbered) (js made : List Job) (xs : List Part)
      → p ≡ [] → js ≡ made → made ≡ jobs_below depth [] 0 es → AreDone by t root es js xs
      → AreNewParts by t root (depth - length p) p es xs
  parts_ready depth p es js made xs p-is js-is made-is done =
      subst (λ z. AreNewParts by t root (depth - length z) z es xs) (sym p-is)
      (let whole : depth ≡ depth - 0 = omega arith in subst (λ h. AreNewParts by t root h [] es xs) whole
      (done_grown depth [] 0 es es xs (at_start es) (subst (λ l. AreDone by t root es l xs) (js-is ∙ made-is) done)))

  -- without changes
  pub unchanged_stands : (cs : List Change) (entries : List Numbered) (part : Part) → part ≡ unchanged root → length cs ≡ 0 → IsOldMap by t root entries
      → Stands by t part [] (overwritten entries (entries_in cs))
  unchanged_stands [] entries part is none old =
      subst (Stands by t part []) (sym (overwritten-nothing entries)) (subst (λ x. Stands by t x [] entries) (sym is) (go root old))
    where
      go : (r : Option Root) → IsOldMap by t r entries → Stands by t (unchanged r) [] entries
      go (Some r) shows = (shows, λ below. absurd (omega arith))
      go None none = none
  unchanged_stands (c ∷ cs) entries part is none old = absurd (omega arith)
