-- Steps of a run.
use Rattle.std.proofs.Common.{◌≡◌, ◌<◌, ◌⊎◌, ℕ, List, [], ◌∷◌, ◌++◌, Some, refl, ap, sym, ◌∙◌, append_assoc, Bool, true, false, ◌&&◌, subst, take, drop, inl, inr, ◌+◌, ◌%◌, ◌^◌, ◌≢◌, length, arith}
use Rattle.std.proofs.lemmas.List.{take-append-drop, append-nil}
use Rattle.std.proofs.KnownBytes.{Appends-nil, Appends-kept, Consumes-nil}
use Rattle.std.specs.Io.KnownBytes.{Keeps}
use Rattle.coniks_lines.specs.Known.{Source, Sink, Takes, Appends, HasNoneLeft, next_count}
use Rattle.coniks_lines.specs.Lines.{whole_after, rest_after, last_line, lines_of, whole_lines}
use Rattle.coniks_lines.specs.Machine.{Answer, replies, state_after, all_accepted, output}
use Rattle.coniks_lines.specs.Runs.{IsBeginning, WritesOn, count_after, ComesToEnd, CannotWrite, CannotRead, AnswersLine, AnswersWhole, AnswersAll, WritesPart, Stops, Because, StopsFor, AreRead, EndsWell, EndsBadly, Streams, streams}
use Rattle.coniks_lines.specs.declared.fault.LineFault.{LineFault}
use Rattle.coniks_lines.specs.declared.fault.LineFault.TheVariants.{Read, Write, OutOfMemory}
use Rattle.coniks_lines.proofs.KnownLemmas.{Appends-then, taken_front, none_left-is}
use Rattle.coniks_lines.proofs.LinesLemmas.{NoNewlineBefore, whole_after-append, rest_after-append, line_ended, lines_around, no_lines}
use Rattle.coniks_lines.proofs.MachineLemmas.{replies-append, state_after-append, all_accepted-append}

-- no read failed, and none answered 0
pub record ReadsOn (old new : Source) : Type 0 where
  pub none_failed : new.failed ≡ old.failed
  pub not_ended : new.ends ≡ old.ends

-- so many reads there were
abbrev pub Counted : ℕ → ℕ → ℕ → Type 0
Counted k old new = ((k ≡ 0) × (new ≡ old)) ⊎ (new ≡ (old + k) % 2 ^ 64)

pub Counted-next : (k old mid new : ℕ) → Counted k old mid → new ≡ next_count mid → Counted (k + 1) old new
Counted-next k old mid new (inl same) is = inr (omega (arith, same.0, same.1, is))
Counted-next k old mid new (inr counted) is = inr (omega (arith, counted, is))

-- there were reads
pub Counted-some : (k old new : ℕ) → 0 < k → Counted k old new → new ≡ (old + k) % 2 ^ 64
Counted-some k old new some (inl same) = absurd (omega (arith, same.0, some))
Counted-some k old new some (inr counted) = counted

pub WritesOn-none : (old : Sink) → WritesOn old old
WritesOn-none old = record { none_failed = refl; not_stalled = refl }

pub WritesOn-then : (old mid new : Sink) → WritesOn old mid → WritesOn mid new → WritesOn old new
WritesOn-then old mid new p q = record { none_failed = q.none_failed ∙ p.none_failed; not_stalled = q.not_stalled ∙ p.not_stalled }

pub ReadsOn-then : (old mid new : Source) → ReadsOn old mid → ReadsOn mid new → ReadsOn old new
ReadsOn-then old mid new p q = record { none_failed = q.none_failed ∙ p.none_failed; not_ended = q.not_ended ∙ p.not_ended }

-- a read that answered 0, after others did not
pub ReadsOn-end : (old mid new : Source) → ReadsOn old mid → new.ends ≡ next_count mid.ends → HasNoneLeft new → ComesToEnd old new
ReadsOn-end old mid new p ends none = record { ended = ends ∙ ap next_count p.not_ended; none_left = none }

-- a write that did not go on, after others did
pub CannotWrite-then : (old mid new : Sink) → WritesOn old mid → CannotWrite mid new → CannotWrite old new
CannotWrite-then old mid new p (inl h) = inl (h ∙ ap (λ (n : ℕ). n + 1) p.none_failed)
CannotWrite-then old mid new p (inr h) = inr (h ∙ ap next_count p.not_stalled)

begins-then : {X : Type 0} (xs ys zs : List X) → IsBeginning ys zs → IsBeginning (xs ++ ys) (xs ++ zs)
begins-then xs ys zs h = record { more = h.more; whole = append_assoc xs ys h.more ∙ ap (λ l. xs ++ l) h.whole }

begins-longer : {X : Type 0} (xs ys zs : List X) → IsBeginning xs ys → IsBeginning xs (ys ++ zs)
begins-longer xs ys zs h = record { more = h.more ++ zs; whole = sym (append_assoc xs h.more zs) ∙ ap (λ l. l ++ zs) h.whole }

pub and_true : (b : Bool) → b ≡ (b && true)
and_true true = refl
and_true false = refl

-- a line with a byte is the last one
last_line-some : (line : List ℕ) → line ≢ [] → last_line line ≡ line ∷ []
last_line-some [] some = absurd (some refl)
last_line-some (b ∷ line) some = refl

pub count_after-append : (n : ℕ) (xs ys : List (List ℕ)) → count_after n (xs ++ ys) ≡ count_after (count_after n xs) ys
count_after-append n [] ys = refl
count_after-append n (line ∷ xs) ys = count_after-append (next_count n) xs ys

module _ {S : Type 0} (answer : S → List ℕ → Answer S) where
  -- one part after another
  pub AnswersWhole-then : {s t u : S} {buffered line rest xs ys : List ℕ} {old mid new : Sink} {a b : Bool}
      → AnswersWhole answer s buffered xs old mid t line a → AnswersWhole answer t line ys mid new u rest b → AnswersWhole answer s buffered (xs ++ ys) old new u rest (a && b)
  AnswersWhole-then {s} {t} {u} {buffered} {line} {rest} {xs} {ys} {old} {mid} {new} {a} {b} p q =
      let first = whole_after buffered xs in
      let second = whole_after (rest_after buffered xs) ys in
      let from = state_after answer s first in
      let ls : whole_after buffered (xs ++ ys) ≡ first ++ second = whole_after-append buffered xs ys in
      let moved : AnswersWhole answer from (rest_after buffered xs) ys mid new u rest b =
      subst (λ (z : S). AnswersWhole answer z (rest_after buffered xs) ys mid new u rest b) p.state_is (subst (λ (z : List ℕ). AnswersWhole answer t z ys mid new u rest b) p.rest_is q) in
      let both : Appends old (replies answer s (whole_after buffered (xs ++ ys))) new =
      rw (ls, replies-append answer s first second) (Appends-then old mid new (replies answer s first) (replies answer from second) p.written moved.written) in
      let state : u ≡ state_after answer s (whole_after buffered (xs ++ ys)) = rw (ls, state_after-append answer s first second) moved.state_is in
      let rest : rest ≡ rest_after buffered (xs ++ ys) = rw (rest_after-append buffered xs ys) moved.rest_is in
      let all : (a && b) ≡ all_accepted answer s (whole_after buffered (xs ++ ys)) = rw (ls, all_accepted-append answer s first second, p.all_is, moved.all_is) refl in
      let flushes : new.flushes ≡ count_after old.flushes (whole_after buffered (xs ++ ys)) =
      moved.flushes_is ∙ (ap (λ (n : ℕ). count_after n second) p.flushes_is ∙ (sym (count_after-append old.flushes first second) ∙ ap (count_after old.flushes) (sym ls))) in
      record { written = both; state_is = state; rest_is = rest; all_is = all; flushes_is = flushes; writes_on = WritesOn-then old mid new p.writes_on q.writes_on }

  -- the same under other names
  pub AnswersWhole-same : {s t : S} {buffered bytes bytes' rest rest' : List ℕ} {old new : Sink} {a a' : Bool}
      → AnswersWhole answer s buffered bytes old new t rest a → bytes' ≡ bytes → rest' ≡ rest → a' ≡ a → AnswersWhole answer s buffered bytes' old new t rest' a'
  AnswersWhole-same {s} {t} {buffered} {bytes} {bytes'} {rest} {rest'} {old} {new} {a} {a'} p e_bytes e_rest e_a =
      subst (λ (z : List ℕ). AnswersWhole answer s buffered z old new t rest' a') (sym e_bytes)
      (subst (λ (z : List ℕ). AnswersWhole answer s buffered bytes old new t z a') (sym e_rest) (subst (λ (z : Bool). AnswersWhole answer s buffered bytes old new t rest z) (sym e_a) p))

  -- a line that a newline ends
  pub line_answered : {t u : S} (line xs : List ℕ) {old new : Sink} {accepted : Bool} → NoNewlineBefore xs (length xs)
      → AnswersLine answer t (line ++ xs) old new u accepted → AnswersWhole answer t line (xs ++ 10 ∷ []) old new u [] accepted
  line_answered {t} {u} line xs {old} {new} {accepted} none h =
      let e = line_ended line xs [] none in
      let lines : (line ++ xs) ∷ [] ≡ whole_after line (xs ++ 10 ∷ []) = sym e.0 in
      record {
        written = subst (λ (ls : List (List ℕ)). Appends old (replies answer t ls) new) lines h.written;
        state_is = h.state_is ∙ ap (state_after answer t) lines;
        rest_is = sym e.1;
        all_is = h.accepted_is ∙ (and_true (answer t (line ++ xs)).accepted ∙ ap (all_accepted answer t) lines);
        flushes_is = h.flushed ∙ ap (count_after old.flushes) lines;
        writes_on = h.writes_on;
      }

  -- bytes with no newline, which are buffered
  pub no_line_answered : {t : S} (line xs : List ℕ) {old : Sink} → NoNewlineBefore xs (length xs) → AnswersWhole answer t line xs old old t (line ++ xs) true
  no_line_answered {t} line xs {old} none =
      let e = no_lines line xs none in
      let lines : [] ≡ whole_after line xs = sym e.0 in
      record {
        written = subst (λ (ls : List (List ℕ)). Appends old (replies answer t ls) old) lines (Appends-nil old.written);
        state_is = ap (state_after answer t) lines;
        rest_is = sym e.1;
        all_is = ap (all_accepted answer t) lines;
        flushes_is = ap (count_after old.flushes) lines;
        writes_on = WritesOn-none old;
      }

  -- the part of the next answer where more lines are left
  begins-left : (t : S) (part : List ℕ) (xs ys : List (List ℕ)) → IsBeginning part (replies answer t (take 1 xs)) → IsBeginning part (replies answer t (take 1 (xs ++ ys)))
  begins-left t part [] ys h = none part h.more h.whole where
    none : (part more : List ℕ) → part ++ more ≡ [] → IsBeginning part (replies answer t (take 1 ys))
    none [] more is = record { more = replies answer t (take 1 ys); whole = refl }
    none (b ∷ part) more is = absurd (cc)
  begins-left t part (x ∷ xs) ys h = h

  -- the same with more lines after them
  pub Stops-longer : (s : S) (xs ys : List (List ℕ)) (old new : Sink) → Stops answer s xs old new → Stops answer s (xs ++ ys) old new
  Stops-longer s xs ys old new h = record {
    done = h.done;
    left = h.left ++ ys;
    part = h.part;
    lines_are = sym (append_assoc h.done h.left ys) ∙ ap (λ ls. ls ++ ys) h.lines_are;
    begins = begins-left (state_after answer s h.done) h.part h.left ys h.begins;
    written = h.written;
    flushes_is = h.flushes_is;
  }

  -- after these lines were answered
  pub Stops-then : (s : S) (xs ys : List (List ℕ)) (old mid new : Sink) → Appends old (replies answer s xs) mid → mid.flushes ≡ count_after old.flushes xs
      → Stops answer (state_after answer s xs) ys mid new → Stops answer s (xs ++ ys) old new
  Stops-then s xs ys old mid new wrote flushed h =
      let from = state_after answer s xs in
      let all : replies answer s xs ++ (replies answer from h.done ++ h.part) ≡ replies answer s (xs ++ h.done) ++ h.part =
      sym (append_assoc (replies answer s xs) (replies answer from h.done) h.part) ∙ ap (λ r. r ++ h.part) (sym (replies-append answer s xs h.done)) in
      record {
        done = xs ++ h.done;
        left = h.left;
        part = h.part;
        lines_are = append_assoc xs h.done h.left ∙ ap (λ ls. xs ++ ls) h.lines_are;
        begins = subst (λ (z : S). IsBeginning h.part (replies answer z (take 1 h.left))) (sym (state_after-append answer s xs h.done)) h.begins;
        written = subst (λ (r : List ℕ). Appends old r new) all (Appends-then old mid new (replies answer s xs) (replies answer from h.done ++ h.part) wrote h.written);
        flushes_is = h.flushes_is ∙ (ap (λ (n : ℕ). count_after n h.done) flushed ∙ sym (count_after-append old.flushes xs h.done));
      }

  -- these lines were answered, and no more was written
  pub Stops-between : (s : S) (xs ys lines : List (List ℕ)) (old new : Sink) → xs ++ ys ≡ lines → Appends old (replies answer s xs) new → new.flushes ≡ count_after old.flushes xs
      → Stops answer s lines old new
  Stops-between s xs ys lines old new are wrote flushed = record {
    done = xs;
    left = ys;
    part = [];
    lines_are = are;
    begins = record { more = replies answer (state_after answer s xs) (take 1 ys); whole = refl };
    written = subst (λ (r : List ℕ). Appends old r new) (sym (append-nil (replies answer s xs))) wrote;
    flushes_is = flushed;
  }

  -- an error of the sink in the answer to a line
  pub stops_in_text : (t : S) (line bytes : List ℕ) (old new : Sink) (n : ℕ) (still : Source)
      → bytes ≡ (answer t line).text ++ 10 ∷ [] → Appends old (take n bytes) new → new.flushes ≡ old.flushes → CannotWrite old new → StopsFor answer t (line ∷ []) (streams still still old new) Write
  stops_in_text t line bytes old new n still is wrote flushed why = (
    record {
      done = [];
      left = line ∷ [];
      part = take n bytes;
      lines_are = refl;
      begins = record { more = drop n bytes; whole = take-append-drop n bytes ∙ is };
      written = wrote;
      flushes_is = flushed;
    },
    (refl, why),
  )

  -- a flush that failed after the answer to a line
  pub stops_at_flush : (t : S) (line bytes : List ℕ) (old mid new : Sink) (still : Source)
      → bytes ≡ (answer t line).text ++ 10 ∷ [] → Appends old bytes mid → mid.flushes ≡ old.flushes
      → WritesOn old mid → Keeps mid.written new.written → new.flushes ≡ mid.flushes → new.failed ≡ mid.failed + 1
      → StopsFor answer t (line ∷ []) (streams still still old new) Write
  stops_at_flush t line bytes old mid new still is wrote before on retained flushed failed = (
    record {
      done = [];
      left = line ∷ [];
      part = bytes;
      lines_are = refl;
      begins = record { more = []; whole = append-nil bytes ∙ is };
      written = Appends-kept old.written mid.written new.written bytes wrote retained;
      flushes_is = flushed ∙ before;
    },
    (refl, CannotWrite-then old mid new on (inl failed)),
  )

  -- want of memory before a line is answered
  pub stops_before : (t : S) (line : List ℕ) (sink : Sink) (still : Source) → StopsFor answer t (line ∷ []) (streams still still sink sink) OutOfMemory
  unfolding Stops-between
  stops_before t line sink still = (Stops-between t [] (line ∷ []) (line ∷ []) sink sink refl (Appends-nil sink.written) refl, (refl, (WritesOn-none sink, refl)))

  -- no read is 2^63 reads, and none that is still has failed
  not_still : (still : Source) → CannotRead still still → ⊥
  not_still still (ends, inl failed) = absurd (omega (arith, failed))
  not_still still (ends, inr reads) = absurd (omega (arith, reads))

  -- what an error says, after other lines were answered, and with more lines after them
  because-then : (e : LineFault) (still : Source) (old mid new : Sink) (left left' : List (List ℕ)) (part : List ℕ)
      → WritesOn old mid → Because e (streams still still mid new) left part → Because e (streams still still old new) left' part
  because-then Read still old mid new left left' part on h = absurd (not_still still h.0)
  because-then Write still old mid new left left' part on h = (refl, CannotWrite-then old mid new on h.1)
  because-then OutOfMemory still old mid new left left' part on h = (refl, (WritesOn-then old mid new on h.1.0, h.1.1))

  -- what an error says where the source went on before
  because-read : (e : LineFault) (from from' : Source) (old new : Sink) (left : List (List ℕ)) (part : List ℕ)
      → from'.failed ≡ from.failed → Because e (streams from from old new) left part → Because e (streams from from' old new) left part
  because-read Read from from' old new left part on h = absurd (not_still from h.0)
  because-read Write from from' old new left part on h = (on, h.1)
  because-read OutOfMemory from from' old new left part on h = (on, h.1)

  -- an error among later lines, after the first ones were answered
  pub StopsFor-then : (s : S) (xs ys : List (List ℕ)) (still : Source) (old mid new : Sink) (e : LineFault) → WritesOn old mid
      → Appends old (replies answer s xs) mid → mid.flushes ≡ count_after old.flushes xs
      → StopsFor answer (state_after answer s xs) ys (streams still still mid new) e → StopsFor answer s (xs ++ ys) (streams still still old new) e
  unfolding Stops-then
  StopsFor-then s xs ys still old mid new e on wrote flushed h =
      (Stops-then s xs ys old mid new wrote flushed h.0, because-then e still old mid new h.0.left h.0.left h.0.part on h.1)

  -- an error at the first of these lines
  StopsFor-longer : (s : S) (xs ys : List (List ℕ)) (still : Source) (old new : Sink) (e : LineFault) → StopsFor answer s xs (streams still still old new) e
      → StopsFor answer s (xs ++ ys) (streams still still old new) e
  unfolding Stops-longer
  StopsFor-longer s xs ys still old new e h = (Stops-longer s xs ys old new h.0, because-then e still old old new h.0.left (h.0.left ++ ys) h.0.part (WritesOn-none old) h.1)

  -- an error at a line that ends in the chunk
  pub stops_at_line : {s t : S} {buffered line chunk front : List ℕ} (xs ys : List ℕ) (still : Source) (e : LineFault) {old mid new : Sink} {a : Bool}
      → chunk ≡ front ++ (xs ++ 10 ∷ ys) → NoNewlineBefore xs (length xs) → AnswersWhole answer s buffered front old mid t line a → StopsFor answer t ((line ++ xs) ∷ []) (streams still still mid new) e
      → StopsFor answer s (whole_after buffered chunk) (streams still still old new) e
  stops_at_line {s} {t} {buffered} {line} {chunk} {front} xs ys still e {old} {mid} {new} {a} parts none p h =
      let first = whole_after buffered front in
      let from = state_after answer s first in
      let it = (rest_after buffered front ++ xs) ∷ [] in
      let at_line : StopsFor answer from it (streams still still mid new) e =
      subst (λ (z : S). StopsFor answer z it (streams still still mid new) e) p.state_is (subst (λ (z : List ℕ). StopsFor answer t ((z ++ xs) ∷ []) (streams still still mid new) e) p.rest_is h) in
      let later = whole_after [] ys in
      let lines : first ++ (it ++ later) ≡ whole_after buffered chunk = sym (lines_around buffered front xs ys none) ∙ ap (whole_after buffered) (sym parts) in
      subst (λ (ls : List (List ℕ)). StopsFor answer s ls (streams still still old new) e) lines
      (StopsFor-then s first (it ++ later) still old mid new e p.writes_on p.written p.flushes_is (StopsFor-longer from it later still mid new e at_line))

  -- memory that was refused after the lines of a front
  pub stops_after : {s t : S} {buffered line front : List ℕ} (rest : List ℕ) {chunk : List ℕ} (still : Source) {old new : Sink} {a : Bool}
      → front ++ rest ≡ chunk → AnswersWhole answer s buffered front old new t line a → StopsFor answer s (whole_after buffered chunk) (streams still still old new) OutOfMemory
  unfolding Stops-between
  stops_after {s} {t} {buffered} {line} {front} rest {chunk} still {old} {new} {a} parts p = (
    Stops-between s (whole_after buffered front) (whole_after (rest_after buffered front) rest) (whole_after buffered chunk) old new
        (sym (whole_after-append buffered front rest) ∙ ap (whole_after buffered) parts) p.written p.flushes_is,
    (refl, (p.writes_on, refl)),
  )

  -- an error in a later chunk
  pub ends_in_chunk : {s t : S} {line bytes : List ℕ} (chunk : List ℕ) {from from' : Source} {old mid new : Sink} {a : Bool} {e : LineFault}
      → Takes from (bytes ++ chunk) from' → from'.failed ≡ from.failed
      → AnswersWhole answer s [] bytes old mid t line a → StopsFor answer t (whole_after line chunk) (streams from from mid new) e
      → EndsBadly answer s (streams from from' old new) e
  ends_in_chunk {s} {t} {line} {bytes} chunk {from} {from'} {old} {mid} {new} {a} {e} took on p h =
      let first = whole_after [] bytes in
      let later = whole_after (rest_after [] bytes) chunk in
      let moved : StopsFor answer (state_after answer s first) later (streams from from mid new) e =
      subst (λ (z : S). StopsFor answer z later (streams from from mid new) e) p.state_is (subst (λ (z : List ℕ). StopsFor answer t (whole_after z chunk) (streams from from mid new) e) p.rest_is h) in
      let all = StopsFor-then s first later from old mid new e p.writes_on p.written p.flushes_is moved in
      record {
        bytes = bytes ++ chunk;
        lines = first ++ later;
        read = took;
        lines_are = inl (sym (whole_after-append [] bytes chunk));
        stops = (all.0, because-read e from from' old new all.0.left all.0.part on all.1);
      }

  -- the lines of bytes after whose last newline this line stands
  lines_of-last : (line bytes : List ℕ) → line ≢ [] → line ≡ rest_after [] bytes → lines_of bytes ≡ whole_after [] bytes ++ line ∷ []
  lines_of-last line bytes some is = ap (λ (ls : List (List ℕ)). whole_after [] bytes ++ ls) (ap last_line (sym is) ∙ last_line-some line some)

  -- an error at the last line
  pub ends_at_last : {s t : S} {line bytes : List ℕ} {from from' : Source} {old mid new : Sink} {a : Bool} {e : LineFault}
      → line ≢ [] → Takes from bytes from' → from'.failed ≡ from.failed → ComesToEnd from from'
      → AnswersWhole answer s [] bytes old mid t line a → StopsFor answer t (line ∷ []) (streams from from mid new) e
      → EndsBadly answer s (streams from from' old new) e
  ends_at_last {s} {t} {line} {bytes} {from} {from'} {old} {mid} {new} {a} {e} some took on ended p h =
      let first = whole_after [] bytes in
      let moved : StopsFor answer (state_after answer s first) (line ∷ []) (streams from from mid new) e = subst
      (λ (z : S). StopsFor answer z (line ∷ []) (streams from from mid new) e) p.state_is h in
      let all = StopsFor-then s first (line ∷ []) from old mid new e p.writes_on p.written p.flushes_is moved in
      record {
        bytes = bytes;
        lines = first ++ line ∷ [];
        read = took;
        lines_are = inr (ended, sym (lines_of-last line bytes some p.rest_is));
        stops = (all.0, because-read e from from' old new all.0.left all.0.part on all.1);
      }

  -- reads that failed, or met no end, after the whole lines were answered
  pub ends_unread : {s t : S} {line bytes : List ℕ} {from from' : Source} {old new : Sink} {a : Bool}
      → Takes from bytes from' → CannotRead from from' → AnswersWhole answer s [] bytes old new t line a → EndsBadly answer s (streams from from' old new) Read
  unfolding Stops-between
  ends_unread {s} {t} {line} {bytes} {from} {from'} {old} {new} {a} took why p = record {
    bytes = bytes;
    lines = whole_lines bytes;
    read = took;
    lines_are = inl refl;
    stops = (Stops-between s (whole_lines bytes) [] (whole_lines bytes) old new (append-nil (whole_lines bytes)) p.written p.flushes_is, (why, (p.writes_on, (refl, refl))));
  }

  -- want of memory before the first read
  pub ends_unbegun : (s : S) (from : Source) (to : Sink) → EndsBadly answer s (streams from from to to) OutOfMemory
  unfolding Stops-between
  ends_unbegun s from to = record {
    bytes = [];
    lines = [];
    read = Consumes-nil from.left;
    lines_are = inl refl;
    stops = (Stops-between s [] [] [] to to refl (Appends-nil to.written) refl, (refl, (WritesOn-none to, refl)));
  }

  -- the end, where nothing is buffered
  pub ends_empty : {s t : S} {line bytes : List ℕ} {old new : Sink} {all : Bool}
      → line ≡ [] → AnswersWhole answer s [] bytes old new t line all → AnswersAll answer s bytes old new t all
  ends_empty {s} {t} {line} {bytes} {old} {new} {all} none p =
      let first = whole_after [] bytes in
      let same : first ≡ lines_of bytes = sym (ap (λ (r : List ℕ). first ++ last_line r) (sym p.rest_is ∙ none) ∙ append-nil first) in
      record {
        written = subst (λ (ls : List (List ℕ)). Appends old (replies answer s ls) new) same p.written;
        state_is = p.state_is ∙ ap (state_after answer s) same;
        all_is = p.all_is ∙ ap (all_accepted answer s) same;
        flushes_is = p.flushes_is ∙ ap (count_after old.flushes) same;
        writes_on = p.writes_on;
      }

  -- the end, where the last line was answered
  pub ends_with_line : {s t u : S} {line bytes : List ℕ} {old mid new : Sink} {a accepted : Bool}
      → line ≢ [] → AnswersWhole answer s [] bytes old mid t line a → AnswersLine answer t line mid new u accepted
      → AnswersAll answer s bytes old new u (a && accepted)
  ends_with_line {s} {t} {u} {line} {bytes} {old} {mid} {new} {a} {accepted} some p q =
      let first = whole_after [] bytes in
      let from = state_after answer s first in
      let same : first ++ line ∷ [] ≡ lines_of bytes = sym (lines_of-last line bytes some p.rest_is) in
      let moved : AnswersLine answer from line mid new u accepted = subst (λ (z : S). AnswersLine answer z line mid new u accepted) p.state_is q in
      let both : Appends old (replies answer s (first ++ line ∷ [])) new =
      subst (λ (r : List ℕ). Appends old r new) (sym (replies-append answer s first (line ∷ [])))
      (Appends-then old mid new (replies answer s first) (replies answer from (line ∷ [])) p.written moved.written) in
      let goes : u ≡ state_after answer s (first ++ line ∷ []) = moved.state_is ∙ sym (state_after-append answer s first (line ∷ [])) in
      let holds : (a && accepted) ≡ all_accepted answer s (first ++ line ∷ []) =
      ap (λ (b : Bool). b && accepted) p.all_is
      ∙ ap (λ (b : Bool). all_accepted answer s first && b) (moved.accepted_is ∙ and_true (answer from line).accepted)
      ∙ sym (all_accepted-append answer s first (line ∷ [])) in
      record {
        written = subst (λ (ls : List (List ℕ)). Appends old (replies answer s ls) new) same both;
        state_is = goes ∙ ap (state_after answer s) same;
        all_is = holds ∙ ap (all_accepted answer s) same;
        flushes_is = moved.flushed ∙ (ap next_count p.flushes_is ∙ (sym (count_after-append old.flushes first (line ∷ [])) ∙ ap (count_after old.flushes) same));
        writes_on = WritesOn-then old mid new p.writes_on q.writes_on;
      }

  -- the same under other names
  pub AnswersAll-same : {s t t' : S} {bytes : List ℕ} {old new new' : Sink} {a a' : Bool}
      → AnswersAll answer s bytes old new t a → t' ≡ t → new' ≡ new → a' ≡ a → AnswersAll answer s bytes old new' t' a'
  AnswersAll-same {s} {t} {t'} {bytes} {old} {new} {new'} {a} {a'} p e_t e_new e_a =
      subst (λ (z : S). AnswersAll answer s bytes old new' z a') (sym e_t)
      (subst (λ (z : Sink). AnswersAll answer s bytes old z t a') (sym e_new) (subst (λ (z : Bool). AnswersAll answer s bytes old new t z) (sym e_a) p))

  -- all that was to be read was read
  pub whole_input : {s t : S} {input : List ℕ} {io : Streams} {all : Bool}
      → io.from.left ≡ Some input → EndsWell answer s io t all → AnswersAll answer s input io.to io.to' t all
  whole_input {s} {t} {input} {io} {all} reported h =
      let took = taken_front input io.from io.from' h.bytes reported h.read in
      let same : h.bytes ≡ input = sym (took.1.1 ∙ ap (λ (r : List ℕ). h.bytes ++ r) (none_left-is took.0 io.from' took.1.0 h.at_end.none_left) ∙ append-nil h.bytes) in
      subst (λ (bytes : List ℕ). AnswersAll answer s bytes io.to io.to' t all) same h.answers

  -- what a beginning of bytes was written of begins longer bytes
  WritesPart-longer : (xs ys : List ℕ) (to to' : Sink) → WritesPart xs to to' → WritesPart (xs ++ ys) to to'
  WritesPart-longer xs ys to to' h = record { part = h.part; begins = begins-longer h.part xs ys h.begins; written = h.written }

  -- the whole lines of a first part begin the lines of the bytes
  lines_of-split : (bytes rest : List ℕ) → whole_after [] bytes ++ (whole_after (rest_after [] bytes) rest ++ last_line (rest_after [] (bytes ++ rest))) ≡ lines_of (bytes ++ rest)
  lines_of-split bytes rest =
      let later = whole_after (rest_after [] bytes) rest in
      let last = last_line (rest_after [] (bytes ++ rest)) in
      sym (ap (λ (ls : List (List ℕ)). ls ++ last) (whole_after-append [] bytes rest) ∙ append_assoc (whole_after [] bytes) later last)

  -- what was written of the next answer begins the answers to the lines that are left
  begins-one : (t : S) (part : List ℕ) (left : List (List ℕ)) → IsBeginning part (replies answer t (take 1 left)) → IsBeginning part (replies answer t left)
  begins-one t part [] h = h
  begins-one t part (line ∷ left) h =
      subst (IsBeginning part) (sym (replies-append answer t (line ∷ []) left)) (begins-longer part (replies answer t (line ∷ [])) (replies answer (answer t line).state left) h)

  -- a beginning of the answers to its lines was written
  Stops-part : (s : S) (lines : List (List ℕ)) (to to' : Sink) → Stops answer s lines to to' → WritesPart (replies answer s lines) to to'
  Stops-part s lines to to' h =
      let from = state_after answer s h.done in
      let all : replies answer s h.done ++ replies answer from h.left ≡ replies answer s lines = sym (replies-append answer s h.done h.left) ∙ ap (replies answer s) h.lines_are in
      record {
        part = replies answer s h.done ++ h.part;
        begins = subst (IsBeginning (replies answer s h.done ++ h.part)) all (begins-then (replies answer s h.done) h.part (replies answer from h.left) (begins-one from h.part h.left h.begins));
        written = h.written;
      }

  -- after an error what was written begins the output of the whole input
  pub part_of_input : {s : S} {input : List ℕ} {io : Streams} {e : LineFault}
      → io.from.left ≡ Some input → EndsBadly answer s io e → WritesPart (output answer s input) io.to io.to'
  part_of_input {s} {input} {io} {e} reported h =
      let took = taken_front input io.from io.from' h.bytes reported h.read in
      subst (λ (bytes : List ℕ). WritesPart (output answer s bytes) io.to io.to') (sym took.1.1) (by_lines h.lines_are) where
        wrote : WritesPart (replies answer s h.lines) io.to io.to'
        wrote = Stops-part s h.lines io.to io.to' h.stops.0

        rest : List ℕ
        rest = (taken_front input io.from io.from' h.bytes reported h.read).0

        by_lines : AreRead io.from io.from' h.bytes h.lines → WritesPart (output answer s (h.bytes ++ rest)) io.to io.to'
        by_lines (inl are) =
            let more = whole_after (rest_after [] h.bytes) rest ++ last_line (rest_after [] (h.bytes ++ rest)) in
            let lines : h.lines ++ more ≡ lines_of (h.bytes ++ rest) = ap (λ (ls : List (List ℕ)). ls ++ more) are ∙ lines_of-split h.bytes rest in
            subst (λ (ls : List (List ℕ)). WritesPart (replies answer s ls) io.to io.to') lines
            (subst (λ (r : List ℕ). WritesPart r io.to io.to') (sym (replies-append answer s h.lines more))
            (WritesPart-longer (replies answer s h.lines) (replies answer (state_after answer s h.lines) more) io.to io.to' wrote))
        by_lines (inr ended) =
            let is = (taken_front input io.from io.from' h.bytes reported h.read).1.0 in
            let none : h.bytes ≡ h.bytes ++ rest = sym (ap (λ (r : List ℕ). h.bytes ++ r) (none_left-is rest io.from' is ended.0.none_left) ∙ append-nil h.bytes) in
            subst (λ (bytes : List ℕ). WritesPart (output answer s bytes) io.to io.to') none (subst (λ (ls : List (List ℕ)). WritesPart (replies answer s ls) io.to io.to') ended.1 wrote)
