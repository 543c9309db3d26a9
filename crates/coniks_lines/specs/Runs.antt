-- The state of streams and machine after a run over the lines of a source.
use Rattle.std.specs.Prelude.{◌≡◌, ◌⊎◌, ℕ, ◌+◌, ◌%◌, ◌^◌, ◌++◌, List, [], ◌∷◌, take, Bool, Some, Result, IfOk, IfErr, OnErr}
use Rattle.coniks_lines.specs.Known.{Source, Sink, Takes, Appends, HasNoneLeft, next_count}
use Rattle.coniks_lines.specs.Lines.{whole_after, rest_after, whole_lines, lines_of}
use Rattle.coniks_lines.specs.Machine.{Answer, replies, state_after, all_accepted, output}
use Rattle.coniks_lines.specs.declared.fault.LineFault.{LineFault}
use Rattle.coniks_lines.specs.declared.fault.LineFault.TheVariants.{Read, Write, OutOfMemory}

-- the two streams of a run, each before it and after it
pub record Streams : Type 0 where
  pub from : Source
  pub from' : Source
  pub to : Sink
  pub to' : Sink

-- the streams in these four states
abbrev pub streams : Source → Source → Sink → Sink → Streams
streams from from' to to' = record { from = from; from' = from'; to = to; to' = to' }

-- xs begins ys
pub record IsBeginning {X : Type 0} (xs ys : List X) : Type 0 where
  pub more : List X
  pub whole : xs ++ more ≡ ys

-- a beginning of these bytes was written
pub record WritesPart (bytes : List ℕ) (old new : Sink) : Type 0 where
  pub part : List ℕ
  pub begins : IsBeginning part bytes
  pub written : Appends old part new

-- no write or flush failed, and no write took 0 bytes
pub record WritesOn (old new : Sink) : Type 0 where
  pub none_failed : new.failed ≡ old.failed
  pub not_stalled : new.stalls ≡ old.stalls

-- the source is at its end: one read returned 0, and no byte is left, if that is known
pub record ComesToEnd (old new : Source) : Type 0 where
  pub ended : new.ends ≡ next_count old.ends
  pub none_left : HasNoneLeft new

-- one write or flush failed, or one write took 0 bytes
abbrev pub CannotWrite : Sink → Sink → Type 0
CannotWrite old new = (new.failed ≡ old.failed + 1) ⊎ (new.stalls ≡ next_count old.stalls)

-- no read returned 0, and one failed, or there were 2^63
abbrev pub CannotRead : Source → Source → Type 0
CannotRead old new = (new.ends ≡ old.ends) × ((new.failed ≡ old.failed + 1) ⊎ (new.reads ≡ (old.reads + 2 ^ 63) % 2 ^ 64))

-- a count of 64 bits that wraps, after one more for each of these lines
abbrev pub count_after : ℕ → List (List ℕ) → ℕ
count_after n [] = n
count_after n (line ∷ lines) = count_after (next_count n) lines

-- the machine replied to this line, and one flush followed
pub record AnswersLine {S : Type 0} (answer : S → List ℕ → Answer S) (start : S)
    (line : List ℕ) (old new : Sink) (state : S) (accepted : Bool) : Type 0 where
  pub written : Appends old ((answer start line).text ++ 10 ∷ []) new
  pub state_is : state ≡ (answer start line).state
  pub accepted_is : accepted ≡ (answer start line).accepted
  pub flushed : new.flushes ≡ next_count old.flushes
  pub writes_on : WritesOn old new

-- `buffered` is the incomplete line before `bytes`: the machine replied to each whole line of
-- both and flushed after each; `rest` is the incomplete line that is left
pub record AnswersWhole {S : Type 0} (answer : S → List ℕ → Answer S) (start : S)
    (buffered bytes : List ℕ) (old new : Sink) (state : S) (rest : List ℕ) (all : Bool) : Type 0 where
  pub written : Appends old (replies answer start (whole_after buffered bytes)) new
  pub state_is : state ≡ state_after answer start (whole_after buffered bytes)
  pub rest_is : rest ≡ rest_after buffered bytes
  pub all_is : all ≡ all_accepted answer start (whole_after buffered bytes)
  pub flushes_is : new.flushes ≡ count_after old.flushes (whole_after buffered bytes)
  pub writes_on : WritesOn old new

-- the machine replied to each line of the bytes and flushed after each
pub record AnswersAll {S : Type 0} (answer : S → List ℕ → Answer S) (start : S)
    (bytes : List ℕ) (old new : Sink) (state : S) (all : Bool) : Type 0 where
  pub written : Appends old (output answer start bytes) new
  pub state_is : state ≡ state_after answer start (lines_of bytes)
  pub all_is : all ≡ all_accepted answer start (lines_of bytes)
  pub flushes_is : new.flushes ≡ count_after old.flushes (lines_of bytes)
  pub writes_on : WritesOn old new

-- how far a run came over these lines: those that it answered, each with a
-- flush, those that it did not, and what was written of the next answer
pub record Stops {S : Type 0} (answer : S → List ℕ → Answer S) (start : S) (lines : List (List ℕ)) (old new : Sink) : Type 0 where
  pub done : List (List ℕ)
  pub left : List (List ℕ)
  pub part : List ℕ
  pub lines_are : done ++ left ≡ lines
  pub begins : IsBeginning part (replies answer (state_after answer start done) (take 1 left))
  pub written : Appends old (replies answer start done ++ part) new
  pub flushes_is : new.flushes ≡ count_after old.flushes done

-- what each error means for the streams, for the lines without a reply, and for the written part of the next reply
abbrev pub Because : LineFault → Streams → List (List ℕ) → List ℕ → Type 0
Because Read io left part = CannotRead io.from io.from' × (WritesOn io.to io.to' × ((left ≡ []) × (part ≡ [])))
Because Write io left part = (io.from'.failed ≡ io.from.failed) × CannotWrite io.to io.to'
Because OutOfMemory io left part = (io.from'.failed ≡ io.from.failed) × (WritesOn io.to io.to' × (part ≡ []))

-- an error stopped the run at these lines
abbrev pub StopsFor : {S : Type 0} → (S → List ℕ → Answer S) → S → List (List ℕ) → Streams → LineFault → Type 0
StopsFor answer start lines io fault = (run : Stops answer start lines io.to io.to') × Because fault io run.left run.part

-- a run that came to its source's end: each line that was read has its reply
pub record EndsWell {S : Type 0} (answer : S → List ℕ → Answer S) (start : S) (io : Streams) (state : S) (all : Bool) : Type 0 where
  pub bytes : List ℕ
  pub read : Takes io.from bytes io.from'
  pub at_end : ComesToEnd io.from io.from'
  pub none_failed : io.from'.failed ≡ io.from.failed
  pub answers : AnswersAll answer start bytes io.to io.to' state all

-- the lines of the bytes that were read: those that a newline ends, and at the source's end the last one too
abbrev pub AreRead : Source → Source → List ℕ → List (List ℕ) → Type 0
AreRead from from' bytes lines = (lines ≡ whole_lines bytes) ⊎ (ComesToEnd from from' × (lines ≡ lines_of bytes))

-- a run that an error ended: the bytes that it read, their lines, and how far it came over these
pub record EndsBadly {S : Type 0} (answer : S → List ℕ → Answer S) (start : S) (io : Streams) (fault : LineFault) : Type 0 where
  pub bytes : List ℕ
  pub lines : List (List ℕ)
  pub read : Takes io.from bytes io.from'
  pub lines_are : AreRead io.from io.from' bytes lines
  pub stops : StopsFor answer start lines io fault

-- how a run from this state ends: well, or by an error for which `Fails` holds. If the source's bytes are known, the run has
-- replied to all of them if it ends well, and has written a beginning of the replies if it does not
pub record IsRunOf {S Fault : Type 0} (answer : S → List ℕ → Answer S) (start : S)
    (Fails : Streams → Fault → Type 0) (io : Streams) (result : Result Bool Fault) : Type 0 where
  pub ok : IfOk result (λ all. (state : S) × EndsWell answer start io state all)
  pub err : IfErr result (Fails io)
  pub all_of : (input : List ℕ) → io.from.left ≡ Some input
      → IfOk result (λ all. (state : S) × AnswersAll answer start input io.to io.to' state all)
  pub part_of : (input : List ℕ) → io.from.left ≡ Some input → OnErr result (WritesPart (output answer start input) io.to io.to')
