-- What the calls on auditors rest on.
use Rattle.std.proofs.Common.{◌≡◌, ◌≤◌, ◌+◌, ◌-◌, ◌++◌, ◌∙◌, ◌==◌, ℕ, List, [], if◌then◌else◌, length, take, drop, refl, sym, ap, subst, arith, length-drop}
use Rattle.std.specs.List.{copy_within}
use Rattle.std.proofs.Math.Seq.{drop-append_seam, take-append_seam}
use Rattle.std.proofs.lemmas.List.{drop-take, length-take-le, take-take}
use Rattle.coniks_client.specs.declared.stored.StoredEntry.{StoredEntry}
use Rattle.coniks_quorum.specs.Alarms.{alarms_of}
use Rattle.coniks_quorum.specs.declared.reporting.Report.{Report}
use Rattle.coniks_quorum.specs.declared.reporting.Report.TheVariants.{Changed, Missing, Lost, Unwatched, Unconfirmed, Good}
use Rattle.coniks_quorum.specs.declared.reporting.Span.{Span}
use Rattle.coniks_c.specs.CoreQuorum.{AreMoved, left_alarms, raw_report}
use Rattle.coniks_c.specs.declared.core_report.RawReport.{RawReport}
use Rattle.coniks_c.specs.declared.core_values.RawWatch.{RawWatch}

-- elements that were copied to the front
pub moved : {X : Type 0} (old new : List X) (from count : ℕ) → from ≤ count → count ≤ length old → new ≡ copy_within old from count 0
    → AreMoved old new count (count - from) from
moved {X} old new from count within room is =
    let n = count - from in
    let whole : from + n ≡ count = omega arith in
    let rest = length-drop from old in
    let size : length (take n (drop from old)) ≡ n = length-take-le n (drop from old) (omega arith) in
    let zero_add : 0 + n ≡ n = omega arith in
    let shape : new ≡ take n (drop from old) ++ drop n old = is ∙ ap (λ (k : ℕ). take n (drop from old) ++ drop k old) zero_add in
    record {
      count = sym whole;
      left = ap (take n) shape ∙ ap (λ (k : ℕ). take k (take n (drop from old) ++ drop n old)) (sym size) ∙ take-append_seam (take n (drop from old)) (drop n old)
          ∙ sym (drop-take from n old) ∙ ap (λ (k : ℕ). drop from (take k old)) whole;
      room = ap (drop n) shape ∙ ap (λ (k : ℕ). drop k (take n (drop from old) ++ drop n old)) (sym size) ∙ drop-append_seam (take n (drop from old)) (drop n old);
    }

-- as many as the first ones are
pub as_many : (stored : List StoredEntry) (n epochs : ℕ) → n ≤ length stored → epochs ≡ length (take n stored) → take n stored ≡ take epochs stored
as_many stored n epochs le size = ap (λ (k : ℕ). take k stored) (sym (size ∙ length-take-le n stored le))

-- the alarms of a watched name
pub watched-left : (watch : RawWatch) (dropped : List StoredEntry) → watch.is_watched ≡ 1 → left_alarms watch dropped ≡ alarms_of watch.since dropped
watched-left watch dropped watched = ap (λ (n : ℕ). if n == 1 then alarms_of watch.since dropped else []) watched

-- the first of the first elements
pub first_of : (stored : List StoredEntry) (n count epochs : ℕ) → n ≤ count → count ≤ length stored → epochs ≡ length (take n stored) → take n (take count stored) ≡ take epochs stored
first_of stored n count epochs le room size =
    let number : n ≡ epochs = sym (size ∙ length-take-le n stored (omega arith)) in
    take-take n count stored le ∙ ap (λ (k : ℕ). take k stored) number

-- 6 is the number of a good report only
module _ (P : ℕ → ℕ → Type 0) where
  by_report : (report : Report) → (raw_report report).verdict ≡ 6 → ((span : Span) → report ≡ Good span → P span.from span.to)
      → P (raw_report report).from (raw_report report).to
  by_report (Changed epoch) is given = absurd (cc)
  by_report (Missing epoch) is given = absurd (cc)
  by_report (Lost epoch) is given = absurd (cc)
  by_report Unwatched is given = absurd (cc)
  by_report (Unconfirmed span) is given = absurd (cc)
  by_report (Good span) is given = given span refl

  pub of_good : (report : Report) (raw : RawReport) → raw ≡ raw_report report → raw.verdict ≡ 6 → ((span : Span) → report ≡ Good span → P span.from span.to)
      → P raw.from raw.to
  of_good report raw same six given =
      subst (λ (r : RawReport). P r.from r.to) (sym same) (by_report report (ap (λ (r : RawReport). r.verdict) (sym same) ∙ six) given)
