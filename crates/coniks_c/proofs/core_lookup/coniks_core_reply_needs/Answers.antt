use Rattle.std.proofs.Common.{◌≡◌, ◌⊎◌, ◌∙◌, ℕ, List, ap, drop, length, refl, subst, take}
use Rattle.std.proofs.lemmas.List.{length-take, take_min}
use Rattle.coniks_client.specs.Lookups.{IsStored}
use Rattle.coniks_client.specs.Replies.{after_entry}
use Rattle.coniks_client.specs.declared.stored.StoredEntry.{StoredEntry}
use Rattle.coniks_proof.specs.Wire.{short_length}
use Rattle.coniks_c.specs.Core.{stored_in}
use Rattle.coniks_c.proofs.ReportedLemmas.{vrf_start}
use Rattle.coniks_c.proofs.core_lookup.coniks_core_reply_needs.Goals as goal

pub returns-in-Ok-clause-read : goal.returns-in-Ok-clause-read
returns-in-Ok-clause-read c = λ good. (
  c.in-Ok.ensures.ok,
  record {
    signature = subst (λ (bytes : List ℕ). ((c.unverified.result ≡ 0) × IsStored (stored_in c.args.core.now) bytes) ⊎ ((c.unverified.result ≡ 1) × (¬ IsStored (stored_in c.args.core.now) bytes))) c.in-Ok.ensures.entry
        (subst (λ (l : List StoredEntry). ((c.unverified.result ≡ 0) × IsStored l c.in-Ok.parts.entry.now) ⊎ ((c.unverified.result ≡ 1) × (¬ IsStored l c.in-Ok.parts.entry.now))) c.stored.ensures c.unverified.ensures);
    entry = refl;
    vrf = ap (take (length c.in-Ok.parts.vrf.now)) (vrf_start c.args.reply.now) ∙ ap (λ (n : ℕ). take n (drop 2 (after_entry c.args.reply.now)))
        (ap length c.in-Ok.ensures.vrf ∙ length-take (short_length (after_entry c.args.reply.now)) (drop 2 (after_entry c.args.reply.now)))
        ∙ take_min (short_length (after_entry c.args.reply.now)) (drop 2 (after_entry c.args.reply.now));
  },
)
