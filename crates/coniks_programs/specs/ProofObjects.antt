-- The proof that a line holds.
use Rattle.std.specs.Prelude.{List, [], ◌∷◌, codes, Option, Some, None, option_map, option_and_then, if◌then◌else◌}
use Rattle.std.specs.Result.{result_ok}
use Rattle.std.specs.Str.{bytes_eq}
use Rattle.coniks_proof.specs.Octets.{Octets}
use Rattle.serde_json.specs.Data.{Data, Items, no_items, item}
use Rattle.serde_json.specs.Find.{get, as_str}
use Rattle.hex.specs.Hex.{decode_sized}
use Rattle.coniks_proof.specs.declared.values.Digest.{Digest}
use Rattle.coniks_proof.specs.declared.paths.Proof.{Proof}
use Rattle.coniks_proof.specs.declared.paths.End.{End}
use Rattle.coniks_proof.specs.declared.paths.End.TheVariants.{Empty, Other, Here}
use Rattle.coniks_programs.specs.Members.{given, text_in, array_in, digits_in, base64_in}

-- the digest that a value is: 64 hexadecimal digits of either case
abbrev pub digest_in : Data → Option Digest
digest_in value = option_map (λ bytes. record { 0 = bytes }) (option_and_then (λ text. result_ok (decode_sized text 32)) (as_str value))

-- a digest before others
abbrev pub with_digest : Option Digest → Option (List Digest) → Option (List Digest)
with_digest first others = option_and_then (λ digest. option_map (λ digests. digest ∷ digests) others) first

-- the digests in elements, if each is one
abbrev pub digests_in : Items → Option (List Digest)
digests_in no_items = Some []
digests_in (item element others) = with_digest (digest_in element) (digests_in others)

-- a leaf of another index: `commitment` and `index`, each of 64 digits
abbrev pub other_in : Data → Option End
other_in d =
    given (digits_in 32 (codes "commitment") d) (λ commitment.
    given (digits_in 32 (codes "index") d) (λ index.
    Some (Other (record { 0 = index }) (record { 0 = commitment }))))

-- the leaf of the requested index: `key` in base64, `name`, and `opening` in 64 digits
abbrev pub here_in : Data → Option End
here_in d =
    given (base64_in (codes "key") d) (λ key.
    given (text_in (codes "name") d) (λ name.
    given (digits_in 32 (codes "opening") d) (λ opening.
    Some (Here name key (record { 0 = opening })))))

-- the end of this kind, by the members of that kind alone
abbrev pub end_of_kind : Data → Octets → Option End
end_of_kind d kind =
    if bytes_eq kind (codes "empty") then Some Empty
    else (if bytes_eq kind (codes "other") then other_in d
    else (if bytes_eq kind (codes "here") then here_in d
    else None))

-- the end that a value is
abbrev pub end_in : Data → Option End
end_in d = option_and_then (end_of_kind d) (text_in (codes "kind") d)

-- the proof that a value is: its end, and its siblings from the root down, however many
abbrev pub proof_of : Data → Option Proof
proof_of d =
    given (option_and_then end_in (get (codes "end") d)) (λ end.
    given (option_and_then digests_in (array_in (codes "siblings") d)) (λ siblings.
    Some (record { siblings = siblings; end = end })))

-- the proof of a line
abbrev pub proof_in : Data → Option Proof
proof_in d = option_and_then proof_of (get (codes "proof") d)
