-- Signed entries, their bytes and what is hashed to their links (CONIKS, section 3).
use Rattle.std.specs.Prelude.{◌≡◌, ◌<◌, ◌^◌, ℕ, ◌∷◌, ◌++◌, drop, length, slice_index, take}
use Rattle.std.specs.Int.{w64, from_be_bytes, to_be_bytes}
use Rattle.coniks_proof.specs.Octets.{Octets}
use Rattle.coniks_chain.specs.declared.entry.Body.{Body}
use Rattle.coniks_chain.specs.declared.entry.Signature.{Signature}
use Rattle.coniks_chain.specs.declared.entry.Entry.{Entry}

-- the bytes of a body, and of an entry
abbrev pub body_length : ℕ
body_length = 145

abbrev pub entry_length : ℕ
entry_length = 209

-- the bytes of a body, the parts of the length that their types have
unfoldable pub body_bytes : Body → Octets
body_bytes body =
    body.version ∷ to_be_bytes w64 body.t ++ to_be_bytes w64 body.t_prev
    ++ body.root.0 ++ body.previous.0 ++ body.nonce.0 ++ body.policy

-- the bytes of an entry: its body's and the signature's 64
abbrev pub entry_bytes : Entry → Octets
entry_bytes entry = body_bytes entry.body ++ entry.signature.0

-- n bytes from a place on
abbrev pub part_at : ℕ → ℕ → Octets → Octets
part_at place n bytes = take n (drop place bytes)

-- the body that bytes are
unfoldable pub body_from : Octets → Body
body_from bytes =
    record {
      version = slice_index bytes 0;
      t = from_be_bytes w64 (part_at 1 8 bytes);
      t_prev = from_be_bytes w64 (part_at 9 8 bytes);
      root = record { 0 = part_at 17 32 bytes };
      previous = record { 0 = part_at 49 32 bytes };
      nonce = record { 0 = part_at 81 32 bytes };
      policy = part_at 113 32 bytes;
    }

-- the entry that bytes are
abbrev pub entry_from : Octets → Entry
entry_from bytes = record { body = body_from (take body_length bytes); signature = record { 0 = drop body_length bytes } }

-- the 210 bytes that are hashed to the link of an entry
abbrev pub link_preimage : Entry → Octets
link_preimage entry = 0x53 ∷ entry_bytes entry

-- numbers of eight bytes and arrays of 32, as a body in hand has them
pub record IsBody (body : Body) : Type 0 where
  pub t : body.t < 2 ^ 64
  pub t_prev : body.t_prev < 2 ^ 64
  pub root : length body.root.0 ≡ 32
  pub previous : length body.previous.0 ≡ 32
  pub nonce : length body.nonce.0 ≡ 32
  pub policy : length body.policy ≡ 32

-- the same of an entry, with its signature of 64 bytes
pub record IsEntry (entry : Entry) : Type 0 where
  pub body : IsBody entry.body
  pub signature : length entry.signature.0 ≡ 64

-- a body with the signature given for it
abbrev pub signed : Body → Signature → Entry
signed body signature = record { body = body; signature = signature }
