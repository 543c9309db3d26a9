-- What writers of JSON have written.
use Rattle.std.proofs.Common.{◌≡◌, ℕ, List, [], ◌∷◌, ◌++◌, Bool, true, false, if◌then◌else◌, nat_lt, Result, Ok, Err, OnOk, IsAscii, IsUtf8, refl, ap, ap₂, ◌∙◌, append_assoc, arith}
use Rattle.std.proofs.lemmas.Grind.{common_steps}
use Rattle.std.proofs.lemmas.Str.{IsUtf8-from_ascii}
use Rattle.std.proofs.lemmas.Str.Ascii.{IsAscii-nil, IsAscii-cons}
use Rattle.hex.specs.Hex.{encode_lower, lower_digits}
use Rattle.hex.proofs.HexLemmas.{IsAscii-encode_with}
use Rattle.json.specs.Print.{print}
use Rattle.json.specs.Token.{Token}
use Rattle.json.specs.Tree.{json_tokens}
use Rattle.json.specs.Written as json
use Rattle.json.specs.Written.{Written}
use Rattle.serde_json.specs.Data.{Data}
use Rattle.serde_json.specs.Written.{compact_text, outline}
use Rattle.serde_json.proofs.Texts.{print-outline}
use Rattle.coniks_programs.specs.Printing.{Adds, Writes}

-- tokens, and more after them
pub adds_more : {old between new : Written} {ts us : List Token} → Adds old between ts → Adds between new us → Adds old new (ts ++ us)
adds_more {old} {between} {new} {ts} {us} first next = record {
  before = next.before ∙ first.before;
  tokens = next.tokens ∙ (ap (λ xs. xs ++ us) first.tokens ∙ append_assoc old.tokens ts us);
}

-- a token that a writer took
pub adds_one : {E : Type 0} {old new : Written} {t : Token} → json.Writes {E = E} (Ok tt) old new t → Adds old new (t ∷ [])
adds_one wrote = record { before = wrote.room.0; tokens = wrote.ok }

-- tokens, and one more after them that a writer took
pub adds_last : {E : Type 0} {old between new : Written} {ts : List Token} (r : Result (Unit {0}) E) (t : Token)
    → Adds old between ts → json.Writes r between new t → OnOk r (Adds old new (ts ++ t ∷ []))
adds_last (Ok _) t first last = adds_more first (adds_one last)
adds_last (Err e) t first last = tt

-- tokens before what a result says
pub adds_before : {E : Type 0} {old between : Written} {ts : List Token} (new : Written) (us : List Token) (r : Result (Unit {0}) E)
    → Adds old between ts → OnOk r (Adds between new us) → OnOk r (Adds old new (ts ++ us))
adds_before new us (Ok _) first next = adds_more first next
adds_before new us (Err e) first next = tt

-- the text of a writer that has written one value
pub text_is : {start end : Written} (d : Data) → start.before ≡ [] → start.tokens ≡ [] → Writes start end d → end.before ++ print end.tokens ≡ compact_text d
text_is d nothing none wrote =
    ap₂ (λ (bs : List ℕ) (ts : List Token). bs ++ print ts) (wrote.before ∙ nothing) (wrote.tokens ∙ ap (λ ts. ts ++ json_tokens (outline d)) none) ∙ print-outline d

-- whether each byte is below 128
abbrev are_low : List ℕ → Bool
are_low [] = true
are_low (b ∷ bs) = if nat_lt b 128 then are_low bs else false

low_is_ascii : (bs : List ℕ) → are_low bs ≡ true → IsAscii bs
low_is_ascii [] low = IsAscii-nil
low_is_ascii (b ∷ bs) low = first (nat_lt b 128) refl low (low_is_ascii bs)
  where
    first : (t : Bool) → nat_lt b 128 ≡ t → (if t then are_low bs else false) ≡ true → (are_low bs ≡ true → IsAscii bs) → IsAscii (b ∷ bs)
    first true lt low rest = IsAscii-cons b bs (grind (arith, common_steps)) (rest low)
    first false lt low rest = absurd cc

-- hexadecimal digits are UTF-8
pub digits_are_utf8 : (bytes : List ℕ) → IsUtf8 (encode_lower bytes)
digits_are_utf8 bytes = IsUtf8-from_ascii (encode_lower bytes) (IsAscii-encode_with lower_digits bytes (low_is_ascii lower_digits refl))
