use Rattle.std.proofs.Common.{ℕ, List, ap, refl, Some}
use Rattle.std.proofs.lemmas.Str.{IsUtf8-from_is_utf8, utf8_lossy-IsUtf8}
use Rattle.serde_json.specs.Data.{string}
use Rattle.coniks_tool.proofs.run.laws.printed_name_is_the_name.Goals as goal

pub returns-clause-requested : goal.returns-clause-requested
returns-clause-requested c entry index name path = refl

pub returns-clause-shown : goal.returns-clause-shown
returns-clause-shown c name key opening is = ap (λ (n : List ℕ). Some (string n)) (utf8_lossy-IsUtf8 name (IsUtf8-from_is_utf8 name is))
