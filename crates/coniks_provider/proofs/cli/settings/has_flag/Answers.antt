use Rattle.std.proofs.Common.{◌≡◌, ℕ, List, Option, Some, None, false, ap, sym, ◌∙◌}
use Rattle.std.specs.Prelude.{codes}
use Rattle.std.specs.Option.{option_map_or}
use Rattle.std.specs.Str.{bytes_eq}
use Rattle.clap.specs.Words.{first_of, found_of, rows_of}
use Rattle.clap.proofs.WalkLemmas.{first_value-rows}
use Rattle.coniks_provider.proofs.cli.settings.has_flag.Goals as goal

pub returns-in-Some : goal.returns-in-Some
returns-in-Some c =
    let rows = first_value-rows (found_of c.args.found.now) c.args.name.now in
    let found : first_of c.args.name.now (rows_of (found_of c.args.found.now)) ≡ Some c.in-Some.value.now = sym rows ∙ (rw c.in-Some.is at (sym c.get_str.ensures)) in
    c.eq.ensures ∙ sym (ap (λ (v : Option (List ℕ)). option_map_or (λ value. bytes_eq value (codes "true")) v false) found)

pub returns-in-None : goal.returns-in-None
returns-in-None c =
    let rows = first_value-rows (found_of c.args.found.now) c.args.name.now in
    let none : first_of c.args.name.now (rows_of (found_of c.args.found.now)) ≡ None = sym rows ∙ (rw c.in-None.is at (sym c.get_str.ensures)) in
    sym (ap (λ (v : Option (List ℕ)). option_map_or (λ value. bytes_eq value (codes "true")) v false) none)
