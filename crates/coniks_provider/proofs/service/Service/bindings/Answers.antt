use Rattle.std.proofs.Common.{ℕ, List, ap, ap₂, map, ◌∙◌}
use Rattle.std.specs.Prelude.{nat_lt}
use Rattle.serde_json.specs.Written.{compact_text}
use Rattle.coniks_directory.specs.Bindings.{indexed_binding}
use Rattle.coniks_directory.specs.declared.bindings.IndexedBinding.{IndexedBinding}
use Rattle.coniks_provider.specs.Answers.{listed, page_data}
use Rattle.coniks_provider.specs.Stores.{provided_of}
use Rattle.coniks_provider.proofs.PageLemmas.{listed_is}
use Rattle.coniks_provider.proofs.service.Service.bindings.Goals as goal

pub returns : goal.returns
returns c =
    let p = c.in-Ok.ensures.page in
    let page = rw c.index_of.ensures at p.page in
    ap listed c.in_ok-page_object.ensures
    ∙ ap₂ (λ (bs : List IndexedBinding) (n : ℕ). listed (compact_text (page_data c.args.epoch (map indexed_binding bs) (nat_lt c.args.most n)))) (c.deref.ensures.value ∙ c.truncate.ensures.items) (c.len.ensures ∙ c.in-Ok.found.ok.0)
    ∙ listed_is (provided_of c.args.self.now) c.args.epoch c.args.after c.args.most p.shown c.in-Ok.found.items p.installed page
