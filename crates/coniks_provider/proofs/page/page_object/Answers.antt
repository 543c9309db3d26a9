use Rattle.std.proofs.Common.{map, ◌∙◌}
use Rattle.coniks_directory.specs.Bindings.{indexed_binding}
use Rattle.coniks_programs.proofs.Lemmas.{text_is}
use Rattle.coniks_provider.specs.Answers.{page_data}
use Rattle.coniks_provider.proofs.page.page_object.Goals as goal

pub returns : goal.returns
returns c =
    c.into_inner.ensures.items
    ∙ text_is (page_data c.args.epoch (map indexed_binding c.args.page.now) c.args.more) (c.new-writer.ensures.before ∙ c.in_ok-with_capacity.ensures.items) c.new-writer.ensures.tokens
    c.in_ok-write_page.ensures
