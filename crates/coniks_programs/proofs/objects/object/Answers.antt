use Rattle.std.proofs.Common.{◌∙◌}
use Rattle.serde_json.specs.Data.{object}
use Rattle.coniks_programs.specs.Objects.{members_of}
use Rattle.coniks_programs.proofs.PrintingLemmas.{text_is}
use Rattle.coniks_programs.proofs.objects.object.Goals as goal

pub returns : goal.returns
returns c =
    c.into_inner.ensures.items
    ∙ text_is (object (members_of c.args.fields.now)) (c.new-writer.ensures.before ∙ c.in_ok-with_capacity.ensures.items) c.new-writer.ensures.tokens c.in_ok-write_object.ensures
