use Rattle.std.proofs.lemmas.Option.{slice_get_within, get_or_from_slice_get}
use Rattle.coniks_client.proofs.lookups.is_near.Goals as goal

pub returns-in-Some : goal.returns-in-Some
returns-in-Some c = λ same. (
  c.in-Some.found.place,
  c.in-Some.found.mine,
  slice_get_within c.args.stored.now c.in-Some.found.place c.in-Some.found.mine c.in-Some.ensures.0,
  get_or_from_slice_get c.args.stored.now c.in-Some.found.place c.in-Some.found.mine c.in-Some.found.mine c.in-Some.ensures.0,
  c.has_bytes.ensures.0 same,
)
