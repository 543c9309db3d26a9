use Rattle.coniks_quorum.proofs.AgainLemmas.{again}
use Rattle.coniks_quorum.proofs.ClientLemmas.{account, clients, cover, feed, whole}
use Rattle.coniks_quorum.proofs.CoverLemmas.{left_over}
use Rattle.coniks_quorum.proofs.SeenLemmas.{begin, look}
use Rattle.coniks_quorum.proofs.SuccessionLemmas.{next-client, next-watched}
use Rattle.coniks_quorum.proofs.VouchingLemmas.{start}
use Rattle.coniks_quorum.proofs.laws.clients.Goals as goal

pub returns : goal.returns
returns c = record { feed = feed; again = again; look = look; begin = begin; cover = cover; account = account; whole = whole; law = clients; start = start; next = next-client; next_watch = next-watched; left_over = left_over }
