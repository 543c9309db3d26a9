use Rattle.coniks_tree.specs.Entries.{in_order}
use Rattle.coniks_tree.specs.Pages.{beyond}
use Rattle.coniks_tree.proofs.EntriesLemmas.{Lists-in_order}
use Rattle.coniks_tree.proofs.FollowLemmas.{page-end, page-next, pages-all}
use Rattle.coniks_tree.proofs.laws.pages_are_the_entries.Goals as goal

pub returns-clause-next : goal.returns-clause-next
returns-clause-next c = λ after page most entries map is. page-next after page most entries map is

pub returns-clause-end : goal.returns-clause-end
returns-clause-end c = λ after most entries some none. page-end most (beyond after (in_order 0 entries)) some none

pub returns-clause-whole : goal.returns-clause-whole
returns-clause-whole c = λ pages entries map are. pages-all pages entries map are

pub returns-clause-listed : goal.returns-clause-listed
returns-clause-listed c = λ changes entries map lists. Lists-in_order changes entries map lists
