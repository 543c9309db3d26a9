use Rattle.std.proofs.Common.{add-zero, refl, rules, sym}
use Rattle.coniks_directory.proofs.install.signed.Goals as goal

-- nothing is signed if there is no room
pub returns-then-is_err-clause-unsigned : goal.returns-then-is_err-clause-unsigned
returns-then-is_err-clause-unsigned g c = (refl, sym (add-zero _), refl)

-- and one signature is made if there is room
pub returns-in-Some-clause-signed : goal.returns-in-Some-clause-signed
returns-in-Some-clause-signed g c = record {
  made = c.in-Some.ensures.made.0;
  refused = c.in-Some.ensures.made.1;
  last = c.in-Some.ensures.last c.make_body-body.result (search rules) (sym c.bytes.ensures);
  requested = rw (← c.bytes.ensures) (search rules);
  verdict = rw (← c.bytes.ensures) c.in-Some.ensures.verdict;
}
