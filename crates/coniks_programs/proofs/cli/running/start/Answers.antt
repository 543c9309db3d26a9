use Rattle.std.proofs.Common.{inl, inr}
use Rattle.coniks_programs.proofs.cli.running.start.Goals as goal

pub returns-in-Ok : goal.returns-in-Ok
returns-in-Ok g c = inl (_, c.run_on.ensures)

pub returns-in-Err : goal.returns-in-Err
returns-in-Err g c = inr (record {
  why = c.in-Err.why;
  status_is = c.end_unread.ensures.status;
  reported = c.end_unread.ensures.reported;
})
