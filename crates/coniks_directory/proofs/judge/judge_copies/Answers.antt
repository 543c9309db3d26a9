use Rattle.std.proofs.Common.{rules, ◌≡◌, Err, [], refl}
use Rattle.coniks_directory.proofs.judge.judge_copies.Goals as goal

pub returns-in_err-judge_all-clause-fault : goal.returns-in_err-judge_all-clause-fault
returns-in_err-judge_all-clause-fault g c =
    let is : c.from_residual.result ≡ Err c.in_err-judge_all.field-0.0 = search rules in
    rw is (λ hash bound are. rw c.in-Ok.ensures at (c.in_err-judge_all.ensures.fault hash [] [] bound refl are))

pub returns-clause-faultless : goal.returns-clause-faultless
returns-clause-faultless g c = λ hash bound are. rw c.in-Ok.ensures at (c.in_ok-judge_all.ensures.faultless hash [] [] bound refl are)
