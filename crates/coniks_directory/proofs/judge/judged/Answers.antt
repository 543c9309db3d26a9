use Rattle.std.proofs.Common.{◌≡◌, [], Err, rules}
use Rattle.coniks_directory.proofs.judge.judged.Goals as goal

pub returns-clause-pending : goal.returns-clause-pending
returns-clause-pending g c = λ hash. c.in_ok-judge_all.ensures.pending hash [] (c.in-Ok.ensures hash (g.X.IndexSource.index_of c.args.source.now))

pub returns-clause-faultless : goal.returns-clause-faultless
returns-clause-faultless g c = λ hash nonce registry shown.
    c.in_ok-judge_all.ensures.faultless hash nonce registry [] shown (c.in-Ok.ensures hash (g.X.IndexSource.index_of c.args.source.now))

pub returns-in_err-judge_all-clause-fault : goal.returns-in_err-judge_all-clause-fault
returns-in_err-judge_all-clause-fault g c =
    let is : c.from_residual.result ≡ Err c.in_err-judge_all.field-0.0 = search rules in
    rw is (λ hash nonce registry shown. c.in_err-judge_all.ensures.fault hash nonce registry [] shown (c.in-Ok.ensures hash (g.X.IndexSource.index_of c.args.source.now)))
