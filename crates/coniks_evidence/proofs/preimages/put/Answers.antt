use Rattle.std.proofs.Common.{length, ◌+◌, ◌-◌, arith}
use Rattle.std.proofs.lemmas.Slice.{drop-put_mid}
use Rattle.coniks_evidence.proofs.preimages.put.Goals as goal

pub returns-clause-rest : goal.returns-clause-rest
returns-clause-rest c = drop-put_mid c.args.at (c.args.at + length c.args.part.now - c.args.at) c.args.bytes.now c.copy_from_slice.new.self
    (c.args.at + length c.args.part.now) (omega arith) (omega arith) (omega arith)
