use Rattle.std.proofs.Common.{rules}
use Rattle.coniks_tool.proofs.demo.seal.DemoSealVerify.verdict.Goals as goal

pub returns : goal.returns
returns c = search rules
