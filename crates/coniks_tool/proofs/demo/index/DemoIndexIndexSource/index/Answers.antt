use Rattle.std.proofs.Common.{rules}
use Rattle.coniks_tool.proofs.demo.index.DemoIndexIndexSource.index.Goals as goal

pub returns : goal.returns
returns c = search rules
