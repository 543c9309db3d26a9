-- The command of the program.
use Rattle.std.proofs.Common.{◌≡◌, refl, true}
use Rattle.clap.specs.Words.{is_simple_and_free}
use Rattle.coniks_tool.specs.Keydir.{keydir}

-- what `clap` defines for simple commands holds for `keydir`
pub keydir-is_simple : is_simple_and_free keydir ≡ true
keydir-is_simple = refl
