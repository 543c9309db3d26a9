use Rattle.std.proofs.Common.{◌-◌}
use Rattle.coniks_directory.proofs.growth.+overlay.Given as goal

abbrev pub decreases-overlay : goal.decreases-overlay
decreases-overlay l = 256 - l.level
