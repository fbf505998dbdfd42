-- What is found of a log is found of it alone.
use Rattle.std.specs.Prelude.{◌≡◌}
use Rattle.lsv_finding.specs.Findings.{Finding, Nowhere, Unlisted, Closed, Broken, Sound, IsDamage}

-- what may be found of a log of which this is found: the same, but of a damaged log any damage of it
abbrev pub IsBeside : Finding → Finding → Type 0
IsBeside Nowhere other = other ≡ Nowhere
IsBeside (Unlisted part) other = other ≡ Unlisted part
IsBeside (Closed part) other = IsDamage other
IsBeside (Broken head body records part) other = IsDamage other
IsBeside (Sound head body log exit) other = other ≡ Sound head body log exit
