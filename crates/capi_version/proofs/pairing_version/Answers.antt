-- `capi_version::pairing_version` meets its contract, by computing.
use mathlib.Core.Path.{refl}
use Rattle.capi_version.specs.Version.{library_version, version_number}
use Rattle.capi_version.proofs.pairing_version.Goals as goal

pub returns : goal.returns
unfolding library_version version_number
returns c = refl
