-- The library's version as a number, so that a caller can ask an archive which one it is.
use Rattle.std.specs.Prelude.{ℕ, ◌+◌, ◌*◌}

unfoldable pub version_number : ℕ → ℕ → ℕ → ℕ
version_number major minor patch = major * 10000 + minor * 100 + patch

-- that of the header and of the Rust crate
unfoldable pub library_version : ℕ
library_version = version_number 0 9 0
