-- The versions of texts (the formats are ours). They differ in their first byte, and in the byte
-- for the index of an entry.
use Rattle.std.specs.Prelude.{ℕ, ◌==◌, if◌then◌else◌, Option, Some, None}
use Rattle.rp_codec.specs.declared.version.Version.{Version}
use Rattle.rp_codec.specs.declared.version.Version.TheVariants.{V1, V2}

-- the first byte of a text of the version
abbrev pub version_number : Version → ℕ
version_number V1 = 1
version_number V2 = 2

-- the version of a first byte
abbrev pub version_of : ℕ → Option Version
version_of n =
    if n == 1 then Some V1 else
    if n == 2 then Some V2 else
    None
