-- The link of a party in a run.
use Rattle.std.specs.Prelude.{ℕ, List, ◌∷◌, ◌++◌, replicate}
use Rattle.std.specs.Int.{w32, to_be_bytes}
use Rattle.rp_threads.specs.rp_codec.specs.Text.{party_number}
use Rattle.rp_threads.specs.rp_codec.specs.declared.packet.Party.{Party}
use Rattle.rp_threads.specs.rp_tasks.specs.Line.{Line, line_of}

-- the seed of a link: that of the whole run in four bytes, the highest first, the number by which a
-- packet names the party, and zeros
abbrev pub line_seed : ℕ → Party → List ℕ
line_seed seed party = to_be_bytes w32 seed ++ party_number party ∷ replicate 27 0

-- the link whose words are those of that seed
abbrev pub party_line : ℕ → Party → Line
party_line seed party = line_of (line_seed seed party)
