-- How long a text is, by the byte that says what it is.
use Rattle.std.specs.Prelude.{ℕ, ◌==◌, if◌then◌else◌}

-- an action's, by its first byte
abbrev pub action_length : ℕ → ℕ
action_length tag = if tag == 0 then 1 else if tag == 1 then 17 else if tag == 2 then 6 else 5

-- a reply's, by its first byte
abbrev pub reply_length : ℕ → ℕ
reply_length tag = if tag == 1 then 9 else if tag == 2 then 2 else 1
