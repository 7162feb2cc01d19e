-- How long a node waits before it leads with a new ballot, or asks for what it misses.
use Rattle.std.specs.Prelude.{ℕ, ◌+◌, ◌-◌, ◌*◌, ◌^◌, Bool, not, ◌&&◌, ◌||◌, nat_eq, nat_le, min}
use Rattle.std.specs.Prelude.{if◌then◌else◌, false}
use Rattle.rp_patience.specs.declared.patience.Patience.{Patience}

-- a wait that begins
abbrev pub fresh_wait : ℕ → Patience
fresh_wait applied =
    record { applied = applied; tries = 0; quiet = 0; led = 0; asked = 0; idle = 0 }

-- The wait starts again; how long the node was idle is counted on.
abbrev pub restarted : ℕ → Patience → Patience
restarted applied p = record (fresh_wait applied) { asked = p.asked; idle = p.idle }

-- more quiet turns; the wait starts again if something new is applied
abbrev pub more_quiet : ℕ → Patience → Patience
more_quiet turns p = record p { quiet = min (p.quiet + turns) (2 ^ 64 - 1) }

abbrev pub waits : ℕ → ℕ → Patience → Patience
waits turns applied p =
    more_quiet turns (if nat_eq applied p.applied then p else restarted applied p)

-- how many quiet turns the node with this number waits: 4 if it led last, and otherwise 32 times its
-- number; and from its third try on twice as many as before, up to 64 times as many
abbrev pub wait_of : ℕ → Bool → Patience → ℕ
wait_of node led_last p = (if led_last then 4 else 32 * node) * 2 ^ min (p.tries - 1) 6

abbrev pub has_waited : ℕ → Bool → Patience → Bool
has_waited node led_last p = nat_le (wait_of node led_last p) p.quiet

-- Node 1 leads at once if it has not led since something was applied; otherwise a node leads at the
-- end of its wait.
abbrev pub is_over : ℕ → Patience → Bool
is_over node p = (nat_eq node 1 && nat_eq p.tries 0) || has_waited node false p

-- the wait of a node that leads starts again
abbrev pub tried : Patience → Patience
tried p = record p { quiet = 0; tries = min (p.tries + 1) (2 ^ 32 - 1) }

-- so does that of a node that leads on, which remembers where it did
abbrev pub led_on : ℕ → Patience → Patience
led_on position p = record p { quiet = 0; led = position }

-- the patience of the node with this number, which has applied n actions, after quiet turns
abbrev pub after_quiet : ℕ → ℕ → ℕ → Patience → Patience
after_quiet turns node applied p =
    if is_over node (waits turns applied p) then tried (waits turns applied p)
    else waits turns applied p

-- ---- a node that has nothing to decide and misses nothing that it knows of

-- more quiet turns in which it was idle
abbrev pub rests : ℕ → Patience → Patience
rests turns p = record p { idle = min (p.idle + turns) (2 ^ 64 - 1) }

-- It has not asked yet; or has applied 64 actions or more since it did, so there may be more; or a
-- call came that cannot count at it, and it has applied something since it asked.
abbrev pub asks_soon : ℕ → Bool → Patience → Bool
asks_soon applied early p =
    nat_eq p.asked 0 || nat_le (p.asked + 63) applied
    || (early && not (nat_eq p.asked (applied + 1)))

-- how many such turns it waits before it asks: 32 times its number, or 64 times as many
abbrev pub rest_of : ℕ → Bool → Patience → ℕ
rest_of node soon p = 32 * node * (if soon then 1 else 64)

abbrev pub has_rested : ℕ → Bool → Patience → Bool
has_rested node soon p = nat_le (rest_of node soon p) p.idle

-- it asked when it had applied n actions
abbrev pub asked_at : ℕ → Patience → Patience
asked_at applied p = record p { idle = 0; asked = min (applied + 1) (2 ^ 32 - 1) }
