-- Which timing events are due, and in which order (Ada Reference Manual, section D.15; the order is
-- ours).
use Rattle.std.specs.Prelude.{ℕ, suc, ℤ, pos, int_lt, int_le, nat_lt, Bool, ◌&&◌, ◌||◌, Option}
use Rattle.std.specs.Prelude.{Some, None, List, [], ◌∷◌, map, if◌then◌else◌}
use Rattle.std.specs.Ordering.{int_eq}

-- a time for which a timing event is set, and the event's number
abbrev pub Setting : Type 0
Setting = ℤ × ℕ

-- the first is set for an earlier time, or for the same time and has the lower number
abbrev pub is_before : Setting → Setting → Bool
is_before one other = int_lt one.0 other.0 || int_eq one.0 other.0 && nat_lt one.1 other.1

-- the settings for a time at or below the clock, by the events' numbers from a number on
abbrev pub due_from : ℕ → ℕ → List (Option ℤ) → List Setting
due_from clock number [] = []
due_from clock number (None ∷ rest) = due_from clock (suc number) rest
due_from clock number (Some time ∷ rest) =
    if int_le time (pos clock) then (time, number)
    ∷ due_from clock (suc number) rest else due_from clock (suc number) rest

-- a sorted list with one setting more
abbrev pub with_setting : Setting → List Setting → List Setting
with_setting setting [] = setting ∷ []
with_setting setting (first ∷ rest) =
    if is_before setting first then setting ∷ first ∷ rest else first ∷ with_setting setting rest

-- the settings in order of time and number
abbrev pub sorted : List Setting → List Setting
sorted [] = []
sorted (setting ∷ rest) = with_setting setting (sorted rest)

-- the numbers of the events that are due, in order of time and number
abbrev pub due_events : ℕ → List (Option ℤ) → List ℕ
due_events clock timers = map (λ setting. setting.1) (sorted (due_from clock 1 timers))
