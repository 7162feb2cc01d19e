-- What a node is to do now.
use Rattle.std.specs.Prelude.{ℕ, ◌+◌, Bool, not, ◌&&◌, ◌||◌, nat_eq, nat_lt, if◌then◌else◌}
use Rattle.std.specs.Prelude.{Option, Some, None, List, [], ◌∷◌}
use Rattle.rp_patience.specs.Patience.{waits, has_waited, tried, led_on, rests, has_rested, asks_soon, asked_at}
use Rattle.rp_patience.specs.declared.advice.Advice.{Advice}
use Rattle.rp_patience.specs.declared.advice.Advice.TheVariants.{Nothing, Lead, Ask}
use Rattle.rp_patience.specs.declared.advice.Situation.{Situation}
use Rattle.rp_patience.specs.declared.patience.Patience.{Patience}

-- the node misses a position, or has something to decide
abbrev pub has_cause : Situation → Bool
has_cause situation = situation.is_missing || situation.has_uncounted

-- ---- leading on

-- a position above this one
abbrev pub above : ℕ → Option ℕ → Option ℕ
above led None = None
above led (Some position) = if nat_lt led position then Some position else None

-- Where the node leads at once, if it does: it misses nothing, has something to decide and leads on,
-- has not tried since something was applied, and did not lead on there since.
abbrev pub leads_at_once : Situation → Patience → Option ℕ
leads_at_once situation p =
    if not situation.is_missing && situation.has_uncounted && nat_eq p.tries 0
    then above p.led situation.leads_on else None

-- ---- waiting

-- to lead at the first position that is not applied, if one is left
abbrev pub to_lead : Situation → Advice
to_lead situation =
    if nat_lt situation.applied situation.positions then Lead (situation.applied + 1) else Nothing

-- to ask, if a position is left
abbrev pub to_ask : Situation → Advice
to_ask situation = if nat_lt situation.applied situation.positions then Ask else Nothing

-- a node that misses a position asks at the end of its first wait, unless it led last
abbrev pub asks_first : Situation → Patience → Bool
asks_first situation p = situation.is_missing && not situation.led_last && nat_eq p.tries 0

-- What a node is to do at the end of its wait: if it has something to decide it leads, unless it
-- asks first.
abbrev pub once_waited : Situation → Patience → Advice
once_waited situation p =
    if situation.has_uncounted && not (asks_first situation p)
    then to_lead situation else to_ask situation

-- ---- what it is to do

abbrev pub advised : Situation → Patience → Option ℕ → Advice
advised situation p (Some position) = Lead position
advised situation p None =
    if has_waited situation.node situation.led_last p then once_waited situation p else Nothing

-- the wait starts again if the node is to do something
abbrev pub once_advised : Advice → Option ℕ → Patience → Patience
once_advised advice (Some position) p = led_on position p
once_advised Nothing None p = p
once_advised Ask None p = tried p
once_advised (Lead position) None p = tried p

-- with a cause, and its patience counts the quiet turns
abbrev pub caused_advice : Situation → Patience → Advice
caused_advice situation p = advised situation p (leads_at_once situation p)

abbrev pub caused_patience : Situation → Patience → Patience
caused_patience situation p =
    once_advised (caused_advice situation p) (leads_at_once situation p) p

-- with no cause it asks from time to time
abbrev pub is_rested : Situation → Patience → Bool
is_rested situation p =
    has_rested situation.node (asks_soon situation.applied situation.had_early p) p

abbrev pub idle_advice : Situation → Patience → Advice
idle_advice situation p = if is_rested situation p then to_ask situation else Nothing

abbrev pub idle_patience : Situation → Patience → Patience
idle_patience situation p =
    if is_rested situation p then asked_at situation.applied p else p

-- after quiet turns: what the node is to do, and its patience
abbrev pub advice_after : ℕ → Situation → Patience → Advice
advice_after turns situation p =
    if has_cause situation then caused_advice situation (waits turns situation.applied p)
    else idle_advice situation (rests turns p)

abbrev pub patience_after : ℕ → Situation → Patience → Patience
patience_after turns situation p =
    if has_cause situation then caused_patience situation (waits turns situation.applied p)
    else idle_patience situation (rests turns p)

-- ---- turn after turn

-- what a node is to do after each of these runs of quiet turns, while its situation stays
abbrev pub advice_in_turn : Situation → Patience → List ℕ → List Advice
advice_in_turn situation p [] = []
advice_in_turn situation p (turns ∷ rest) =
    advice_after turns situation p
    ∷ advice_in_turn situation (patience_after turns situation p) rest
