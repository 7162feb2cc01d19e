-- The result of a node's input, whole or cut, and what a stop or a restart leaves, keeps the invariant.
use Rattle.std.proofs.Common.{◌≡◌, ℕ, ◌<◌, ◌≤◌, true, false, if◌then◌else◌, Result, Ok, Err, Option, Some, None, List, [], ◌∷◌, ◌++◌, length, refl, ap, subst, ◌∙◌, arith}
use Rattle.std.specs.Prelude.{nat_le}
use Rattle.rp_base.specs.declared.config.Config.{Config}
use Rattle.rp_base.specs.declared.fault.Fault.{Fault}
use Rattle.rp_base.specs.declared.record.Rec.{Rec}
use Rattle.rp_base.specs.Config.{IsRightConfig}
use Rattle.rp_codec.specs.Message.{Message}
use Rattle.rp_model.specs.Parts.{Running}
use Rattle.rp_model.specs.Parts.{NodePart}
use Rattle.rp_model.specs.Parts.{Turn}
use Rattle.rp_model.specs.Parts.{fresh_running, with_record}
use Rattle.rp_model.specs.Texts.{written_for}
use Rattle.rp_model.specs.Effect.{Setting, Done, goes_on_as, NodeInput, running_effect, turn_done_if, effect_while, node_effect, stop_part, cut_part, untorn_part, stops_while, stop_effect, cut_if, cut_effect, restart_while, restart_part}
use Rattle.rp_agreement.specs.Sound.{IsMember, IsRunning, IsSound}
use Rattle.rp_agreement.specs.Steps.{MayWrite, IsSoundStep}
use Rattle.rp_agreement.specs.Inputs.{IsInput, NodeMoves}
use Rattle.rp_agreement.proofs.Lists.{some_same}
use Rattle.rp_agreement.proofs.Keeps.{keeps}
use Rattle.rp_agreement.proofs.SoundPlans.{IsSoundIf, running_sound}

-- ---- a part after a sound step

-- The part results from the old one by a sound step, which wrote this record or none.
pub record IsSoundDone (nodes x : ℕ) (part : NodePart) (sent : List Message) (done : Done NodePart) : Type 0 where
  pub wrote : Option Rec
  pub records : done.part.records ≡ with_record part.records wrote
  pub step : IsSoundStep nodes x part.records sent wrote done.part.running done.sends

-- so the invariant is kept
pub done_keeps : (nodes x : ℕ) (done : Done NodePart) (node : ℕ → NodePart) (sent : List Message) (node' : ℕ → NodePart) (sent' : List Message)
    → IsMember nodes x → IsSound nodes node sent → IsSoundDone nodes x (node x) sent done → NodeMoves x done node sent node' sent' → IsSound nodes node' sent'
done_keeps nodes x done node sent node' sent' member sound d moves =
    keeps nodes x d.wrote done.part.running done.sends node sent node' sent' member sound d.step (record {
      records = ap (λ (part : NodePart). part.records) moves.part ∙ d.records;
      part = ap (λ (part : NodePart). part.running) moves.part;
      others = moves.others;
      sends = moves.sends;
    })

-- the result of an input, if it is not refused
abbrev pub IsSoundDoneIf : ℕ → ℕ → NodePart → List Message → Result (Done NodePart) Fault → Type 0
IsSoundDoneIf nodes x part sent (Ok done) = IsSoundDone nodes x part sent done
IsSoundDoneIf nodes x part sent (Err fault) = Unit {0}

-- a step that sends nothing
silent_step : (nodes x : ℕ) (records : List Rec) (sent : List Message) (written : Option Rec) (running : Option Running) → MayWrite nodes sent x records written
    → ((after : Running) → running ≡ Some after → IsRunning sent (with_record records written) after)
    → IsSoundStep nodes x records sent written running []
silent_step nodes x records sent written running may runs = record {
  writes = may;
  from = λ m h. absurd h;
  says = λ m h. absurd h;
  unoffered = λ i b v w offer. absurd offer.2;
  one_offer = λ i b v w offer. absurd offer.2;
  runs = runs;
  waits = λ after e p h preparing v offer. offer.2;
}

-- ---- an input

turn_done : (nodes x : ℕ) (part : NodePart) (sent : List Message) (turn : Result Turn Fault) → IsSoundIf nodes x part.records sent turn
    → IsSoundDoneIf nodes x part sent (turn_done_if part turn)
turn_done nodes x part sent (Ok turn) step = record { wrote = turn.written; records = refl; step = step }
turn_done nodes x part sent (Err fault) step = tt

while_sound : {S : Type 0} (s : Setting S) (x : ℕ) (node : ℕ → NodePart) (sent : List Message) (running : Option Running) (input : NodeInput)
    → x < 8 → IsSound s.config.nodes node sent → (node x).running ≡ running → IsInput sent input
    → IsSoundDoneIf s.config.nodes x (node x) sent (effect_while s x (node x) input running)
while_sound s x node sent None input small sound is right = tt
while_sound s x node sent (Some running) input small sound is right =
    turn_done s.config.nodes x (node x) sent (running_effect s x (node x).records running input)
    (running_sound s x node sent running input small sound (sound.runs x running is) right)

pub input_sound : {S : Type 0} (s : Setting S) (x : ℕ) (node : ℕ → NodePart) (sent : List Message) (input : NodeInput)
    → x < 8 → IsSound s.config.nodes node sent → IsInput sent input
    → IsSoundDoneIf s.config.nodes x (node x) sent (node_effect s x (node x) input)
input_sound s x node sent input small sound right = while_sound s x node sent (node x).running input small sound refl right

-- ---- a cut

stopped : (nodes x : ℕ) (records : List Rec) (sent : List Message) (written : Option Rec) → MayWrite nodes sent x records written
    → IsSoundStep nodes x records sent written None []
stopped nodes x records sent written may = silent_step nodes x records sent written None may (λ after e. absurd (cc))

cut_written : (nodes x kept : ℕ) (part : NodePart) (sent : List Message) (written : Option Rec) → MayWrite nodes sent x part.records written
    → IsSoundDone nodes x part sent (goes_on_as (cut_part kept part written))
cut_written nodes x kept part sent None may = record { wrote = None; records = refl; step = stopped nodes x part.records sent None tt }
cut_written nodes x kept part sent (Some rec) may =
    let whole = stop_part (record part { records = part.records ++ rec ∷ [] }) in
    let torn = stop_part (record part { torn = kept }) in
    elim (nat_le (length (written_for rec)) kept) as (λ b. IsSoundDone nodes x part sent (goes_on_as (if b then whole else torn))) [
      | true ↦ record { wrote = Some rec; records = refl; step = stopped nodes x part.records sent (Some rec) may }
      | false ↦ record { wrote = None; records = refl; step = stopped nodes x part.records sent None tt }
    ]

turn_cut : (nodes x kept : ℕ) (part : NodePart) (sent : List Message) (turn : Result Turn Fault) → IsSoundIf nodes x part.records sent turn
    → IsSoundDoneIf nodes x part sent (cut_if kept part (turn_done_if part turn))
turn_cut nodes x kept part sent (Ok turn) step = cut_written nodes x kept part sent turn.written step.writes
turn_cut nodes x kept part sent (Err fault) step = tt

cut_while : {S : Type 0} (s : Setting S) (x kept : ℕ) (node : ℕ → NodePart) (sent : List Message) (running : Option Running) (input : NodeInput)
    → x < 8 → IsSound s.config.nodes node sent → (node x).running ≡ running → IsInput sent input
    → IsSoundDoneIf s.config.nodes x (node x) sent (cut_if kept (node x) (effect_while s x (node x) input running))
cut_while s x kept node sent None input small sound is right = tt
cut_while s x kept node sent (Some running) input small sound is right =
    turn_cut s.config.nodes x kept (node x) sent (running_effect s x (node x).records running input)
    (running_sound s x node sent running input small sound (sound.runs x running is) right)

pub cut_sound : {S : Type 0} (s : Setting S) (x kept : ℕ) (node : ℕ → NodePart) (sent : List Message) (input : NodeInput)
    → x < 8 → IsSound s.config.nodes node sent → IsInput sent input
    → IsSoundDoneIf s.config.nodes x (node x) sent (cut_effect s x (node x) input kept)
cut_sound s x kept node sent input small sound right = cut_while s x kept node sent (node x).running input small sound refl right

-- ---- stops and restarts

stop_while : (nodes x : ℕ) (part : NodePart) (sent : List Message) (running : Option Running) → IsSoundDoneIf nodes x part sent (stops_while part running)
stop_while nodes x part sent None = tt
stop_while nodes x part sent (Some running) = record { wrote = None; records = refl; step = stopped nodes x part.records sent None tt }

pub stop_sound : (nodes x : ℕ) (part : NodePart) (sent : List Message) → IsSoundDoneIf nodes x part sent (stop_effect part)
stop_sound nodes x part sent = stop_while nodes x part sent part.running

-- a node that begins anew knows nothing
knows_nothing : (sent : List Message) (records : List Rec) → IsRunning sent records fresh_running
knows_nothing sent records = record {
  proposals = λ p h. absurd h;
  apart = tt;
  pending = λ c h. absurd h;
  heard = λ a i w h. absurd h;
}

restarted : (nodes x : ℕ) (node : ℕ → NodePart) (sent : List Message) (running : Option Running) → IsSound nodes node sent → (node x).running ≡ running
    → IsSoundDone nodes x (node x) sent (restart_while (node x) running)
restarted nodes x node sent None sound is = record {
  wrote = None;
  records = refl;
  step = silent_step nodes x (node x).records sent None (Some fresh_running) tt (λ after e. subst (IsRunning sent (node x).records) (some_same e) (knows_nothing sent (node x).records));
}
restarted nodes x node sent (Some running) sound is = record {
  wrote = None;
  records = refl;
  step = silent_step nodes x (node x).records sent None (node x).running tt (λ after e. sound.runs x after e);
}

pub restart_sound : (nodes x : ℕ) (node : ℕ → NodePart) (sent : List Message) → IsSound nodes node sent → IsSoundDone nodes x (node x) sent (restart_part (node x))
restart_sound nodes x node sent sound = restarted nodes x node sent (node x).running sound refl

-- some torn bytes are gone
pub untorn_sound : (nodes x kept : ℕ) (node : ℕ → NodePart) (sent : List Message) → IsSound nodes node sent → IsSoundDone nodes x (node x) sent (goes_on_as (untorn_part kept (node x)))
untorn_sound nodes x kept node sent sound = record {
  wrote = None;
  records = refl;
  step = silent_step nodes x (node x).records sent None (node x).running tt (λ after e. sound.runs x after e);
}

-- ---- for who asks

pub below_eight : (config : Config) (x : ℕ) → IsRightConfig config → IsMember config.nodes x → x < 8
below_eight config x right member =
    let most : config.nodes ≤ 7 = right.nodes.1 in
    let least : x ≤ config.nodes = member.1 in
    omega (arith, most, least)

-- what was not refused
pub if_done : (nodes x : ℕ) (part : NodePart) (sent : List Message) (result : Result (Done NodePart) Fault) (done : Done NodePart) → IsSoundDoneIf nodes x part sent result
    → result ≡ Ok done → IsSoundDone nodes x part sent done
if_done nodes x part sent result done sound resulted = subst (IsSoundDoneIf nodes x part sent) resulted sound
