-- The lines of a script lead from world to world by events.
use Rattle.std.specs.Prelude.{All, nat_le, take}
use Rattle.std.proofs.Common.{◌≡◌, ◌≢◌, ◌≤◌, ◌⊎◌, ℕ, zero, suc, Bool, true, false, cond, ◌&&◌, length, arith, Option, Some, None, Result, Ok, Err, List, [], ◌∷◌, ◌++◌, inl, inr, refl, sym, subst}
use Rattle.rp_base.proofs.Members.{has_split}
use Rattle.rp_base.specs.Config.{IsRightConfig}
use Rattle.rp_base.specs.Sets.{Has}
use Rattle.rp_base.specs.declared.action.Action.{Action}
use Rattle.rp_base.specs.declared.action.Action.TheVariants as actions
use Rattle.rp_base.specs.declared.action.Action.TheVariants.{Noop, Call}
use Rattle.rp_base.specs.declared.fault.Fault.{Fault}
use Rattle.rp_model.specs.Answers.{Happen}
use Rattle.rp_model.specs.Effect.{Setting}
use Rattle.rp_model.specs.Events.{Event, IsRightEvent, Submit, Makes, Deliver, Interrupt, Tick, event_of}
use Rattle.rp_model.specs.World.{World, Transition, opening_world, event_effect}
use Rattle.rp_model.specs.declared.event.Event.{Event as TakenEvent}
use Rattle.rp_model.specs.declared.event.Event.TheVariants.{Node}
use Rattle.rp_model.specs.declared.event.Step.TheVariants as TakenStep
use Rattle.rp_world.specs.rp_agreement.specs.History.{IsHistory, AreMoments}
use Rattle.rp_world.specs.rp_agreement.specs.Noted.{IsNoted}
use Rattle.rp_run.specs.Agreeing.{world_after, IsAskedIn, IsNotedIn}
use Rattle.rp_run.specs.Output.{RunSetting, Play, Said, least_unsettled, transition_of, effect_said, event_said, drain_from, command_said, script_said, opening_play}
use Rattle.rp_deck.specs.Script.{KeepsRanges}
use Rattle.rp_deck.specs.declared.deck.Command.{Command}
use Rattle.rp_deck.specs.declared.deck.Command.TheVariants.{Take, Lose, Drain, Show}
use Rattle.rp_deck.specs.declared.deck.Line.{Line}

-- right events of a kind lead from one world to another
record Reaches {S : Type 0} (Is : Event → Type 0) (s : Setting S) (from to : World) : Type 0 where
  pub events : List Event
  pub right : (event : Event) → Has event events → IsRightEvent event
  pub are : (event : Event) → Has event events → Is event
  pub happened : Happen s from events to

module _ {S : Type 0} (Is : Event → Type 0) (s : Setting S) where
  joined : (events more : List Event) (from middle to : World) → Happen s from events middle → Happen s middle more to → Happen s from (events ++ more) to
  joined [] more from middle to first second = subst (λ (w : World). Happen s w more to) first second
  joined (event ∷ rest) more from middle to first second = (first.0, first.1, joined rest more first.0.world middle to first.2 second)

  all_are : (P : Event → Type 0) (events more : List Event) → ((event : Event) → Has event events → P event) → ((event : Event) → Has event more → P event)
      → (event : Event) → Has event (events ++ more) → P event
  all_are P events more first second event h = elim (has_split event events more h) [ inl left ↦ first event left | inr right ↦ second event right ]

  one_is : (P : Event → Type 0) (event : Event) → P event → (other : Event) → Has other (event ∷ []) → P other
  one_is P event is other h = elim h [ inl same ↦ subst P (sym same) is | inr none ↦ absurd none ]

  stays : (w : World) → Reaches Is s w w
  stays w = record { events = []; right = λ event h. absurd h; are = λ event h. absurd h; happened = refl }

  results : (w : World) (event : Event) (transition : Transition) → IsRightEvent event → Is event → event_effect s w event ≡ Ok transition → Reaches Is s w transition.world
  results w event transition right such is = record {
    events = event ∷ [];
    right = one_is IsRightEvent event right;
    are = one_is Is event such;
    happened = (transition, is, refl);
  }

  goes_on : (from middle to : World) → Reaches Is s from middle → Reaches Is s middle to → Reaches Is s from to
  goes_on from middle to first second = record {
    events = first.events ++ second.events;
    right = all_are IsRightEvent first.events second.events first.right second.right;
    are = all_are Is first.events second.events first.are second.are;
    happened = joined first.events second.events from middle to first.happened second.happened;
  }

-- the event is asked for by one of these lines, or delivers a packet
abbrev IsOfLines : List Line → Event → Type 0
IsOfLines lines event = IsAskedIn lines event ⊎ ((message : ℕ) × (event ≡ Makes (Deliver message)))

module _ {S : Type 0} (s : RunSetting S) (all : List Line) where
  -- by events of these lines
  abbrev Leads : World → World → Type 0
  Leads = Reaches (IsOfLines all) s.setting

  rests : (w : World) → Leads w w
  rests = stays (IsOfLines all) s.setting

  leads_on : (from middle to : World) → Leads from middle → Leads middle to → Leads from to
  leads_on = goes_on (IsOfLines all) s.setting

  -- ---- an event, a drain, a line, lines

  effect_leads : (line : ℕ) (play : Play) (event : TakenEvent) (answer : Result Transition Fault) → IsRightEvent (event_of event) → IsOfLines all (event_of event)
      → transition_of s play.world event ≡ answer → Leads play.world (effect_said s line play event answer).play.world
  effect_leads line play event (Ok transition) right such is = results (IsOfLines all) s.setting play.world (event_of event) transition right such is
  effect_leads line play event (Err refusal) right such is = rests play.world

  event_leads : (line : ℕ) (play : Play) (event : TakenEvent) → IsRightEvent (event_of event) → IsOfLines all (event_of event) → Leads play.world (event_said s line play event).play.world
  unfolding event_said
  event_leads line play event right such = effect_leads line play event (transition_of s play.world event) right such refl

  drain_leads : (line : ℕ) (play : Play) (message : Option ℕ) (most : ℕ) → Leads play.world (drain_from s line play message most).play.world
  unfolding drain_from
  drain_leads line play None most = rests play.world
  drain_leads line play (Some message) zero = rests play.world
  drain_leads line play (Some message) (suc most) =
      let after = (event_said s line play (Node (TakenStep.Deliver message))).play in
      leads_on play.world after.world (drain_from s line after (least_unsettled after) most).play.world
      (event_leads line play (Node (TakenStep.Deliver message)) tt (inr (message, refl))) (drain_leads line after (least_unsettled after) most)

  said_stays : (b : Bool) (one other : Said) (w : World) → one.play.world ≡ w → other.play.world ≡ w → (cond b one other).play.world ≡ w
  said_stays true one other w left right = left
  said_stays false one other w left right = right

  command_leads : (most : ℕ) (play : Play) (line : Line) → Has line all → KeepsRanges line.command → (command : Command) → line.command ≡ command
      → Leads play.world (command_said s most line.number play command).play.world
  command_leads most play line has right (Take event) is =
      event_leads line.number play event (subst KeepsRanges is right) (inl (record { line = line; has = has; taken = event; takes = is; is = refl }))
  command_leads most play line has right (Lose first last) is =
      subst (λ (w : World). Leads play.world w)
      (sym (said_stays (nat_le first (length play.world.sent) && nat_le last (length play.world.sent)) _ _ play.world refl refl)) (rests play.world)
  command_leads most play line has right Drain is = drain_leads line.number play (least_unsettled play) most
  command_leads most play line has right Show is = rests play.world

  rest_ranges : (line : Line) (rest : List Line) → All (λ (l : Line). KeepsRanges l.command) (line ∷ rest) → All (λ (l : Line). KeepsRanges l.command) rest
  rest_ranges line rest right = λ k d below. right (suc k) d (omega (arith, below))

  -- these lines are among them
  abbrev AreAmong : List Line → Type 0
  AreAmong lines = (line : Line) → Has line lines → Has line all

  lines_lead : (most : ℕ) (play : Play) (lines : List Line) → All (λ (l : Line). KeepsRanges l.command) lines → (count : ℕ) → AreAmong (take count lines)
      → Leads play.world (script_said s most play (take count lines)).play.world
  unfolding script_said
  lines_lead most play lines right zero among = rests play.world
  lines_lead most play [] right (suc count) among = rests play.world
  lines_lead most play (line ∷ rest) right (suc count) among =
      let after = (command_said s most line.number play line.command).play in
      leads_on play.world after.world (script_said s most after (take count rest)).play.world
      (command_leads most play line (among line (inl refl)) (right 0 line (omega arith)) line.command refl)
      (lines_lead most after rest (rest_ranges line rest right) count (λ l has. among l (inr has)))

  -- on from some lines to as many or more
  lines_go_on : (most : ℕ) (play : Play) (lines : List Line) → All (λ (l : Line). KeepsRanges l.command) lines → (i j : ℕ) → i ≤ j → AreAmong (take j lines)
      → Leads (script_said s most play (take i lines)).play.world (script_said s most play (take j lines)).play.world
  unfolding script_said
  lines_go_on most play lines right zero j up among = lines_lead most play lines right j among
  lines_go_on most play lines right (suc i) zero up among = absurd (omega (arith, up))
  lines_go_on most play [] right (suc i) (suc j) up among = rests play.world
  lines_go_on most play (line ∷ rest) right (suc i) (suc j) up among =
      lines_go_on most (command_said s most line.number play line.command).play rest (rest_ranges line rest right) i j (omega (arith, up)) (λ l has. among l (inr has))

  -- ---- a run

  history : IsRightConfig s.setting.config → (world : World) → (reached : Leads (opening_world s.setting.config.nodes) world) → IsHistory s.setting reached.events world
  history config world reached = record { config = config; right = reached.right; happened = reached.happened }

module _ {S : Type 0} (s : RunSetting S) (config : IsRightConfig s.setting.config) (most : ℕ) (lines : List Line) (right : All (λ (l : Line). KeepsRanges l.command) lines) where
  -- the events of a run's first lines are of these lines
  pub run_is_history : (i : ℕ) → (events : List Event) × IsHistory s.setting events (world_after s most lines i) × ((event : Event) → Has event events → IsOfLines (take i lines) event)
  run_is_history i =
      let reached = lines_lead s (take i lines) most (opening_play s) lines right i (λ line has. has) in
      (reached.events, history s (take i lines) config (world_after s most lines i) reached, reached.are)

  pub run_has_moments : (i j : ℕ) → i ≤ j → AreMoments s.setting (world_after s most lines i) (world_after s most lines j)
  unfolding goes_on leads_on
  run_has_moments i j up =
      let opening = opening_world s.setting.config.nodes in
      let all = take j lines in
      let first = lines_lead s all most (opening_play s) lines right i (λ line has. take_more i j lines up line has) in
      let second = lines_go_on s all most (opening_play s) lines right i j up (λ line has. has) in
      let both = leads_on s all opening (world_after s most lines i) (world_after s most lines j) first second in
      record {
        events = first.events;
        more = second.events;
        before = history s all config (world_after s most lines i) first;
        after = history s all config (world_after s most lines j) both;
      }
    where
      take_more : (i j : ℕ) (lines : List Line) → i ≤ j → (line : Line) → Has line (take i lines) → Has line (take j lines)
      take_more zero j lines up line has = absurd has
      take_more (suc i) zero lines up line has = absurd (omega (arith, up))
      take_more (suc i) (suc j) [] up line has = absurd has
      take_more (suc i) (suc j) (l ∷ rest) up line (inl same) = inl same
      take_more (suc i) (suc j) (l ∷ rest) up line (inr has) = inr (take_more i j rest (omega (arith, up)) line has)

-- ---- what these lines noted

noted_by : (events : List Event) (lines : List Line) → ((event : Event) → Has event events → IsOfLines lines event) → (event : Event) → ((message : ℕ) → event ≢ Makes (Deliver message))
    → Has event events → IsAskedIn lines event
noted_by events lines are event other has = elim (are event has) [
  | inl asked ↦ asked
  | inr delivers ↦ absurd (other delivers.0 delivers.1)
]

pub noted_in : (events : List Event) (lines : List Line) → ((event : Event) → Has event events → IsOfLines lines event) → (v : Action) → IsNoted events v → IsNotedIn lines v
noted_in events lines are Noop noted = tt
noted_in events lines are (Call task number object operation arg) noted = (noted.0, noted_by events lines are (Submit task noted.0 object operation arg) (λ message e. cc) noted.1)
noted_in events lines are (actions.Interrupt source occurrence) noted = (noted.0, noted_by events lines are (Makes (Interrupt noted.0 source occurrence)) (λ message e. cc) noted.1)
noted_in events lines are (actions.Tick now) noted = (noted.0, noted_by events lines are (Makes (Tick noted.0 now)) (λ message e. cc) noted.1)
