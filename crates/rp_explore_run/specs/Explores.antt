-- What is printed of the search over every order of a deck, and of the bytes of a deck.
use Rattle.std.specs.Prelude.{◌≡◌, ◌⊎◌, ◌-◌, ◌<◌, ◌≤◌, ℕ, pos, false, Option, Ok, Err}
use Rattle.std.specs.Prelude.{List, [], ◌∷◌, length, map, max, replicate, slice_index_or, None}
use Rattle.std.specs.Prelude.{IsTrue, MatchOption, ◌↔◌}
use Rattle.std.specs.Arc.{arc_value}
use Rattle.std.specs.Io.KnownBytes.{Appends}
use Rattle.std.specs.List.{AllZip}
use Rattle.rp_script.specs.rp_base.specs.Number.{IsTask}
use Rattle.rp_script.specs.rp_base.specs.Sets.{Has, IsSet}
use Rattle.rp_script.specs.rp_base.specs.declared.action.Action.{Action}
use Rattle.rp_script.specs.rp_base.specs.declared.fault.Fault.{Fault}
use Rattle.rp_script.specs.rp_base.specs.declared.fault.Fault.TheVariants.{BadDeck}
use Rattle.rp_script.specs.rp_base.specs.declared.reply.Answer.{Answer}
use Rattle.rp_script.specs.rp_deck.specs.Deck.{IsRightDeck}
use Rattle.rp_script.specs.rp_deck.specs.declared.deck.Line.{Line}
use Rattle.rp_script.specs.rp_deck_declarations.specs.declared.deck_program.DeckProgram.{DeckProgram}
use Rattle.rp_script.specs.rp_deck_declarations.specs.declared.deck_program.DeckProgram.TheVariants.{Tally}
use Rattle.rp_script.specs.rp_deck_declarations.specs.declared.deck_program.DeckProgram.TheVariants.{Objects}
use Rattle.rp_explore.specs.Explored.{Exploration, IsFirstGiver, IsFirstStuck, IsNeverStuck}
use Rattle.rp_explore.specs.Explored.{greatest_length}
use Rattle.rp_explore.specs.Listed.{AreDistinct, order_at}
use Rattle.rp_explore.specs.declared.giver.Giver.{Giver}
use Rattle.rp_explore_deck.specs.Plans.{plan_of, plan_text}
use Rattle.rp_explore_deck.specs.declared.plan.Plan.{Plan}
use Rattle.rp_explore_deck.specs.declared.rules.Rule.{Rule}
use Rattle.rp_explore_run.specs.Answers.{ExploredDeck, IsAnswer}
use Rattle.rp_explore_run.specs.Judging.{IsJudged, keeps, no_truths}
use Rattle.rp_explore_deck.specs.declared.request.ExploreRequest.{ExploreRequest}
use Rattle.rp_explore_run.specs.declared.answer.Printed.{Printed}
use Rattle.rp_explore_run.specs.declared.answer.Verdict.{Verdict}
use Rattle.rp_explore_run.specs.declared.explore.Asked.{Asked}
use Rattle.rp_explore_run.specs.declared.findings.Judged.{Judged}
use Rattle.rp_script.specs.rp_machine.specs.TallyRule.{tally_answers, tally_image, tally_next}
use Rattle.rp_script.specs.rp_object.specs.Image.{objects_image}
use Rattle.rp_script.specs.rp_object.specs.State.{first_state}
use Rattle.rp_script.specs.rp_object.specs.Step.{objects_answers, objects_next}
use Rattle.rp_explore_run.specs.Wanted.{text_lines}
use Rattle.rp_explore.specs.rp_orders.specs.Orders.{AreClosed, IsFinal, IsGiven}
use Rattle.rp_explore.specs.rp_orders.specs.declared.guard.Guard.{Guard}
use Rattle.rp_script.specs.rp_output.specs.Stream.{Begins}
use Rattle.rp_script.specs.rp_run.specs.Output.{names_of}
use Rattle.rp_script.specs.Faults.{IsBadDeck, IsProgramFault}
use Rattle.rp_script.specs.Given.{AreGiven}

-- What a search found, of these actions under these guards and of at most n states: orders to
-- different states, whether they lead to all states, exactly the replies that they give, with what
-- first gives each, and for each task the first of them after which it waits for ever.
pub record IsSearch {S : Type 0} (next : S → Action → S) (answers : S → Action → List Answer)
    (begin : S) (guards : List Guard) (may : List Action) (most : ℕ) (e : Exploration) : Type 0 where
  pub of_actions : e.may ≡ may
  pub starts : Has [] e.orders
  pub distinct : AreDistinct next answers begin guards e.orders
  pub few : length e.orders ≤ most
  pub whole : IsTrue e.is_whole ↔ AreClosed next answers begin guards may e.orders
  pub full : e.is_whole ≡ false → length e.orders ≡ most
  pub replies : (answer : Answer) → Has answer e.replies
      ↔ IsGiven next answers begin guards may e.orders answer
  pub once : IsSet e.replies
  pub givers : (k : ℕ) (answer : Answer) (giver : Giver) → k < length e.replies
      → IsFirstGiver next answers begin guards may e.orders
      (slice_index_or e.replies k answer) (slice_index_or e.givers k giver)
  pub waits : (task : ℕ) → IsTask task → MatchOption (slice_index_or e.stuck (task - 1) None)
      (IsNeverStuck next answers begin guards may e.orders task)
      (IsFirstStuck next answers begin guards may e.orders task)
  pub finals : (place : ℕ) → place < length e.orders → IsTrue (slice_index_or e.finals place false)
      ↔ IsFinal next answers begin guards may (order_at e.orders place)
  pub depth : e.depth ≡ greatest_length e.orders

-- how many lines there are before the first one of a script, or all of n
abbrev pub head_of : ℕ → List Line → ℕ
head_of count [] = count
head_of count (line ∷ rest) = line.number - 1

-- a deck of these lines, and a search over its orders
abbrev pub explored_plan : Plan → List (List ℕ) → Exploration → ExploredDeck
explored_plan plan lines e = record {
  names = names_of plan.deck.tasks;
  may = map (λ p. p.action) plan.actions.items;
  explored = e;
  lines = lines;
  head = head_of (length lines) plan.deck.script.items;
  rules = map (λ placed. placed.line) plan.rules.items;
  planned = plan.actions.items;
  positions = plan.deck.config.max_positions;
}

-- The orders of a deck's actions were searched, its rules judged, and this was printed of them.
pub record IsExploredAt {S : Type 0} (next : S → Action → S) (answers : S → Action → List Answer)
    (begin : S) (image : S → List ℕ) (keeps : Rule → S → Type 0) (plan : Plan)
    (lines : List (List ℕ)) (request : ExploreRequest) (printed : Printed) : Type 0 where
  pub explored : Exploration
  pub is_search : IsSearch next answers begin plan.guards.items
      (map (λ p. p.action) plan.actions.items) (max 1 request.states) explored
  pub judged : List Judged
  pub are_judged : AllZip (IsJudged next answers begin keeps explored) plan.rules.items judged
  pub is_printed : IsAnswer next answers begin image (explored_plan plan lines explored)
      request.deck judged printed

-- the same of the deck's program
abbrev pub IsExploredBy : DeckProgram → Plan → List (List ℕ) → ExploreRequest → Printed → Type 0
IsExploredBy (Tally objects) =
    IsExploredAt tally_next tally_answers (replicate objects (pos 0)) tally_image no_truths
IsExploredBy (Objects program) =
    IsExploredAt objects_next objects_answers (first_state (arc_value program.declarations))
    objects_image keeps

abbrev pub IsExplored : Plan → List (List ℕ) → ExploreRequest → Printed → Type 0
IsExplored plan = IsExploredBy plan.deck.program plan

-- ---- bytes

-- what is printed of the deck that the reader's bytes mean
pub record ExploresAs (request : ExploreRequest) (given : Option (List ℕ)) (verdict : Verdict)
    (text : List ℕ) : Type 0 where
  pub bytes : List ℕ
  pub are_given : AreGiven given bytes
  pub plan : Plan
  pub right : IsRightDeck plan.deck
  pub meaning : plan_of bytes ≡ Ok (plan_text plan)
  pub printed : Printed
  pub is_explored : IsExplored plan (text_lines bytes) request printed
  pub verdict_is : verdict ≡ printed.verdict
  pub text_is : text ≡ printed.text.items

-- that was written
abbrev pub Explores : ExploreRequest → Option (List ℕ) → Option (List ℕ) → Option (List ℕ)
    → Verdict → Type 0
Explores request given old new verdict =
    (text : List ℕ) × Appends old new text × ExploresAs request given verdict text

-- what was written if a fault ended it: nothing, or a prefix of such a text
abbrev pub ExploreBegins : ExploreRequest → Option (List ℕ) → Option (List ℕ) → Option (List ℕ)
    → Type 0
ExploreBegins request given old new =
    (new ≡ old) ⊎ ((text : List ℕ) × (verdict : Verdict) × ExploresAs request given verdict text
    × Begins old new text)

-- the line and the reason of a bad deck are the first bad line of these bytes and the first reason
-- on it
abbrev pub IsPlanMeant : Option (List ℕ) → Fault → Type 0
IsPlanMeant given (BadDeck line reason) = (bytes : List ℕ) × AreGiven given bytes
    × (plan_of bytes ≡ Err (record { line = line; reason = reason }))
IsPlanMeant given _ = Unit {0}

-- The fault of a search over the deck that these bytes mean. If they mean none, it has the first
-- bad line and the first reason on it, and nothing was written.
pub record FailsExplore (given output output_after : Option (List ℕ)) (fault : Fault)
    : Type 0 where
  pub meant : IsPlanMeant given fault
  pub unwritten : IsBadDeck fault → output_after ≡ output
  pub known : IsProgramFault fault

-- ---- a deck as its functions have it (no public clause names what follows)

-- what was asked for, and a search over it
abbrev pub asked_deck : Asked → Exploration → ExploredDeck
asked_deck asked e = record {
  names = names_of asked.plan.now.deck.tasks;
  may = asked.may.now;
  explored = e;
  lines = map (λ line. line.now) asked.source.lines.now;
  head = asked.source.head;
  rules = asked.source.rules.now;
  planned = asked.source.planned.now;
  positions = asked.plan.now.deck.config.max_positions;
}

-- it was searched, its rules judged, and this was printed
pub record IsExploredFor {S : Type 0} (next : S → Action → S) (answers : S → Action → List Answer)
    (begin : S) (image : S → List ℕ) (keeps : Rule → S → Type 0) (asked : Asked) (printed : Printed)
    : Type 0 where
  pub explored : Exploration
  pub is_search : IsSearch next answers begin asked.plan.now.guards.items asked.may.now
      (max 1 asked.request.states) explored
  pub judged : List Judged
  pub are_judged : AllZip (IsJudged next answers begin keeps explored)
      asked.plan.now.rules.items judged
  pub is_printed : IsAnswer next answers begin image (asked_deck asked explored)
      asked.request.deck judged printed
