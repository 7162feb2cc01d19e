-- A node's step keeps the replies to tasks.
use Rattle.rp_agreement.specs.Steps.{SentToo}
use Rattle.std.proofs.Common.{◌≡◌, ℕ, Result, Ok, Err, Option, Some, None, List, [], ◌∷◌, inl, inr, sym, ap, subst, ◌∙◌}
use Rattle.std.proofs.lemmas.Bool.{cases_eq}
use Rattle.std.proofs.lemmas.List.{append-nil}
use Rattle.rp_base.specs.declared.action.Action.{Action}
use Rattle.rp_base.specs.declared.fault.Fault.{Fault}
use Rattle.rp_base.specs.declared.record.Rec.{Rec}
use Rattle.rp_base.specs.Sets.{Has}
use Rattle.rp_base.specs.Records.{applied_of}
use Rattle.rp_codec.specs.Message.{Message}
use Rattle.rp_codec.specs.declared.packet.Party.TheVariants.{Node, Task}
use Rattle.rp_model.specs.Parts.{Running}
use Rattle.rp_model.specs.Parts.{NodePart}
use Rattle.rp_model.specs.Parts.{TaskPart}
use Rattle.rp_model.specs.Parts.{Turn}
use Rattle.rp_model.specs.Parts.{with_record}
use Rattle.rp_model.specs.Effect.{Setting, Done, NodeInput, turn_done_if, running_effect, effect_while, node_effect, cut_if, cut_effect, stops_while, stop_effect, restart_while, restart_part}
use Rattle.rp_model.specs.Tasks.{asks}
use Rattle.rp_model.proofs.AppliedGrowing.{applied_more}
use Rattle.rp_agreement.specs.Asked.{Asks}
use Rattle.rp_agreement.specs.Sound.{IsSound}
use Rattle.rp_agreement.specs.Order.{IsPrefix, AllSent}
use Rattle.rp_agreement.specs.Computed.{order_of}
use Rattle.rp_agreement.specs.Inputs.{NodeMoves}
use Rattle.rp_agreement.specs.Answered.{SaysAnswer, answers_of, IsKept}
use Rattle.rp_agreement.proofs.NodeEffects.{IsSoundDone}
use Rattle.rp_agreement.proofs.AnswerTurns.{AreAnswers, TurnAnswersIf, input_answers}
use Rattle.rp_agreement.proofs.Made.{made_stays}
use Rattle.rp_agreement.proofs.AnswersGrow.{answer_more, still_answered, answers_grow, order_grows, ready_grows}

same_node : {a x : ℕ} → Node a ≡ Node x → a ≡ x
same_node e = cc

-- a node asks nothing for a task
node_asks_nothing : (x t : ℕ) (sent sent' packets : List Message) (action : Action) → ((m : Message) → Has m packets → m.from ≡ Node x) → SentToo packets sent sent' → Asks sent' t action → Asks sent t action
node_asks_nothing x t sent sent' packets action from sends asked =
    elim ((sends (asks t asked.0 action)).0 asked.1) [
      | inl old ↦ (asked.0, old)
      | inr new ↦ let bad : Task t ≡ Node x = from (asks t asked.0 action) new in absurd (cc)
    ]

module _ {S : Type 0} (s : Setting S) where
  -- ---- a node's step

  written_begins : (records : List Rec) (written : Option Rec) → IsPrefix (applied_of records) (applied_of (with_record records written))
  written_begins records None = ([], sym (append-nil (applied_of records)))
  written_begins records (Some rec) = applied_more records (rec ∷ [])

  -- it replies what its applied list leads to
  pub node_keeps : (x : ℕ) (done : Done NodePart) (node : ℕ → NodePart) (task : ℕ → TaskPart) (sent : List Message) (node' : ℕ → NodePart) (sent' : List Message)
      → IsKept s node task sent → IsSound s.config.nodes node' sent' → IsSoundDone s.config.nodes x (node x) sent done
      → AreAnswers (answers_of s (applied_of done.part.records)) done.sends → NodeMoves x done node sent node' sent'
      → IsKept s node' task sent'
  node_keeps x done node task sent node' sent' kept sound d stated moves =
      let all : AllSent sent sent' = λ m h. (moves.sends m).1 (inl h) in
      let grown : (a : ℕ) → IsPrefix (applied_of (node a).records) (applied_of (node' a).records) = λ a. elim (cases_eq a x) [
        | inl same ↦
            let here = subst (λ (records : List Rec). IsPrefix (applied_of (node x).records) (applied_of records)) (sym (ap (λ (p : NodePart). p.records) moves.part ∙ d.records)) (written_begins (node x).records d.wrote) in
            subst (λ (k : ℕ). IsPrefix (applied_of (node k).records) (applied_of (node' k).records)) (sym same) here
        | inr other ↦ subst (λ (p : NodePart). IsPrefix (applied_of (node a).records) (applied_of p.records)) (sym (moves.others a other)) ([], sym (append-nil (applied_of (node a).records)))
      ] in
      record {
        sound = sound;
        own = kept.own;
        replies = λ m h a from. elim ((moves.sends m).0 h) [
          | inl old ↦ answer_more (answers_of s (applied_of (node a).records)) (answers_of s (applied_of (node' a).records)) (answers_grow s _ _ (grown a)) m.to m.body (kept.replies m old a from)
          | inr new ↦
              let same : a ≡ x = same_node (sym from ∙ d.step.from m new) in
              subst (λ (k : ℕ). SaysAnswer (answers_of s (applied_of (node' k).records)) m.to m.body) (sym same)
              (subst (λ (p : NodePart). SaysAnswer (answers_of s (applied_of p.records)) m.to m.body) (sym moves.part) (stated m new))
        ];
        answered = λ t. still_answered (answers_of s (order_of s.config.nodes sent)) (answers_of s (order_of s.config.nodes sent'))
            (answers_grow s _ _ (order_grows s.config.nodes node' sent sent' sound all)) t (task t) (kept.answered t);
        made = λ t. (
          (kept.made t).0,
          made_stays sent sent' t (task t) (kept.made t).0 all (λ action asked. node_asks_nothing x t sent sent' done.sends action d.step.from moves.sends asked) (kept.made t).1,
        );
        ready = λ t n few. ready_grows s (order_of s.config.nodes sent) (order_of s.config.nodes sent') t n (order_grows s.config.nodes node' sent sent' sound all) (kept.ready t n few);
      }

  -- ---- what a node replies

  abbrev pub DoneAnswersIf : Result (Done NodePart) Fault → Type 0
  DoneAnswersIf (Ok done) = AreAnswers (answers_of s (applied_of done.part.records)) done.sends
  DoneAnswersIf (Err fault) = Unit {0}

  turned_answers : (part : NodePart) (turn : Result Turn Fault) → TurnAnswersIf s part.records turn → DoneAnswersIf (turn_done_if part turn)
  turned_answers part (Ok turn) stated = stated
  turned_answers part (Err fault) stated = tt

  while_answers : (me : ℕ) (part : NodePart) (input : NodeInput) (running : Option Running) → DoneAnswersIf (effect_while s me part input running)
  while_answers me part input None = tt
  while_answers me part input (Some running) = turned_answers part (running_effect s me part.records running input) (input_answers s me part.records running input)

  answers_if : (result : Result (Done NodePart) Fault) (done : Done NodePart) → DoneAnswersIf result → result ≡ Ok done → AreAnswers (answers_of s (applied_of done.part.records)) done.sends
  answers_if result done stated resulted = subst DoneAnswersIf resulted stated

  pub effect_answers : (me : ℕ) (part : NodePart) (input : NodeInput) (done : Done NodePart) → node_effect s me part input ≡ Ok done
      → AreAnswers (answers_of s (applied_of done.part.records)) done.sends
  effect_answers me part input done resulted = answers_if (node_effect s me part input) done (while_answers me part input part.running) resulted

  cut_silent : (kept : ℕ) (part : NodePart) (result : Result (Done NodePart) Fault) → DoneAnswersIf (cut_if kept part result)
  cut_silent kept part (Ok done) = λ m h. absurd h
  cut_silent kept part (Err fault) = tt

  pub cut_answers : (me kept : ℕ) (part : NodePart) (input : NodeInput) (done : Done NodePart) → cut_effect s me part input kept ≡ Ok done
      → AreAnswers (answers_of s (applied_of done.part.records)) done.sends
  cut_answers me kept part input done resulted = answers_if (cut_effect s me part input kept) done (cut_silent kept part (node_effect s me part input)) resulted

  stop_silent : (part : NodePart) (running : Option Running) → DoneAnswersIf (stops_while part running)
  stop_silent part None = tt
  stop_silent part (Some running) = λ m h. absurd h

  pub stop_answers : (part : NodePart) (done : Done NodePart) → stop_effect part ≡ Ok done → AreAnswers (answers_of s (applied_of done.part.records)) done.sends
  stop_answers part done resulted = answers_if (stop_effect part) done (stop_silent part part.running) resulted

  restart_silent : (part : NodePart) (running : Option Running) → (let done = restart_while part running in AreAnswers (answers_of s (applied_of done.part.records)) done.sends)
  restart_silent part None m h = absurd h
  restart_silent part (Some running) m h = absurd h

  pub restart_answers : (part : NodePart) → (let done = restart_part part in AreAnswers (answers_of s (applied_of done.part.records)) done.sends)
  restart_answers part = restart_silent part part.running
