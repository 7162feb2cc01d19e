-- Each move of an installation, over a world that is behind it.
use Rattle.std.proofs.Common.{◌≡◌, ◌≢◌, ℕ, zero, suc, Option, Some, None, List, [], ◌∷◌, ◌++◌, length, inl, inr, ◌⊎◌, refl, sym, ap, subst, ◌∙◌, append_assoc, arith}
use Rattle.std.specs.Prelude.{IsSome, unwrap_or, replicate, slice_get, is_some}
use Rattle.std.proofs.lemmas.Bool.{cases_eq}
use Rattle.std.proofs.lemmas.List.{append-nil}
use Rattle.rp_base.specs.Config.{IsRightConfig}
use Rattle.rp_base.specs.Number.{IsTask}
use Rattle.rp_base.specs.Sets.{Has}
use Rattle.rp_base.proofs.Members.{has_split}
use Rattle.rp_model.specs.rp_codec.specs.Message.{Message}
use Rattle.rp_model.specs.rp_codec.specs.Text.{text_of}
use Rattle.rp_world.specs.rp_store.proofs.Whole.{are_alone}
use Rattle.rp_model.specs.Effect.{Setting}
use Rattle.rp_model.specs.Events.{Event}
use Rattle.rp_model.specs.Parts.{NodePart, TaskPart, fresh_node, fresh_task}
use Rattle.rp_model.specs.World.{World, part_at, with_part, opening_world}
use Rattle.rp_agreement.specs.History.{IsHistory}
use Rattle.rp_agreement.specs.Ranges.{IsRangedWorld}
use Rattle.rp_agreement.proofs.PartPlaces.{part_below, put_there, put_beside, put_length}
use Rattle.rp_requests.specs.Nodes.{NodeState, after_step}
use Rattle.rp_requests.specs.Requests.{asked_of}
use Rattle.rp_installations.specs.Making.{GoesOnTo}
use Rattle.rp_installations.proofs.Stepping.{stands_still}
use Rattle.rp_installations.specs.Sites.{NodeSite, TaskSite, Installation, closed_over, unopened_task, nothing_opened}
use Rattle.rp_installations.specs.Making.{AreAmong}
use Rattle.rp_installations.specs.Pending.{noted_by}
use Rattle.rp_installations.proofs.Asking.{asked_later}
use Rattle.rp_installations.specs.Moves.{noted_if, is_step_made, site_answered, with_step, AsksSite, OpensSite, NodeMove, TaskMove, Move, Moves, OpensFrom, AnswersBy}
use Rattle.rp_installations.specs.Moves as moves
use Rattle.rp_installations.specs.Behind.{IsSetUp, IsOpenOver, IsNodeOver, IsOpen, IsClosed, IsTaskOver, IsBehind, HasHistory, HasLonger}
use Rattle.rp_installations.proofs.NodeAnswers.{Outcome, Stepped, Unchanged, outcome, effect_on_part}
use Rattle.rp_installations.proofs.NodeSites.{over_later, open_over, open_handed, appends_over, syncs_over, step_over, same_over, hands_on, closes, opens}
use Rattle.rp_installations.proofs.Requested.{AllTexts, may_come}
use Rattle.rp_installations.proofs.TaskSites.{TaskMoved, opens_task, asks_task}

-- ---- the state in which nothing was opened

replicate_get : {A B : Type 0} (n place : ℕ) (x y : A) (z : B) → slice_get (replicate n x) place ≡ Some y → (y ≡ x) × (slice_get (replicate n z) place ≡ Some z)
replicate_get zero place x y z e = absurd (cc)
replicate_get (suc n) zero x y z e = (sym (ap (λ (o : Option _). unwrap_or o y) e), refl)
replicate_get (suc n) (suc place) x y z e = replicate_get n place x y z e

replicate_at : {A B : Type 0} (n place : ℕ) (x y : A) (z : B) → part_at (replicate n x) place ≡ Some y → (y ≡ x) × (part_at (replicate n z) place ≡ Some z)
replicate_at n zero x y z e = absurd (cc)
replicate_at n (suc place) x y z e = replicate_get n place x y z e

first_node : {S : Type 0} (s : Setting S) (me : ℕ) (site : NodeSite S) → site ≡ closed_over [] [] → IsNodeOver s [] me fresh_node site
first_node s me site is = subst (IsNodeOver s [] me fresh_node) (sym is) (IsClosed (record { closed = refl; torn = []; records = are_alone [] [] refl tt; torn_is = refl }))

first_task : (t : ℕ) (site : TaskSite) → site ≡ unopened_task → IsTaskOver t fresh_task site
first_task t site is = subst (IsTaskOver t fresh_task) (sym is) (record { unopened = λ none. refl; opened = λ calls some. absurd (cc); replies = refl })

pub first_behind : {S : Type 0} (s : Setting S) (nodes : ℕ) → IsBehind s (opening_world nodes) (nothing_opened nodes)
first_behind s nodes = record {
  nodes = λ me site here. (let at = replicate_at nodes me (closed_over [] []) site fresh_node here in (fresh_node, at.1, first_node s me site at.0));
  tasks = λ t site here. (let at = replicate_at 8 t unopened_task site fresh_task here in (fresh_task, at.1, first_task t site at.0));
  eight_tasks = refl;
  packets = λ packet none. absurd none;
}

pub first_history : {S : Type 0} (s : Setting S) → IsRightConfig s.config → IsHistory s [] (opening_world s.config.nodes)
first_history s right = record { config = right; right = λ event none. absurd none; happened = refl }

-- ---- a move of a node

-- what it leads to
pub record NodeMoved {S : Type 0} (s : Setting S) (events : List Event) (w : World) (me : ℕ) (after : NodeSite S) (given : List (List ℕ)) : Type 0 where
  pub reached : NodePart
  pub leads : GoesOnTo s events w me reached
  pub over : IsNodeOver s leads.world.sent me reached after
  pub noted : AreAmong leads.noted after.noted
  pub given_sent : (packet : List ℕ) → Has packet given → (m : Message) × Has m leads.world.sent × (packet ≡ text_of m)

module _ {S : Type 0} (s : Setting S) (ranged : (events : List Event) (w : World) → IsHistory s events w → IsRangedWorld s.config.nodes w) (image : S → List ℕ) (events : List Event) (w : World) (history : IsHistory s events w) where
  -- nothing happens in the world
  waits : (me : ℕ) (part : NodePart) (here : part_at w.nodes me ≡ Some part) (after : NodeSite S) (given : List (List ℕ)) → IsNodeOver s w.sent me part after → given ≡ [] → NodeMoved s events w me after given
  waits me part here after given over none = record {
    reached = part;
    leads = stands_still s events w me part part history here refl;
    over = over;
    noted = λ v none. absurd none;
    given_sent = λ packet has. absurd (subst (λ (l : List (List ℕ)). Has packet l) none has);
  }

  asked_on : (me : ℕ) (part : NodePart) (here : part_at w.nodes me ≡ Some part) (handed : List (List ℕ)) (site after : NodeSite S) (given : List (List ℕ)) → AllTexts handed w.sent → (o : IsOpenOver s w.sent me part site)
      → (a : AsksSite s.config.nodes (OpensFrom s.next s.answers image s.config s.begin) (AnswersBy s.next s.answers image) handed site after) → given ≡ [] → Outcome s.next s.answers (asked_of a.exchange.request) a.old a.new (is_step_made (asked_of a.exchange.request) a.exchange.result a.new.not_taken) → NodeMoved s events w me after given
  asked_on me part here handed site after given all o a none (Stepped input stale turn asked timely effect goes is) =
      let same : o.node ≡ a.old = ap (λ (x : Option (NodeState S)). unwrap_or x a.old) (sym o.kept ∙ a.opened) in
      let may = may_come handed w.sent a.exchange.request all a.bytes a.arrived input asked in
      let on_part = effect_on_part s me a.old input turn (subst (IsSetUp s me) same o.set_up) effect in
      let site_is : after ≡ with_step site (after_step a.old stale turn) (noted_by input) = a.goes ∙ ap (site_answered site a.new (noted_if (asked_of a.exchange.request))) is ∙ ap (with_step site a.new) (ap noted_if asked) ∙ ap (λ (n : NodeState S). with_step site n (noted_by input)) goes in
      waits me part here after given (subst (IsNodeOver s w.sent me part) (sym site_is) (IsOpen (step_over s w.sent me part site o a.old input stale turn a.opened may on_part))) none
  asked_on me part here handed site after given all o a none (Unchanged goes is) =
      let site_is : after ≡ record site { node = Some a.new } = a.goes ∙ ap (site_answered site a.new (noted_if (asked_of a.exchange.request))) is in
      waits me part here after given (subst (IsNodeOver s w.sent me part) (sym site_is) (IsOpen (same_over s w.sent me part site o a.old a.new a.opened goes))) none

  some_node : (site : NodeSite S) (node : NodeState S) → site.node ≡ Some node → IsSome site.node
  some_node site node is = ap (λ (o : Option (NodeState S)). is_some o) is

  opened_on : (me : ℕ) (part : NodePart) (here : part_at w.nodes me ≡ Some part) (site after : NodeSite S) (given : List (List ℕ)) → OpensSite s.config.nodes (OpensFrom s.next s.answers image s.config s.begin) (AnswersBy s.next s.answers image) me site after → given ≡ [] → IsNodeOver s w.sent me part site
      → NodeMoved s events w me after given
  opened_on me part here site after given h none (IsOpen o) = let closed : site.node ≡ None = h.closed in let open_now : site.node ≡ Some o.node = o.kept in absurd (cc)
  opened_on me part here site after given h none (IsClosed c) =
      let d = opens s ranged events w history me part here site image c after h in
      record { reached = d.reached; leads = d.leads; over = IsOpen d.over; noted = λ v has. absurd (d.noted v has); given_sent = λ packet has. absurd (subst (λ (l : List (List ℕ)). Has packet l) none has) }

  pub node_on : (me : ℕ) (part : NodePart) (here : part_at w.nodes me ≡ Some part) (handed : List (List ℕ)) (site after : NodeSite S) (given : List (List ℕ)) → AllTexts handed w.sent → IsNodeOver s w.sent me part site
      → NodeMove s.config.nodes (OpensFrom s.next s.answers image s.config s.begin) (AnswersBy s.next s.answers image) handed me site after given → NodeMoved s events w me after given
  node_on me part here handed site after given all over (moves.NodeMove.Opened h none) = opened_on me part here site after given h none over
  node_on me part here handed site after given all over (moves.NodeMove.Requested a none) =
      asked_on me part here handed site after given all (open_over s w.sent me part site (some_node site a.old a.opened) over) a none
      (outcome s.next s.answers image (asked_of a.exchange.request) a.old a.new a.exchange.before a.exchange.after a.exchange.result a.answers)
  node_on me part here handed site after given all over (moves.NodeMove.Appended a none) =
      waits me part here after given (IsOpen (appends_over s w.sent me part site (open_over s w.sent me part site a.opened over) after a)) none
  node_on me part here handed site after given all over (moves.NodeMove.Synced a none) =
      waits me part here after given (IsOpen (syncs_over s w.sent me part site (open_over s w.sent me part site a.opened over) after a)) none
  node_on me part here handed site after given all over (moves.NodeMove.HandedOn packet h same gives) =
      let d = hands_on s ranged events w history me part here site (open_handed s w.sent me part site packet h over) packet h in
      record {
        reached = d.reached;
        leads = d.leads;
        over = subst (IsNodeOver s d.leads.world.sent me d.reached) (sym same) (IsOpen d.over);
        noted = subst (λ (x : NodeSite S). AreAmong d.leads.noted x.noted) (sym same) d.noted;
        given_sent = λ p has. elim (subst (λ (l : List (List ℕ)). Has p l) gives has) [ inl is ↦ (d.sent.0, d.sent.1, is ∙ d.sent.2) | inr none ↦ absurd none ];
      }
  node_on me part here handed site after given all over (moves.NodeMove.Closed c none) =
      let d = closes s ranged events w history me part here site (open_over s w.sent me part site c.opened over) after c in
      record { reached = d.reached; leads = d.leads; over = IsClosed d.over; noted = subst (λ (x : NodeSite S). AreAmong d.leads.noted x.noted) (sym c.goes) d.noted; given_sent = λ packet has. absurd (subst (λ (l : List (List ℕ)). Has packet l) none has) }

  -- ---- the world behind it all

  module _ (before : Installation S) (behind : IsBehind s w before) where
    texts_known : AllTexts before.handed_on w.sent
    texts_known = record { text = behind.packets; packets = (ranged events w history).packets }

    -- where one node's site is changed, or none is
    pub record IsChange (me : ℕ) (after : Installation S) (reached : NodePart) (leads : GoesOnTo s events w me reached) : Type 0 where
      pub at : (k : ℕ) (site : NodeSite S) → part_at after.nodes k ≡ Some site → ((k ≡ me) × IsNodeOver s leads.world.sent me reached site) ⊎ ((k ≢ me) × (part_at before.nodes k ≡ Some site))
      pub tasks : after.tasks ≡ before.tasks
      pub packets : (packet : List ℕ) → Has packet after.handed_on → Has packet before.handed_on ⊎ ((m : Message) × Has m leads.world.sent × (packet ≡ text_of m))

    pub behind_on : (me : ℕ) (after : Installation S) (reached : NodePart) (leads : GoesOnTo s events w me reached) → IsChange me after reached leads → IsBehind s leads.world after
    behind_on me after reached leads change = record {
      nodes = λ k site there. elim (change.at k site there) [
        | inl this ↦ (reached, subst (λ (n : ℕ). part_at leads.world.nodes n ≡ Some reached) (sym this.0) leads.here, subst (λ (n : ℕ). IsNodeOver s leads.world.sent n reached site) (sym this.0) this.1)
        | inr other ↦
            let was = behind.nodes k site other.1 in
            (was.0, leads.others k other.0 ∙ was.1, over_later s w.sent leads.world.sent k was.0 site leads.sent was.2)
      ];
      tasks = λ t site there.
          (let was = behind.tasks t site (ap (λ (l : List TaskSite). part_at l t) (sym change.tasks) ∙ there) in
          (was.0, ap (λ (l : List TaskPart). part_at l t) leads.tasks ∙ was.1, was.2));
      eight_tasks = ap (λ (l : List TaskSite). length l) change.tasks ∙ behind.eight_tasks;
      packets = λ packet has. elim (change.packets packet has) [
        | inl old ↦ (let was = behind.packets packet old in (was.0, leads.sent was.0 was.1, was.2))
        | inr new ↦ new
      ];
    }

    -- a node moved
    node_change : (me : ℕ) (site changed : NodeSite S) (given : List (List ℕ)) (after : Installation S) → part_at before.nodes me ≡ Some site → after ≡ record before { nodes = with_part before.nodes me changed; handed_on = before.handed_on ++ given }
        → (moved : NodeMoved s events w me changed given) → IsChange me after moved.reached moved.leads
    node_change me site changed given after here goes moved = record {
      at = λ k other there.
          (let at_after : part_at (with_part before.nodes me changed) k ≡ Some other = ap (λ (i : Installation S). part_at i.nodes k) (sym goes) ∙ there in
          elim (cases_eq k me) [
            | inl same ↦
                let this : changed ≡ other = ap (λ (o : Option (NodeSite S)). unwrap_or o other) (sym (put_there before.nodes me site changed here) ∙ ap (part_at (with_part before.nodes me changed)) (sym same) ∙ at_after) in
                inl (same, subst (IsNodeOver s moved.leads.world.sent me moved.reached) this moved.over)
            | inr differs ↦ inr (differs, sym (put_beside before.nodes me k changed differs) ∙ at_after)
          ]);
      tasks = ap (λ (i : Installation S). i.tasks) goes;
      packets = λ packet has. elim (has_split packet before.handed_on given (subst (λ (i : Installation S). Has packet i.handed_on) goes has)) [
        | inl old ↦ inl old
        | inr new ↦ inr (moved.given_sent packet new)
      ];
    }

    -- a task moved
    task_behind : (t : ℕ) (site changed : TaskSite) (given : List (List ℕ)) (after : Installation S) → part_at before.tasks t ≡ Some site → after ≡ record before { tasks = with_part before.tasks t changed; handed_on = before.handed_on ++ given }
        → (moved : TaskMoved s events w t changed given) → IsBehind s moved.world after
    task_behind t site changed given after here goes moved = subst (IsBehind s moved.world) (sym goes) (record {
      nodes = λ k other there.
          (let was = behind.nodes k other there in
          (was.0, ap (λ (l : List NodePart). part_at l k) moved.nodes ∙ was.1, over_later s w.sent moved.world.sent k was.0 other moved.sent was.2));
      tasks = λ k other there. elim (cases_eq k t) [
        | inl same ↦
            let this : changed ≡ other = ap (λ (o : Option TaskSite). unwrap_or o other) (sym (put_there before.tasks t site changed here) ∙ ap (part_at (with_part before.tasks t changed)) (sym same) ∙ there) in
            (moved.part, ap (part_at moved.world.tasks) same ∙ moved.here, subst (λ (n : ℕ). IsTaskOver n moved.part other) (sym same) (subst (IsTaskOver t moved.part) this moved.over))
        | inr differs ↦
            let was = behind.tasks k other (sym (put_beside before.tasks t k changed differs) ∙ there) in
            (was.0, moved.others k differs ∙ was.1, was.2)
      ];
      eight_tasks = put_length before.tasks t changed ∙ behind.eight_tasks;
      packets = λ packet has. elim (has_split packet before.handed_on given has) [
        | inl old ↦ (let was = behind.packets packet old in (was.0, moved.sent was.0 was.1, was.2))
        | inr new ↦ moved.given_sent packet new
      ];
    })

    task_on : (t : ℕ) (part : TaskPart) (here : part_at w.tasks t ≡ Some part) (site changed : TaskSite) (given : List (List ℕ)) → IsTask t → IsTaskOver t part site → TaskMove s.config.nodes before.handed_on t site changed given
        → TaskMoved s events w t changed given
    task_on t part here site changed given task over (moves.TaskMove.Opened o none) = opens_task s events w history t part here site changed given over o none
    task_on t part here site changed given task over (moves.TaskMove.Called a) = asks_task s events w history t task part here before.handed_on texts_known site changed given over a

    pub move_on : (after : Installation S) → Move s.config.nodes (OpensFrom s.next s.answers image s.config s.begin) (AnswersBy s.next s.answers image) before after → HasLonger s events after
    move_on after (moves.Move.OfNode me site changed given here move goes) =
        let was = behind.nodes me site here in
        let moved = node_on me was.0 was.1 before.handed_on site changed given texts_known was.2 move in
        record {
          more = moved.leads.more;
          world = moved.leads.world;
          history = moved.leads.history;
          behind = behind_on me after moved.reached moved.leads (node_change me site changed given after here goes moved);
          noted = λ event has v there. (me, changed, ap (λ (i : Installation S). part_at i.nodes me) goes ∙ put_there before.nodes me site changed here, moved.noted v (moved.leads.notes event has v there));
        }
    move_on after (moves.Move.OfTask t site changed given here move goes) =
        let was = behind.tasks t site here in
        let place = part_below before.tasks t site here in
        let task : IsTask t = (place.0, omega (arith, place.1, behind.eight_tasks)) in
        let moved = task_on t was.0 was.1 site changed given task was.2 move in
        record { more = moved.more; world = moved.world; history = moved.history; behind = task_behind t site changed given after here goes moved; noted = λ event has v there. absurd (moved.notes event has v there) }

-- ---- moves, one after another

pub moves_on : {S : Type 0} (s : Setting S) (ranged : (events : List Event) (w : World) → IsHistory s events w → IsRangedWorld s.config.nodes w) (image : S → List ℕ) (steps : List (Installation S)) (events : List Event) (w : World)
    (before after : Installation S) → IsHistory s events w → IsBehind s w before → Moves s.config.nodes (OpensFrom s.next s.answers image s.config s.begin) (AnswersBy s.next s.answers image) before steps after → HasLonger s events after
moves_on s ranged image [] events w before after history behind same = record {
  more = [];
  world = w;
  history = subst (λ (es : List Event). IsHistory s es w) (sym (append-nil events)) history;
  behind = subst (IsBehind s w) (sym same) behind;
  noted = λ event none. absurd none;
}
moves_on s ranged image (middle ∷ rest) events w before after history behind all =
    let first = move_on s ranged image events w history before behind middle all.0 in
    let then_on = moves_on s ranged image rest (events ++ first.more) first.world middle after first.history first.behind all.1 in
    record {
      more = first.more ++ then_on.more;
      world = then_on.world;
      history = subst (λ (es : List Event). IsHistory s es then_on.world) (append_assoc events first.more then_on.more) then_on.history;
      behind = then_on.behind;
      noted = λ event has v there. elim (has_split event first.more then_on.more has) [
        | inl old ↦ asked_later s.config.nodes (OpensFrom s.next s.answers image s.config s.begin) (AnswersBy s.next s.answers image) middle rest after all.1 v (first.noted event old v there)
        | inr new ↦ then_on.noted event new v there
      ];
    }

-- from the state in which nothing was opened
pub from_nothing : {S : Type 0} (s : Setting S) (ranged : (events : List Event) (w : World) → IsHistory s events w → IsRangedWorld s.config.nodes w) (image : S → List ℕ) → IsRightConfig s.config → (steps : List (Installation S)) (after : Installation S)
    → Moves s.config.nodes (OpensFrom s.next s.answers image s.config s.begin) (AnswersBy s.next s.answers image) (nothing_opened s.config.nodes) steps after → HasHistory s after
from_nothing s ranged image right steps after all =
    let longer = moves_on s ranged image steps [] (opening_world s.config.nodes) (nothing_opened s.config.nodes) after (first_history s right) (first_behind s s.config.nodes) all in
    record { events = longer.more; world = longer.world; history = longer.history; behind = longer.behind; noted = longer.noted }
