-- Two nodes of an installation at two moments, over two moments of one history.
use Rattle.std.proofs.Common.{◌≡◌, ℕ, Option, Some, List, [], ◌++◌, length, inl, inr, refl, sym, ap, subst, ◌∙◌, append_assoc, length-append, arith}
use Rattle.std.specs.Prelude.{unwrap_or, is_some}
use Rattle.std.proofs.lemmas.Bool.{cases_eq}
use Rattle.std.proofs.lemmas.List.{append-nil}
use Rattle.rp_base.specs.Records.{applied_of}
use Rattle.rp_model.specs.rp_machine.specs.Replay.{replay_state}
use Rattle.rp_model.specs.Effect.{Setting}
use Rattle.rp_model.specs.Events.{Event}
use Rattle.rp_model.specs.Parts.{NodePart}
use Rattle.rp_model.specs.World.{World, part_at}
use Rattle.rp_agreement.specs.History.{IsHistory, AreMoments}
use Rattle.rp_agreement.specs.Order.{AreAlike}
use Rattle.rp_agreement.specs.Ranges.{IsRangedWorld}
use Rattle.rp_world.specs.Agreeing.{Agree}
use Rattle.rp_world.specs.rp_replica.specs.State.{part_of}
use Rattle.rp_requests.specs.Nodes.{NodeState, image_of}
use Rattle.rp_installations.specs.Pending.{AreSteps, after_steps, bytes_of}
use Rattle.rp_installations.proofs.Stepping.{made}
use Rattle.rp_installations.specs.Sites.{NodeSite, Installation}
use Rattle.rp_installations.specs.Moves.{Moves, OpensFrom, AnswersBy}
use Rattle.rp_installations.specs.Behind.{IsOpenOver, IsNodeOver, IsOpen, IsBehind, HasHistory}
use Rattle.rp_installations.specs.Outcomes.{IsOpenAt, IsAllSynced, AgreeAs}
use Rattle.rp_installations.specs.Starts.{BehaveAlike}
use Rattle.rp_installations.proofs.Opened.{AllAlike, moves_keep}
use Rattle.rp_installations.proofs.NodeSites.{open_over, settle}
use Rattle.rp_installations.proofs.Following.{IsChange, behind_on, moves_on}

-- a history that goes on to a world in which the open node has its part
pub record Reaches {S : Type 0} (s : Setting S) (events : List Event) (me : ℕ) (node : NodeState S) : Type 0 where
  pub more : List Event
  pub world : World
  pub history : IsHistory s (events ++ more) world
  pub part : NodePart
  pub here : part_at world.nodes me ≡ Some part
  pub part_is : part_of node.replica ≡ part

-- and that is behind the installation too
pub record Settles {S : Type 0} (s : Setting S) (events : List Event) (i : Installation S) (me : ℕ) (node : NodeState S) : Type 0 where
  pub reaches : Reaches s events me node
  pub behind : IsBehind s reaches.world i

module _ {S : Type 0} (s : Setting S) (ranged : (events : List Event) (w : World) → IsHistory s events w → IsRangedWorld s.config.nodes w) (image : S → List ℕ) (events : List Event) (w : World) (history : IsHistory s events w)
    (i : Installation S) (behind : IsBehind s w i) (me : ℕ) (site : NodeSite S) (node : NodeState S) (kept : IsOpenAt i me site node) where
  was : (part : NodePart) × (part_at w.nodes me ≡ Some part) × IsNodeOver s w.sent me part site
  was = behind.nodes me site kept.site_is

  opened : (part : NodePart) × (part_at w.nodes me ≡ Some part) × IsOpenOver s w.sent me part site
  opened = (was.0, was.1, open_over s w.sent me was.0 site (let some : site.node ≡ Some node = kept.node_is in ap (λ (o : Option (NodeState S)). is_some o) some) was.2)

  same_node : (part : NodePart) (o : IsOpenOver s w.sent me part site) → o.node ≡ node
  same_node part o = ap (λ (x : Option (NodeState S)). unwrap_or x node) (sym o.kept ∙ kept.node_is)

  -- all its steps are made
  pub reaches : Reaches s events me node
  reaches =
      let part = opened.0 in
      let o = opened.2 in
      let all = made s ranged o.steps [] events w me part history opened.1 (subst (AreSteps s w.sent me part) (sym (append-nil o.steps)) o.made) in
      let same = same_node part o in
      record {
        more = all.leads.more;
        world = all.leads.world;
        history = all.leads.history;
        part = after_steps part o.steps;
        here = all.leads.here;
        part_is = ap (λ (n : NodeState S). part_of n.replica) (sym same) ∙ o.reached;
      }

  -- where all that they gave is synced, the world is behind the installation still
  pub settles : IsAllSynced site → Settles s events i me node
  settles synced =
      let part = opened.0 in
      let o = opened.2 in
      let same = same_node part o in
      let whole : site.synced ≡ o.bytes ++ bytes_of o.steps =
      sym (append-nil site.synced) ∙ sym (append-nil (site.synced ++ []))
      ∙ ap (λ (l : List ℕ). (site.synced ++ l) ++ []) (sym synced.appended) ∙ ap (λ (l : List ℕ). (site.synced ++ site.appended) ++ l) (sym synced.given) ∙ o.given in
      let long = ap (λ (l : List ℕ). length l) whole ∙ length-append o.bytes (bytes_of o.steps) in
      let d = settle s ranged events w history me part opened.1 site o o.steps [] (sym (append-nil o.steps)) (omega (arith, long)) in
      let change : IsChange s ranged image events w history i behind me i (after_steps part o.steps) d.leads = record {
        at = λ k other there. elim (cases_eq k me) [
          | inl at_me ↦
              let this : site ≡ other = ap (λ (x : Option (NodeSite S)). unwrap_or x other) (sym kept.site_is ∙ ap (part_at i.nodes) (sym at_me) ∙ there) in
              inl (at_me, subst (IsNodeOver s d.leads.world.sent me (after_steps part o.steps)) this (IsOpen d.over))
          | inr differs ↦ inr (differs, there)
        ];
        tasks = refl;
        packets = λ packet has. inl has;
      } in
      record {
        reaches = record {
          more = d.leads.more;
          world = d.leads.world;
          history = d.leads.history;
          part = after_steps part o.steps;
          here = d.leads.here;
          part_is = ap (λ (n : NodeState S). part_of n.replica) (sym same) ∙ o.reached;
        };
        behind = behind_on s ranged image events w history i behind me i (after_steps part o.steps) d.leads change;
      }

-- ---- two nodes

-- what a node shows, by its part
shows : {S : Type 0} (s : Setting S) (image : S → List ℕ) (node : NodeState S) (part : NodePart) → BehaveAlike s.next s.answers image node.replica.begin s.begin → part_of node.replica ≡ part
    → image_of s.next s.answers image node ≡ image (replay_state s.next s.answers s.begin (applied_of part.records))
shows s image node part alike is = alike.shown (applied_of node.replica.records) ∙ ap (λ (p : NodePart). image (replay_state s.next s.answers s.begin (applied_of p.records))) is

agree_at : {S : Type 0} (s : Setting S) (image : S → List ℕ) (x y : ℕ) (one other : NodeState S) (part later_part : NodePart) (now later : World) → BehaveAlike s.next s.answers image one.replica.begin s.begin → BehaveAlike s.next s.answers image other.replica.begin s.begin
    → part_of one.replica ≡ part → part_of other.replica ≡ later_part → part_at now.nodes x ≡ Some part → part_at later.nodes y ≡ Some later_part → Agree s.next s.answers image s.begin now later → AgreeAs s.next s.answers image s.begin one other
agree_at s image x y one other part later_part now later alike other_alike is other_is here there agree =
    let same = agree.applied x y part later_part here there in
    record {
      applied = subst (λ (p : NodePart × NodePart). AreAlike (applied_of p.0.records) (applied_of p.1.records)) (λ i. (sym is i, sym other_is i)) same;
      images = λ level.
          shows s image one part alike is
          ∙ agree.images x y part later_part here there (subst (λ (p : NodePart × NodePart). length (applied_of p.0.records) ≡ length (applied_of p.1.records)) (λ i. (is i, other_is i)) level)
          ∙ sym (shows s image other later_part other_alike other_is);
    }

-- the one now, with all synced that its steps gave, and the other later
pub agree_later : {S : Type 0} (s : Setting S) (ranged : (events : List Event) (w : World) → IsHistory s events w → IsRangedWorld s.config.nodes w) (image : S → List ℕ)
    → ((now later : World) → AreMoments s now later → Agree s.next s.answers image s.begin now later)
    → (now : Installation S) → HasHistory s now → AllAlike s.next s.answers image s.config s.begin now → (moves : List (Installation S)) (later : Installation S) → Moves s.config.nodes (OpensFrom s.next s.answers image s.config s.begin) (AnswersBy s.next s.answers image) now moves later
    → (x y : ℕ) (site other_site : NodeSite S) (one other : NodeState S) → IsOpenAt now x site one → IsOpenAt later y other_site other → IsAllSynced site → AgreeAs s.next s.answers image s.begin one other
agree_later s ranged image law now h alike moves later all x y site other_site one other kept other_kept synced =
    let first = settles s ranged image h.events h.world h.history now h.behind x site one kept synced in
    let r = first.reaches in
    let next = moves_on s ranged image moves (h.events ++ r.more) r.world now later r.history first.behind all in
    let last = reaches s ranged image ((h.events ++ r.more) ++ next.more) next.world next.history later next.behind y other_site other other_kept in
    let moments : AreMoments s r.world last.world = record {
      events = h.events ++ r.more;
      more = next.more ++ last.more;
      before = r.history;
      after = subst (λ (es : List Event). IsHistory s es last.world) (append_assoc (h.events ++ r.more) next.more last.more) last.history;
    } in
    let other_alike = moves_keep s.next s.answers image s.config s.begin now moves later alike all in
    agree_at s image x y one other r.part last.part r.world last.world (alike.each x site kept.site_is one kept.node_is) (other_alike.each y other_site other_kept.site_is other other_kept.node_is) r.part_is last.part_is r.here last.here (law r.world last.world moments)
