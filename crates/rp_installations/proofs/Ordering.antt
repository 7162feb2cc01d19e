-- All pending steps of all nodes are made, and what follows of the order.
use Rattle.std.proofs.Common.{◌≡◌, ℕ, zero, suc, ◌<◌, ◌≤◌, Option, Some, None, List, [], ◌∷◌, ◌++◌, length, map, inl, inr, refl, sym, ap, subst, ◌∙◌, append_assoc, arith}
use Rattle.std.specs.Prelude.{unwrap_or, slice_get}
use Rattle.std.proofs.lemmas.Bool.{cases_eq}
use Rattle.std.proofs.lemmas.List.{append-nil}
use Rattle.rp_base.specs.declared.reply.Answer.{Answer}
use Rattle.rp_base.proofs.Members.{has_split}
use Rattle.rp_base.specs.declared.action.Action.{Action}
use Rattle.rp_base.specs.declared.action.Action.TheVariants.{Noop, Call, Interrupt, Tick}
use Rattle.rp_agreement.proofs.Lists.{has_get}
use Rattle.rp_agreement.specs.Noted.{IsNoted}
use Rattle.rp_model.specs.Facts.{IsDecided}
use Rattle.rp_model.specs.Events as happenings
use Rattle.rp_model.specs.rp_codec.specs.Text.{reply_text}
use Rattle.rp_model.specs.Effect.{Setting}
use Rattle.rp_model.specs.Events.{Event, Makes}
use Rattle.rp_model.specs.Parts.{NodePart, TaskPart}
use Rattle.rp_model.specs.World.{World, part_at}
use Rattle.rp_agreement.specs.History.{IsHistory}
use Rattle.rp_agreement.specs.Ranges.{IsRangedWorld}
use Rattle.rp_agreement.proofs.PartPlaces.{part_below}
use Rattle.rp_world.specs.Agreeing.{IsOrdered}
use Rattle.rp_world.specs.rp_replica.specs.State.{part_of}
use Rattle.rp_requests.specs.Nodes.{NodeState}
use Rattle.rp_installations.specs.Pending.{AreSteps, after_steps}
use Rattle.rp_installations.proofs.Stepping.{made}
use Rattle.rp_installations.specs.Sites.{NodeSite, Installation}
use Rattle.rp_installations.specs.Behind.{IsOpenOver, IsNodeOver, IsOpen, IsClosed, IsBehind, AreAskedFor, HasHistory}
use Rattle.rp_installations.specs.Outcomes.{HasWorldNow, IsAskedFor, HasOrder}
use Rattle.rp_installations.proofs.NodeSites.{over_later}

-- The nodes up to k have their parts in the world, and the others are over theirs.
record IsAt {S : Type 0} (s : Setting S) (k : ℕ) (w : World) (me : ℕ) (site : NodeSite S) : Type 0 where
  pub part : NodePart
  pub here : part_at w.nodes me ≡ Some part
  pub done : me ≤ k → (node : NodeState S) → site.node ≡ Some node → part_of node.replica ≡ part
  pub later : k < me → IsNodeOver s w.sent me part site

record UpTo {S : Type 0} (s : Setting S) (events : List Event) (w : World) (i : Installation S) (k : ℕ) : Type 0 where
  pub more : List Event
  pub world : World
  pub history : IsHistory s (events ++ more) world
  pub nodes : (me : ℕ) (site : NodeSite S) → part_at i.nodes me ≡ Some site → IsAt s k world me site
  pub tasks : world.tasks ≡ w.tasks
  pub noted : AreAskedFor i more

module _ {S : Type 0} (s : Setting S) (ranged : (events : List Event) (w : World) → IsHistory s events w → IsRangedWorld s.config.nodes w) (events : List Event) (w : World) (history : IsHistory s events w) (i : Installation S) (behind : IsBehind s w i) where
  none_yet : UpTo s events w i 0
  none_yet = record {
    more = [];
    world = w;
    history = subst (λ (es : List Event). IsHistory s es w) (sym (append-nil events)) history;
    nodes = λ me site there.
        (let was = behind.nodes me site there in
        let place = part_below i.nodes me site there in
        record { part = was.0; here = was.1; done = λ low node is. absurd (omega (arith, low, place.0)); later = λ high. was.2 });
    tasks = refl;
    noted = λ event none. absurd none;
  }

  -- the node of the next number has no steps that are pending
  quiet : (k : ℕ) → UpTo s events w i k → ((site : NodeSite S) → part_at i.nodes (suc k) ≡ Some site → (node : NodeState S) → site.node ≡ Some node → (part : NodePart) → part_of node.replica ≡ part) → UpTo s events w i (suc k)
  quiet k u none = record {
    more = u.more;
    world = u.world;
    history = u.history;
    nodes = λ me site there.
        (let was = u.nodes me site there in
        record {
          part = was.part;
          here = was.here;
          done = λ low node is. elim (cases_eq me (suc k)) [
            | inl same ↦ none site (subst (λ (n : ℕ). part_at i.nodes n ≡ Some site) same there) node is was.part
            | inr differs ↦ was.done (omega (arith, low, differs)) node is
          ];
          later = λ high. was.later (omega (arith, high));
        });
    tasks = u.tasks;
    noted = u.noted;
  }

  -- its steps are made
  makes : (k : ℕ) (u : UpTo s events w i k) (site : NodeSite S) (there : part_at i.nodes (suc k) ≡ Some site) (part : NodePart) → part_at u.world.nodes (suc k) ≡ Some part → IsOpenOver s u.world.sent (suc k) part site → UpTo s events w i (suc k)
  makes k u site there part here o =
      let all = made s ranged o.steps [] (events ++ u.more) u.world (suc k) part u.history here (subst (AreSteps s u.world.sent (suc k) part) (sym (append-nil o.steps)) o.made) in
      let after = all.leads.world in
      record {
        more = u.more ++ all.leads.more;
        world = after;
        history = subst (λ (es : List Event). IsHistory s es after) (append_assoc events u.more all.leads.more) all.leads.history;
        nodes = λ me other there_too. elim (cases_eq me (suc k)) [
          | inl same ↦
              let this : site ≡ other = ap (λ (x : Option (NodeSite S)). unwrap_or x other) (sym there ∙ ap (part_at i.nodes) (sym same) ∙ there_too) in
              record {
                part = after_steps part o.steps;
                here = ap (part_at after.nodes) same ∙ all.leads.here;
                done = λ low node is.
                    (let known : o.node ≡ node = ap (λ (x : Option (NodeState S)). unwrap_or x node) (sym o.kept ∙ ap (λ (x : NodeSite S). x.node) this ∙ is) in
                    ap (λ (n : NodeState S). part_of n.replica) (sym known) ∙ o.reached);
                later = λ high. absurd (omega (arith, high, same));
              }
          | inr differs ↦
              let was = u.nodes me other there_too in
              record {
                part = was.part;
                here = all.leads.others me differs ∙ was.here;
                done = λ low node is. was.done (omega (arith, low, differs)) node is;
                later = λ high. over_later s u.world.sent after.sent me was.part other all.leads.sent (was.later (omega (arith, high)));
              }
        ];
        tasks = all.leads.tasks ∙ u.tasks;
        noted = λ event has v mentions. elim (has_split event u.more all.leads.more has) [
          | inl old ↦ u.noted event old v mentions
          | inr new ↦ (suc k, site, there, o.noted v (all.noted v (all.leads.notes event new v mentions)))
        ];
      }

  by_over : (k : ℕ) (u : UpTo s events w i k) (site : NodeSite S) (there : part_at i.nodes (suc k) ≡ Some site) (part : NodePart) → part_at u.world.nodes (suc k) ≡ Some part → IsNodeOver s u.world.sent (suc k) part site → UpTo s events w i (suc k)
  by_over k u site there part here (IsOpen o) = makes k u site there part here o
  by_over k u site there part here (IsClosed c) =
      quiet k u (λ other there_too node is other_part.
      (let this : site ≡ other = ap (λ (x : Option (NodeSite S)). unwrap_or x other) (sym there ∙ there_too) in
      let none : site.node ≡ None = ap (λ (x : NodeSite S). x.node) c.closed in
      let some : site.node ≡ Some node = ap (λ (x : NodeSite S). x.node) this ∙ is in
      absurd (cc)))

  one_further : (k : ℕ) (u : UpTo s events w i k) (next : Option (NodeSite S)) → part_at i.nodes (suc k) ≡ next → UpTo s events w i (suc k)
  one_further k u None is = quiet k u (λ site there node has part. absurd (cc))
  one_further k u (Some site) is = let was = u.nodes (suc k) site is in by_over k u site is was.part was.here (was.later (omega arith))

  up_to : (k : ℕ) → UpTo s events w i k
  up_to zero = none_yet
  up_to (suc k) = let u = up_to k in one_further k u (part_at i.nodes (suc k)) refl

  pub world_now : AreAskedFor i events → HasWorldNow s i
  world_now asked =
      let u = up_to (length i.nodes) in
      record {
        events = events ++ u.more;
        world = u.world;
        history = u.history;
        nodes = λ x site node kept.
            (let at = u.nodes x site kept.site_is in
            let place = part_below i.nodes x site kept.site_is in
            at.here ∙ ap (λ (p : NodePart). Some p) (sym (at.done place.1 node kept.node_is)));
        tasks = λ t site there. (let was = behind.tasks t site there in (was.0, ap (λ (l : List TaskPart). part_at l t) u.tasks ∙ was.1, was.2));
        noted = λ event has v mentions. elim (has_split event events u.more has) [ inl old ↦ asked event old v mentions | inr new ↦ u.noted event new v mentions ];
      }

-- ---- the order

got : {A B : Type 0} (f : A → B) (xs : List A) (k : ℕ) (y : B) → slice_get (map f xs) k ≡ Some y → (x : A) × (slice_get xs k ≡ Some x) × (y ≡ f x)
got f [] k y e = absurd (cc)
got f (x ∷ xs) zero y e = (x, refl, sym (ap (λ (o : Option _). unwrap_or o y) e))
got f (x ∷ xs) (suc k) y e = got f xs k y e

-- what was noted by an event was asked for
asked_for : {S : Type 0} (i : Installation S) (events : List Event) → AreAskedFor i events → (v : Action) → IsNoted events v → IsAskedFor i v
asked_for i events all Noop none = tt
asked_for i events all (Call task number object operation arg) none = tt
asked_for i events all (Interrupt source occurrence) is = all (Makes (happenings.Interrupt is.0 source occurrence)) is.1 (Interrupt source occurrence) (inl refl)
asked_for i events all (Tick now) is = all (Makes (happenings.Tick is.0 now)) is.1 (Tick now) (inl refl)

pub order_now : {S : Type 0} (s : Setting S) (ranged : (events : List Event) (w : World) → IsHistory s events w → IsRangedWorld s.config.nodes w)
    → ((events : List Event) (w : World) → IsHistory s events w → IsOrdered s.next s.answers s.begin s.config.nodes w)
    → ((events : List Event) (w : World) → IsHistory s events w → (k : ℕ) (v : Action) → IsDecided s.config.nodes w.sent k v → IsNoted events v) → (i : Installation S) → HasHistory s i → HasOrder s i
order_now s ranged law noted_law i h =
    let now = world_now s ranged h.events h.world h.history i h.behind h.noted in
    let ordered = law now.events now.world now.history in
    record {
      now = now;
      ordered = ordered;
      applied = λ x site node kept. ordered.applied x (part_of node.replica) (now.nodes x site node kept);
      replies = λ t k site reply there is.
          (let task = now.tasks t site there in
          let found = got (λ (a : Answer). reply_text a.reply) task.0.replies k reply (ap (λ (l : List (List ℕ)). slice_get l k) (sym task.2.replies) ∙ is) in
          (found.0, ordered.replies t k task.0 found.0 task.1 found.1, found.2));
      noted = λ v has.
          (let place = has_get ordered.order v has in
          asked_for i now.events now.noted v (noted_law now.events now.world now.history (suc place.0) v (ordered.decided.decided place.0 v place.1)));
    }
