-- An installation that is level with a world, and stays so with what a node's or the task's caller does for an event.
use Rattle.std.proofs.Common.{◌≡◌, ◌⊎◌, ℕ, zero, suc, ◌<◌, Option, Some, None, List, [], ◌∷◌, ◌++◌, map, inl, inr, sym, ap, subst, ◌∙◌}
use Rattle.std.specs.Prelude.{slice_get, unwrap_or}
use Rattle.std.proofs.lemmas.Bool.{cases_eq}
use Rattle.rp_base.specs.Sets.{Has}
use Rattle.rp_base.specs.declared.reply.Answer.{Answer}
use Rattle.rp_codec.specs.Message.{Message}
use Rattle.rp_codec.specs.Text.{text_of, reply_text}
use Rattle.rp_model.specs.Effect.{Setting, Done}
use Rattle.rp_model.specs.Parts.{NodePart, TaskPart}
use Rattle.rp_model.specs.World.{World, part_at, node_done, task_done}
use Rattle.rp_agreement.proofs.PartPlaces.{put_there, put_beside}
use Rattle.rp_world.specs.rp_replica.specs.State.{part_of}
use Rattle.rp_world.specs.rp_store.specs.Records.{AreTextsOf}
use Rattle.rp_requests.specs.Nodes.{NodeState}
use Rattle.rp_installations.specs.Behind.{IsSetUp, calls_kept}
use Rattle.rp_installations.specs.Sites.{NodeSite, TaskSite, Installation, closed_over}
use Rattle.rp_progress_by_handle.proofs.NodeMoves.{open_site}
use Rattle.rp_progress_by_handle.proofs.Reaching.{Goes, NodeReaches, TaskReaches}
use Rattle.rp_progress_by_handle.proofs.TaskMoves.{task_site}

-- An open node: its handle keeps the node of the world, and its device has just the texts of this node's records, all synced.
pub record IsOpenLevel {S : Type 0} (s : Setting S) (me : ℕ) (part : NodePart) (site : NodeSite S) : Type 0 where
  pub node : NodeState S
  pub site_is : site ≡ open_site node site.synced site.step_packets site.noted
  pub set_up : IsSetUp s me node
  pub reached : part_of node.replica ≡ part
  pub records : AreTextsOf part.records site.synced

-- A closed node, which is stopped in the world, over such a device.
pub record IsClosedLevel {S : Type 0} (part : NodePart) (site : NodeSite S) : Type 0 where
  pub site_is : site ≡ closed_over site.synced site.noted
  pub stopped : part.running ≡ None
  pub records : AreTextsOf part.records site.synced

pub data IsLevelNode {S : Type 0} (s : Setting S) (me : ℕ) (part : NodePart) (site : NodeSite S) : Type 0 where
  OpenLevel : IsOpenLevel s me part site → IsLevelNode s me part site
  ClosedLevel : IsClosedLevel part site → IsLevelNode s me part site

pub record NodeLevel {S : Type 0} (s : Setting S) (w : World) (i : Installation S) (me : ℕ) : Type 0 where
  pub part : NodePart
  pub there : part_at w.nodes me ≡ Some part
  pub site : NodeSite S
  pub here : part_at i.nodes me ≡ Some site
  pub level : IsLevelNode s me part site

-- the replies as requests return them
abbrev pub returned : List Answer → List (List ℕ)
returned answers = map (λ answer. reply_text answer.reply) answers

pub record TaskLevel {S : Type 0} (t : ℕ) (w : World) (i : Installation S) : Type 0 where
  pub part : TaskPart
  pub there : part_at w.tasks t ≡ Some part
  pub here : part_at i.tasks t ≡ Some (task_site (calls_kept t part) (returned part.replies))

-- Each node of the quorum and the task are level, and what was sent after the first packets was handed on.
pub record IsLevel {S : Type 0} (s : Setting S) (quorum : List ℕ) (t first : ℕ) (w : World) (i : Installation S) : Type 0 where
  pub nodes : (y : ℕ) → Has y quorum → NodeLevel s w i y
  pub task : TaskLevel t w i
  pub sent : (number : ℕ) (m : Message) → first < number → part_at w.sent number ≡ Some m → Has (text_of m) i.handed_on

get_split : {A : Type 0} (xs ys : List A) (place : ℕ) (a : A) → slice_get (xs ++ ys) place ≡ Some a → (slice_get xs place ≡ Some a) ⊎ Has a ys
get_split [] [] place a e = absurd (cc)
get_split [] (y ∷ ys) zero a e = inr (inl (sym (ap (λ (o : Option _). unwrap_or o y) e)))
get_split [] (y ∷ ys) (suc place) a e = elim (get_split [] ys place a e) [ inl none ↦ absurd (let no : None ≡ Some a = none in cc) | inr has ↦ inr (inr has) ]
get_split (x ∷ xs) ys zero a e = inl e
get_split (x ∷ xs) ys (suc place) a e = get_split xs ys place a e

part_split : {A : Type 0} (xs ys : List A) (place : ℕ) (a : A) → part_at (xs ++ ys) place ≡ Some a → (part_at xs place ≡ Some a) ⊎ Has a ys
part_split xs ys zero a e = absurd (cc)
part_split xs ys (suc place) a e = get_split xs ys place a e

module _ {S : Type 0} (s : Setting S) (image : S → List ℕ) (quorum : List ℕ) (t first : ℕ) where
  -- moves lead to an installation that is level with this world
  pub record Follows (i : Installation S) (w : World) : Type 0 where
    pub later : Installation S
    pub goes : Goes s.next s.answers image s.config s.begin quorum t i later
    pub level : IsLevel s quorum t first w later

  module _ (w : World) (i : Installation S) (level : IsLevel s quorum t first w i) where
    pub follows_node : (me : ℕ) (was : NodePart) → part_at w.nodes me ≡ Some was → (done : Done NodePart) (site : NodeSite S) (given : List (List ℕ)) → NodeReaches s.next s.answers image s.config s.begin quorum t i me site given
        → IsLevelNode s me done.part site → ((m : Message) → Has m done.sends → Has (text_of m) given) → Follows i (node_done w me done).world
    follows_node me was there done site given reach is texts =
        let after = (node_done w me done).world in
        record {
          later = reach.later;
          goes = reach.goes;
          level = record {
            nodes = λ y has. elim (cases_eq y me) [
              | inl same ↦ subst (NodeLevel s after reach.later) (sym same) (record { part = done.part; there = put_there w.nodes me was done.part there; site = site; here = reach.there; level = is })
              | inr differs ↦
                  let l = level.nodes y has in
                  record { part = l.part; there = put_beside w.nodes me y done.part differs ∙ l.there; site = l.site; here = reach.beside y differs ∙ l.here; level = l.level }
            ];
            task = record { part = level.task.part; there = level.task.there; here = ap (λ (l : List TaskSite). part_at l t) reach.tasks ∙ level.task.here };
            sent = λ number m above at. elim (part_split w.sent done.sends number m at) [
              | inl old ↦ reach.kept (text_of m) (level.sent number m above old)
              | inr new ↦ reach.new (text_of m) (texts m new)
            ];
          };
        }

    pub follows_task : (done : Done TaskPart) (given : List (List ℕ)) → TaskReaches s.next s.answers image s.config s.begin quorum t i (task_site (calls_kept t done.part) (returned done.part.replies)) given
        → ((m : Message) → Has m done.sends → Has (text_of m) given) → Follows i (task_done w t done).world
    follows_task done given reach texts = record {
      later = reach.later;
      goes = reach.goes;
      level = record {
        nodes = λ y has. (let l = level.nodes y has in
            record { part = l.part; there = l.there; site = l.site; here = ap (λ (n : List (NodeSite S)). part_at n y) reach.nodes ∙ l.here; level = l.level });
        task = record { part = done.part; there = put_there w.tasks t level.task.part done.part level.task.there; here = reach.there };
        sent = λ number m above at. elim (part_split w.sent done.sends number m at) [
          | inl old ↦ reach.kept (text_of m) (level.sent number m above old)
          | inr new ↦ reach.new (text_of m) (texts m new)
        ];
      };
    }
