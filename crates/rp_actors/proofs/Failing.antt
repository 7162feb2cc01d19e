-- How often the devices of a cluster have failed, where one node changed.
use Rattle.std.proofs.Common.{◌≡◌, ℕ, ◌<◌, Option, Some, List, option_map, slice_get, slice_set, refl, ap, subst, ◌∙◌}
use Rattle.rp_model.specs.World.{part_at, with_part}
use Rattle.rp_actors.specs.Failures.{RisesAt}
use Rattle.rp_actors.specs.Nodes.{failures_in}
use Rattle.rp_actors.specs.declared.node.ClusterNode.{ClusterNode}
use Rattle.rp_actors.proofs.Fields.{Fields, counts_of}
use Rattle.rp_actors.proofs.Lists.{get_map, set_map, set_same}
use Rattle.rp_actors.proofs.Placing.{Found}

module _ {S D P : Type 0} (f : Fields S D P) (at : Found f.nodes) (new : ClusterNode S D P) where
  abbrev before : List ℕ
  before = counts_of f f.nodes

  abbrev after : List ℕ
  after = counts_of f (slice_set f.nodes at.place new)

  was_here : slice_get before at.place ≡ Some (failures_in f.disk at.it)
  was_here = get_map (failures_in f.disk) f.nodes at.place ∙ ap (λ (o : Option (ClusterNode S D P)). option_map (failures_in f.disk) o) at.here

  -- its device has not failed
  pub same_counts : failures_in f.disk new ≡ failures_in f.disk at.it → after ≡ before
  same_counts same =
      set_map (failures_in f.disk) f.nodes at.place new ∙ ap (slice_set before at.place) same
      ∙ set_same before at.place (failures_in f.disk at.it) was_here

  -- or it has
  pub rises_at : failures_in f.disk at.it < failures_in f.disk new → RisesAt at.me before after
  rises_at rose = record {
    before = failures_in f.disk at.it;
    after = failures_in f.disk new;
    was = subst (λ (k : ℕ). part_at before k ≡ Some (failures_in f.disk at.it)) at.placed was_here;
    rose = rose;
    others = set_map (failures_in f.disk) f.nodes at.place new
        ∙ subst (λ (k : ℕ). slice_set before at.place (failures_in f.disk new) ≡ with_part before k (failures_in f.disk new)) at.placed refl;
  }
