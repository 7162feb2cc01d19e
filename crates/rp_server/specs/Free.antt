-- Pending items for which a node has something to do.
use Rattle.std.specs.Prelude.{Bool, List, filter}
use Rattle.std.specs.List.{list_any}
use Rattle.rp_base.specs.declared.action.Action.{Action}
use Rattle.rp_base.specs.Proposals.{Proposal}
use Rattle.rp_model.specs.Pending.{is_ahead, is_free_item}

-- the pending items that did not count yet and are the own action of no proposal: a node that leads
-- once more takes the first of them
abbrev pub free_items : List Action → List Proposal → List Action → List Action
free_items kept proposals pending = filter (is_free_item kept proposals) pending

-- some pending item did not count yet, nor one above it
abbrev pub has_uncounted : List Action → List Action → Bool
has_uncounted kept pending = list_any (is_ahead kept) pending
