use Rattle.std.proofs.Common.{◌≡◌, drop}
use Rattle.std.specs.List.{list_any}
use Rattle.rp_model.specs.Pending.{is_answered_by}
use Rattle.rp_server.proofs.pending.has_call.Given as goal

-- none of those so far is answered, so what the rest has is what all have
abbrev pub invariant-loop-item : goal.invariant-loop-item
invariant-loop-item l = list_any (is_answered_by l.answer) (drop l.item-index l.items) ≡ list_any (is_answered_by l.answer) l.items
