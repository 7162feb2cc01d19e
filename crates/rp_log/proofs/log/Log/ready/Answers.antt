use Rattle.std.proofs.Common.{ap, ◌∙◌}
use Rattle.std.specs.List.{slice_get}
use Rattle.rp_log.specs.Contents.{ready_of}
use Rattle.rp_log.proofs.Views.{ready_front}
use Rattle.rp_log.proofs.log.Log.ready.Goals as goal

pub returns : goal.returns
returns c =
    let front = c.self.inside.front.items in
    let taken = c.self.inside.taken in
    record {
      ready = c.get.ensures ∙ ap (slice_get front) c.from.ensures
          ∙ ready_front front c.self.inside.next_reserved c.self.inside.ahead.entries taken c.self.invariant.taken_within c.self.invariant.gap
          ∙ ap ready_of c.self.view_is;
    }
