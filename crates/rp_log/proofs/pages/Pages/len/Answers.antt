use Rattle.std.proofs.Common.{length, ap, sym, ◌∙◌}
use Rattle.rp_log.specs.Pages.{Paged}
use Rattle.rp_log.proofs.Paging.{joined_length}
use Rattle.rp_log.proofs.pages.Pages.len.Goals as goal

pub returns : goal.returns
returns c =
    sym (joined_length c.self.inside.pages.items c.self.inside.len c.self.invariant) ∙ ap (λ (p : Paged). length p.items) c.self.view_is
