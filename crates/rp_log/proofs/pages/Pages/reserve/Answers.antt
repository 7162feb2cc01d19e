use Rattle.std.proofs.Common.{◌+◌, ◌*◌, ◌≤◌, length, ap, subst, ◌∙◌, arith}
use Rattle.std.proofs.lemmas.Grind.{div_ceil_times}
use Rattle.rp_log.specs.Pages.{Paged, joined}
use Rattle.rp_log.proofs.Paging.{joined_length}
use Rattle.rp_log.proofs.pages.Pages.reserve.Goals as goal

pub overflow_add-self-inside : goal.overflow_add-self-inside
overflow_add-self-inside c =
    let long = ap (λ (p : Paged). length p.items) c.self.view_is in
    omega (arith, long, joined_length c.self.inside.pages.items c.self.inside.len c.self.invariant, c.requires)

pub returns-in_ok-make_pages-clause-room : goal.returns-in_ok-make_pages-clause-room
returns-in_ok-make_pages-clause-room c =
    let long = ap length c.make_pages.ensures.items ∙ joined_length c.self.inside.pages.items c.self.inside.len c.self.invariant in
    let up = (div_ceil_times (c.self.inside.len + c.args.more) 64 (omega arith)).0 in
    omega (arith, long, up, c.div_ceil-count.ensures, c.in_ok-make_pages.ensures.enough)

pub returns-else-len-count-clause-room : goal.returns-else-len-count-clause-room
returns-else-len-count-clause-room c =
    let pages = c.self.inside.pages.items in
    let long = joined_length pages c.self.inside.len c.self.invariant in
    let up = (div_ceil_times (c.self.inside.len + c.args.more) 64 (omega arith)).0 in
    let room : length (joined pages) + c.args.more ≤ 64 * length pages = omega (arith, long, up, c.div_ceil-count.ensures, c.if-len-count.false, c.len.ensures, c.self.inside.pages.ok.0) in
    subst (λ (p : Paged). length p.items + c.args.more ≤ p.room) c.self.view_is room
