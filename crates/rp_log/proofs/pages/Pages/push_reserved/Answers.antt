-- The page of the next action is there and has room, and its action is the last of all.
use Rattle.std.proofs.Common.{◌*◌, ◌/◌, ◌<◌, ◌++◌, [], ◌∷◌, length, ap, subst, sym, ◌∙◌, arith}
use Rattle.std.specs.Prelude.{vec_len, vec_capacity}
use Rattle.std.proofs.lemmas.List.{length-set}
use Rattle.rp_log.specs.Pages.{Page, Paged, joined}
use Rattle.rp_log.proofs.Paging.{joined_length, page_room, page_put}
use Rattle.rp_log.proofs.pages.Pages.push_reserved.Goals as goal

pub index_mut-requires : goal.index_mut-requires
index_mut-requires c =
    let pages = c.self.inside.pages.items in
    let room : length (joined pages) < 64 * length pages = subst (λ (p : Paged). length p.items < p.room) (sym c.self.view_is) c.requires.room in
    let count = joined_length pages c.self.inside.len c.self.invariant in
    omega (arith, room, count, c.self.inside.pages.ok.0)

pub push_reserved-requires : goal.push_reserved-requires
push_reserved-requires c =
    let pages = c.self.inside.pages.items in
    let at = c.self.inside.len / 64 in
    let page = c.index_mut.result.now in
    let room : length (joined pages) < 64 * length pages = subst (λ (p : Paged). length p.items < p.room) (sym c.self.view_is) c.requires.room in
    let few : c.self.inside.len < 64 * length pages = omega (arith, room, joined_length pages c.self.inside.len c.self.invariant) in
    subst (λ (p : Page). vec_len p < vec_capacity p) (sym c.index_mut.ensures.value) (page_room pages c.self.inside.len page c.self.invariant few)

pub overflow_add-self : goal.overflow_add-self
overflow_add-self c =
    let long = ap (λ (p : Paged). length p.items) c.self.view_is in
    omega (arith, long, joined_length c.self.inside.pages.items c.self.inside.len c.self.invariant, c.requires.bound)

pub invariant_of-self : goal.invariant_of-self
invariant_of-self c =
    let pages = c.self.inside.pages.items in
    let page = c.index_mut.result.now in
    let room : length (joined pages) < 64 * length pages = subst (λ (p : Paged). length p.items < p.room) (sym c.self.view_is) c.requires.room in
    let few : c.self.inside.len < 64 * length pages = omega (arith, room, joined_length pages c.self.inside.len c.self.invariant) in
    (page_put pages c.self.inside.len c.args.action c.push_reserved.new.self page c.self.invariant few
    (c.push_reserved.ensures.items ∙ ap (λ (p : Page). p.items ++ c.args.action ∷ []) c.index_mut.ensures.value)
    (c.push_reserved.ensures.capacity ∙ ap (λ (p : Page). vec_capacity p) c.index_mut.ensures.value)).0

pub returns-clause-items : goal.returns-clause-items
returns-clause-items c =
    let pages = c.self.inside.pages.items in
    let page = c.index_mut.result.now in
    let room : length (joined pages) < 64 * length pages = subst (λ (p : Paged). length p.items < p.room) (sym c.self.view_is) c.requires.room in
    let few : c.self.inside.len < 64 * length pages = omega (arith, room, joined_length pages c.self.inside.len c.self.invariant) in
    (page_put pages c.self.inside.len c.args.action c.push_reserved.new.self page c.self.invariant few
    (c.push_reserved.ensures.items ∙ ap (λ (p : Page). p.items ++ c.args.action ∷ []) c.index_mut.ensures.value)
    (c.push_reserved.ensures.capacity ∙ ap (λ (p : Page). vec_capacity p) c.index_mut.ensures.value)).1
    ∙ ap (λ (p : Paged). p.items ++ c.args.action ∷ []) c.self.view_is

pub returns-clause-room : goal.returns-clause-room
returns-clause-room c =
    ap (λ n. 64 * n) (length-set c.self.inside.pages.items (c.self.inside.len / 64) c.push_reserved.new.self)
    ∙ ap (λ (p : Paged). p.room) c.self.view_is
