use Rattle.std.proofs.Common.{◌≡◌, ◌≤◌, [], ◌∷◌, ◌++◌, List, length, ap, subst, sym, ◌∙◌, length-append, arith}
use Rattle.std.specs.Prelude.{vec_capacity}
use Rattle.rp_log.specs.Pages.{Page, joined, AreFilled}
use Rattle.rp_log.proofs.Paging.{page_made, joined_made}
use Rattle.rp_log.proofs.pages.make_pages.Goals as goal

pub loop-alloc-preserved : goal.loop-alloc-preserved
loop-alloc-preserved c =
    let pages = c.loop-alloc.pages.items in
    let page = c.in_ok-with_capacity.field-0 in
    let none : page.items ≡ [] = c.in_ok-with_capacity.ensures.items in
    let wide : 64 ≤ vec_capacity page = omega (arith, c.in_ok-with_capacity.ensures.exact) in
    let made : c.push.new.self.items ≡ pages ++ page ∷ [] = c.in_ok-push.ensures.items in
    let longer = ap length made ∙ length-append pages (page ∷ []) in
    record {
      items = ap joined made ∙ joined_made pages page none ∙ c.loop-alloc.invariant.items;
      filled = λ actions before. subst (λ (l : List Page). AreFilled l actions) (sym made) (page_made pages actions page (c.loop-alloc.invariant.filled actions before) none wide);
      kept = omega (arith, longer, c.loop-alloc.invariant.kept);
    }
