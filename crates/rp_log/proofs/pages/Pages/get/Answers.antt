-- The page of the place, and the place in it.
use Rattle.std.proofs.Common.{◌≡◌, ◌/◌, ◌%◌, None, Some, ap, sym, ◌∙◌, rules, arith}
use Rattle.std.specs.Prelude.{option_copied}
use Rattle.std.specs.List.{slice_get}
use Rattle.std.proofs.lemmas.Grind.{common_steps}
use Rattle.rp_log.specs.Pages.{Paged}
use Rattle.rp_log.proofs.Paging.{lent, in_page, page_get}
use Rattle.rp_log.proofs.pages.Pages.get.Goals as goal

pub returns-in_err-page : goal.returns-in_err-page
returns-in_err-page c =
    let pages = c.self.inside.pages.items in
    let place = c.args.place in
    let got : option_copied c.get.result ≡ slice_get c.deref.result.now (place / 64) = lent (λ x. x.now) c.deref.result.now (place / 64) c.get.result (search rules) (search rules) in
    let none : c.get.result ≡ None = grind (arith, common_steps) in
    let missed : slice_get pages (place / 64) ≡ None = ap (λ l. slice_get l (place / 64)) (sym c.deref.ensures.value) ∙ sym got ∙ ap option_copied none in
    let past : None ≡ slice_get c.args.self.now.items place =
    sym (ap (λ page. in_page page (place % 64)) missed) ∙ page_get pages c.self.inside.len place c.self.invariant
    ∙ ap (λ (p : Paged). slice_get p.items place) c.self.view_is in
    ap option_copied c.from_residual.ensures ∙ past

pub returns : goal.returns
returns c =
    let pages = c.self.inside.pages.items in
    let place = c.args.place in
    let page = c.in_ok-page.page.now in
    let got : option_copied c.get.result ≡ slice_get c.deref.result.now (place / 64) = lent (λ x. x.now) c.deref.result.now (place / 64) c.get.result (search rules) (search rules) in
    let some : c.get.result ≡ Some c.in_ok-page.page = grind (arith, common_steps) in
    let found : slice_get pages (place / 64) ≡ Some page = ap (λ l. slice_get l (place / 64)) (sym c.deref.ensures.value) ∙ sym got ∙ ap option_copied some in
    let read : option_copied c.get-2.result ≡ slice_get c.deref-2.result.now (place % 64) = lent (λ x. x.now) c.deref-2.result.now (place % 64) c.get-2.result (search rules) (search rules) in
    read ∙ ap (λ l. slice_get l (place % 64)) c.deref-2.ensures.value
    ∙ sym (ap (λ it. in_page it (place % 64)) found) ∙ page_get pages c.self.inside.len place c.self.invariant
    ∙ ap (λ (p : Paged). slice_get p.items place) c.self.view_is
