-- One rule more.
use Rattle.std.proofs.Common.{◌≡◌, ℕ, ◌+◌, ◌<◌, List, [], ◌∷◌, ◌++◌, get_or, length, take, refl, sym, ap, subst, ◌∙◌}
use Rattle.std.specs.List.{AllZip}
use Rattle.rp_script.specs.indexmap.proofs.SetLemmas.{AllZip-push}
use Rattle.std.proofs.lemmas.List.{take_more}
use Rattle.rp_script.specs.rp_base.specs.declared.action.Action.{Action}
use Rattle.rp_script.specs.rp_base.specs.declared.reply.Answer.{Answer}
use Rattle.rp_explore.specs.Explored.{Exploration}
use Rattle.rp_explore_deck.specs.declared.rules.Rule.{Rule}
use Rattle.rp_explore_deck.specs.declared.rules.Rule.TheVariants.{Never, Always, Finally, Free}
use Rattle.rp_explore_run.specs.Judging.{IsJudgedBy, free_broken_by, no_truths}

pub zip_more : {A B : Type 0} (R : A → B → Type 0) (xs : List A) (ys now : List B) (place : ℕ) (x other : A) (y : B) → place < length xs → x ≡ get_or xs place other
    → AllZip R (take place xs) ys → R x y → now ≡ ys ++ y ∷ [] → AllZip R (take (place + 1) xs) now
zip_more R xs ys now place x other y within is so_far here more =
    let longer : take (place + 1) xs ≡ take place xs ++ x ∷ [] = take_more xs place other within ∙ ap (λ a. take place xs ++ a ∷ []) (sym is) in
    subst (λ l. AllZip R l now) (sym longer) (subst (λ l. AllZip R (take place xs ++ x ∷ []) l) (sym more) (AllZip-push R (take place xs) ys x y so_far here))

-- the rules of a tally
module _ {S : Type 0} (next : S → Action → S) (answers : S → Action → List Answer) (begin : S) (e : Exploration) where
  pub free_judged : (rule : Rule) → IsJudgedBy next answers begin no_truths e rule (free_broken_by e rule)
  free_judged (Never truths) = λ place within asked. tt
  free_judged (Always truths) = λ place within asked. tt
  free_judged (Finally truths) = λ place within asked. tt
  free_judged (Free task) = refl
