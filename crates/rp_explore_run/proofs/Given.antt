-- One reply more, with what gives it.
use Rattle.std.proofs.Common.{◌≡◌, ℕ, ◌+◌, ◌<◌, List, [], ◌∷◌, ◌++◌, get_or, length, take, arith, refl, sym, ap, ap₂, ◌∙◌, append_assoc}
use Rattle.std.proofs.lemmas.List.{length-take-le, take_more}
use Rattle.rp_script.specs.rp_base.specs.declared.reply.Answer.{Answer}
use Rattle.rp_explore.specs.declared.giver.Giver.{Giver}
use Rattle.rp_explore_run.specs.Findings.{found_by, given_of}
use Rattle.rp_explore_run.specs.declared.findings.Found.{Found}

given_push : (replies : List Answer) (givers : List Giver) (answer : Answer) (giver : Giver) → length givers ≡ length replies
    → given_of (replies ++ answer ∷ []) (givers ++ giver ∷ []) ≡ given_of replies givers ++ found_by answer giver ∷ []
given_push [] [] answer giver same = refl
given_push [] (g ∷ givers) answer giver same = absurd (omega (arith, same))
given_push (a ∷ replies) [] answer giver same = absurd (omega (arith, same))
given_push (a ∷ replies) (g ∷ givers) answer giver same = ap (λ (l : List Found). found_by a g ∷ l) (given_push replies givers answer giver (omega (arith, same)))

pub given_more : (replies : List Answer) (givers : List Giver) (place : ℕ) (answer other : Answer) (giver : Giver) → length givers ≡ length replies → place < length replies
    → answer ≡ get_or replies place other → giver ≡ get_or givers place giver
    → (before now found : List Found) → now ≡ before ++ given_of (take place replies) (take place givers) → found ≡ now ++ found_by answer giver ∷ []
    → found ≡ before ++ given_of (take (place + 1) replies) (take (place + 1) givers)
given_more replies givers place answer other giver same below first second before now found so_far more =
    let left : take (place + 1) replies ≡ take place replies ++ answer ∷ [] = take_more replies place other below ∙ ap (λ (x : Answer). take place replies ++ x ∷ []) (sym first) in
    let right : take (place + 1) givers ≡ take place givers ++ giver ∷ [] = take_more givers place giver (omega (arith, below, same)) ∙ ap (λ (x : Giver). take place givers ++ x ∷ []) (sym second) in
    let long : length (take place givers) ≡ length (take place replies) = omega (arith, length-take-le place replies (omega (arith, below)), length-take-le place givers (omega (arith, below, same))) in
    more ∙ ap (λ (l : List Found). l ++ found_by answer giver ∷ []) so_far ∙ append_assoc before (given_of (take place replies) (take place givers)) (found_by answer giver ∷ [])
    ∙ ap (λ (l : List Found). before ++ l) (sym (ap₂ given_of left right ∙ given_push (take place replies) (take place givers) answer giver long))
