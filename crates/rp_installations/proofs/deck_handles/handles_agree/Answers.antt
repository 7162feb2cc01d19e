use Rattle.rp_installations.specs.Sites.{nothing_opened}
use Rattle.rp_installations.proofs.Opening.{moves_so}
use Rattle.rp_installations.proofs.deck_handles.handles_agree.Goals as goal

pub returns-clause-history : goal.returns-clause-history
returns-clause-history c = λ text deck program moves after is all.
    let law = c.decks_of_one_meaning_behave_alike.ensures in
    c.installations_are_histories.ensures.history deck.config program moves after is.means.right.config
    (moves_so text deck program is law.config (λ one other p q same is_one is_other. record { answer = record { kept = law.kept one other p q same is_one is_other; given = law.given one other p q same is_one is_other }; shown = law.shown one other p q same is_one is_other }) (nothing_opened deck.config.nodes) moves after all)

pub returns-clause-agree : goal.returns-clause-agree
returns-clause-agree c = λ text deck program moves more now later x y site other_site one other is first all kept other_kept synced.
    let law = c.decks_of_one_meaning_behave_alike.ensures in
    c.installations_are_histories.ensures.agree deck.config program moves more now later x y site other_site one other is.means.right.config
    (moves_so text deck program is law.config (λ one other p q same is_one is_other. record { answer = record { kept = law.kept one other p q same is_one is_other; given = law.given one other p q same is_one is_other }; shown = law.shown one other p q same is_one is_other }) (nothing_opened deck.config.nodes) moves now first) (moves_so text deck program is law.config (λ one other p q same is_one is_other. record { answer = record { kept = law.kept one other p q same is_one is_other; given = law.given one other p q same is_one is_other }; shown = law.shown one other p q same is_one is_other }) now more later all) kept other_kept synced

pub returns-clause-ordered : goal.returns-clause-ordered
returns-clause-ordered c = λ text deck program moves now is all.
    let law = c.decks_of_one_meaning_behave_alike.ensures in
    c.installations_are_histories.ensures.ordered deck.config program moves now is.means.right.config
    (moves_so text deck program is law.config (λ one other p q same is_one is_other. record { answer = record { kept = law.kept one other p q same is_one is_other; given = law.given one other p q same is_one is_other }; shown = law.shown one other p q same is_one is_other }) (nothing_opened deck.config.nodes) moves now all)
