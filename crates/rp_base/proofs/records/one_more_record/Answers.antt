use Rattle.std.proofs.Common.{◌≡◌, ◌++◌, [], Option, Some, None, List, refl, ap, ◌∙◌, arith}
use Rattle.std.specs.Prelude.{option_to_list}
use Rattle.std.specs.List.{cons_option}
use Rattle.rp_base.specs.declared.record.Vote.{Vote}
use Rattle.rp_base.specs.Records.{highest, vote_in, last_vote_at}
use Rattle.rp_base.proofs.MoreRecords.{started_push, bound_push, last_push, learned_push}
use Rattle.rp_base.proofs.records.one_more_record.Goals as goal

pub returns-clause-started : goal.returns-clause-started
returns-clause-started c = started_push

pub returns-clause-bound : goal.returns-clause-bound
returns-clause-bound c = λ records rec i. let h = bound_push records rec i in omega (arith, h)

one_item : (o : Option Vote) → cons_option o [] ≡ option_to_list o
one_item None = refl
one_item (Some v) = refl

pub returns-clause-last_vote : goal.returns-clause-last_vote
returns-clause-last_vote c = λ records rec i.
    last_push records rec i ∙ ap (λ (l : List Vote). highest (option_to_list (last_vote_at records i) ++ l)) (one_item (vote_in i rec))

pub returns-clause-learned : goal.returns-clause-learned
returns-clause-learned c = learned_push
