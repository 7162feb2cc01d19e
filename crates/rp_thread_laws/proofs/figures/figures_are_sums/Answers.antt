-- Each sum is a sum that stays within 64 bits.
use Rattle.std.proofs.Common.{length, sym, ap, ◌∙◌}
use Rattle.rp_live.specs.LiveOutcome.{replies_at}
use Rattle.rp_thread_laws.specs.Figures.{within_64_bits}
use Rattle.rp_thread_laws.proofs.Summing.{from_none, both_summed, greatest_is, no_greater, flat_length}
use Rattle.rp_thread_laws.proofs.figures.figures_are_sums.Goals as goal

pub returns-clause-asked : goal.returns-clause-asked
returns-clause-asked g c = λ nodes tasks. from_none (λ end. end.made) tasks

pub returns-clause-answered : goal.returns-clause-answered
returns-clause-answered g c = λ nodes tasks.
    from_none (λ end. length (replies_at end)) tasks ∙ ap within_64_bits (sym (flat_length replies_at tasks))

pub returns-clause-lost : goal.returns-clause-lost
returns-clause-lost g c = λ nodes tasks. both_summed (λ end. end.counts.lost) (λ end. end.lost) nodes tasks

pub returns-clause-led : goal.returns-clause-led
returns-clause-led g c = λ nodes tasks. from_none (λ end. end.counts.led) nodes

pub returns-clause-no_later : goal.returns-clause-no_later
returns-clause-no_later g c = λ nodes tasks. no_greater (λ end. end.last_reply) 0 tasks

pub returns-clause-last : goal.returns-clause-last
returns-clause-last g c = λ nodes tasks some.
    let last = greatest_is (λ end. end.last_reply) 0 tasks some in (last.item, last.among, last.is)
