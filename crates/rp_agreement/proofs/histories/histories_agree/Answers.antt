use Rattle.std.proofs.Common.{ap}
use Rattle.rp_base.specs.Records.{applied_of}
use Rattle.rp_machine.specs.Replay.{replay_of}
use Rattle.rp_agreement.proofs.Ordering.{alike_equal}
use Rattle.rp_agreement.proofs.EventLists.{moments, one_action, order_begins, parts_alike}
use Rattle.rp_agreement.proofs.histories.histories_agree.Goals as goal

pub returns-clause-decided : goal.returns-clause-decided
returns-clause-decided g c = λ s now later are. one_action (moments s (c.the_opening_is_sound.ensures s.config.nodes) now later are)

pub returns-clause-order : goal.returns-clause-order
returns-clause-order g c = λ s now later are. order_begins (moments s (c.the_opening_is_sound.ensures s.config.nodes) now later are)

pub returns-clause-applied : goal.returns-clause-applied
returns-clause-applied g c = λ s now later are. parts_alike (moments s (c.the_opening_is_sound.ensures s.config.nodes) now later are)

pub returns-clause-states : goal.returns-clause-states
returns-clause-states g c = λ s now later are x y one other is is_other long.
    ap (replay_of s.next s.answers s.begin)
    (alike_equal (applied_of one.records) (applied_of other.records)
    (parts_alike (moments s (c.the_opening_is_sound.ensures s.config.nodes) now later are) x y one other is is_other) long)
