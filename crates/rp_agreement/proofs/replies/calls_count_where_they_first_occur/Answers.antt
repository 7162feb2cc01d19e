-- Only calls that counted are answered, by the laws of the machine.
use Rattle.rp_machine.proofs.Applying.{accounted}
use Rattle.rp_agreement.specs.Answered.{setting_for}
use Rattle.rp_agreement.proofs.Places.{first_is_place}
use Rattle.rp_agreement.proofs.replies.calls_count_where_they_first_occur.Goals as goal

pub returns : goal.returns
returns g c =
    let m = g.M.Machine in
    let laws = c.laws.ensures in
    λ config program node task sent kept t n k action occurs is first.
    first_is_place (setting_for m.next m.answers m.begin config program) node task sent kept
    (λ xs right call stated. (accounted m.next m.answers m.waiting m.begin m.runs laws.none_waits laws.starts laws.keeps laws.accounts program xs right).known call stated)
    t n k action occurs is first
