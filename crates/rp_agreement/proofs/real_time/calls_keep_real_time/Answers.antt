-- The later order goes on from the order of now.
use Rattle.std.proofs.Common.{◌≡◌, ◌≤◌, ℕ, suc, Option, Some, List, length, ap, sym, subst, arith}
use Rattle.std.specs.Prelude.{unwrap_or, slice_get}
use Rattle.rp_base.specs.declared.action.Action.{Action}
use Rattle.rp_machine.specs.Places.{IsPlace}
use Rattle.rp_model.specs.Parts.{TaskPart, fresh_task}
use Rattle.rp_model.specs.World.{World, part_at}
use Rattle.rp_agreement.specs.Answered.{setting_for, named, calls_so_far, task_in}
use Rattle.rp_agreement.specs.Computed.{order_of}
use Rattle.rp_agreement.specs.RealTime.{IsAnsweredNow}
use Rattle.rp_agreement.proofs.Placed.{longer, shorter, within}
use Rattle.rp_agreement.proofs.real_time.calls_keep_real_time.Goals as goal

-- the part that a task has
seated : (w : World) (t : ℕ) (part : TaskPart) → part_at w.tasks t ≡ Some part → task_in w.tasks t ≡ part
seated w t part is = ap (λ (o : Option TaskPart). unwrap_or o fresh_task) is

pub returns : goal.returns
returns g c = λ config program now later are.
    let m = g.M.Machine in
    let begin = m.begin program in
    let s = setting_for m.next m.answers m.begin config program in
    let kept = (c.replies_follow_the_order.ensures.histories s are.events now are.before).kept in
    let grows = c.histories_agree.ensures.order s now later are in
    let order : List Action = order_of config.nodes now.sent in
    let replied : (t k : ℕ) → IsAnsweredNow now t k → (place : ℕ) × IsPlace m.next m.answers begin order (named t (suc k)) place = λ t k is.
    let mine = subst (λ (p : TaskPart). slice_get p.replies k ≡ Some is.1) (sym (seated now t is.0 is.2)) is.3 in
    let has = c.replies_answer_calls_that_count.ensures config program _ (task_in now.tasks) now.sent kept t k is.1 mine in
    (has.place, has.takes_effect.is_place) in
    let moved : (t n place : ℕ) → IsPlace m.next m.answers begin order (named t n) place → IsPlace m.next m.answers begin (order_of config.nodes later.sent) (named t n) place = λ t n place is.
    subst (λ (l : List Action). IsPlace m.next m.answers begin l (named t n) place) (sym grows.1) (longer m.next m.answers begin order grows.0 (named t n) place is) in
    record {
      order = order_of config.nodes later.sent;
      decided = c.the_order_exists.ensures config.nodes later.sent;
      placed = λ t k is. ((replied t k is).0, moved t (suc k) (replied t k is).0 (replied t k is).1);
      before = λ t k u n place other answered unmade one two.
          let first = replied t k answered in
          let same : place ≡ first.0 = c.a_call_has_one_place.ensures begin _ (named t (suc k)) place first.0 one (moved t (suc k) first.0 first.1) in
          let short : first.0 ≤ length order = within m.next m.answers begin order (named t (suc k)) first.0 first.1 in
          let late : ¬ (other ≤ length order) = λ inside.
          let whole = subst (λ (l : List Action). IsPlace m.next m.answers begin l (named u n) other) grows.1 two in
          let made = c.only_made_calls_count.ensures config program _ (task_in now.tasks) now.sent kept u n other (shorter m.next m.answers begin order grows.0 (named u n) other inside whole) in
          let own : calls_so_far (task_in now.tasks u) ≡ calls_so_far unmade.0 = ap calls_so_far (seated now u unmade.0 unmade.1) in
          absurd (omega (arith, made.1, own, unmade.2)) in
          grind (arith, same, short, late);
    }
