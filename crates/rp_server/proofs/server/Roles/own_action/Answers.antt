use Rattle.std.proofs.Common.{◌≡◌, Bool, Option, Some, None, List, ◌++◌, find, sym, ap, ◌∙◌}
use Rattle.std.specs.Prelude.{unwrap_or, option_copied}
use Rattle.rp_base.specs.declared.action.Action.{Action}
use Rattle.rp_base.specs.declared.action.Action.TheVariants.{Noop}
use Rattle.rp_base.specs.Proposals.{without_proposal}
use Rattle.rp_base.specs.Records.{applied_of}
use Rattle.rp_machine.specs.Replay.{counted_of}
use Rattle.rp_model.specs.Pending.{is_free_item}
use Rattle.rp_server.specs.State.{ServerState}
use Rattle.rp_server.proofs.Choosing.{find_before, find_after}
use Rattle.rp_server.proofs.server.Roles.own_action.Goals as goal

pub returns-in-Some : goal.returns-in-Some
returns-in-Some g c =
    let h = c.args.self.now in
    let kept = counted_of g.M.Machine.next g.M.Machine.answers h.begin (applied_of h.records) in
    let test : Action → Bool = is_free_item kept (without_proposal h.running.proposals c.args.position) in
    let front : List Action = c.as_slices.result.0.now in
    let back : List Action = c.as_slices.result.1.now in
    let all : front ++ back ≡ h.running.pending = c.as_slices.ensures ∙ ap (λ (k : ServerState g.row.M.Denot). k.running.pending) c.self.view_is in
    let first : find test front ≡ Some c.in-Some.item.now = sym c.first_free.ensures ∙ ap option_copied c.in-Some.is in
    let found : find test h.running.pending ≡ Some c.in-Some.item.now = ap (find test) (sym all) ∙ find_before test front back c.in-Some.item.now first in
    sym (ap (λ (o : Option Action). unwrap_or o Noop) found)

pub returns-in-Some-first_free : goal.returns-in-Some-first_free
returns-in-Some-first_free g c =
    let h = c.args.self.now in
    let kept = counted_of g.M.Machine.next g.M.Machine.answers h.begin (applied_of h.records) in
    let test : Action → Bool = is_free_item kept (without_proposal h.running.proposals c.args.position) in
    let front : List Action = c.as_slices.result.0.now in
    let back : List Action = c.as_slices.result.1.now in
    let all : front ++ back ≡ h.running.pending = c.as_slices.ensures ∙ ap (λ (k : ServerState g.row.M.Denot). k.running.pending) c.self.view_is in
    let first : find test front ≡ None = sym c.first_free.ensures ∙ ap option_copied c.in-None.is in
    let second : find test back ≡ Some c.in-Some-first_free.item.now = sym c.first_free-in-None.ensures ∙ ap option_copied c.in-Some-first_free.is in
    let found : find test h.running.pending ≡ Some c.in-Some-first_free.item.now = ap (find test) (sym all) ∙ find_after test front back first ∙ second in
    sym (ap (λ (o : Option Action). unwrap_or o Noop) found)

pub returns-in-None-first_free : goal.returns-in-None-first_free
returns-in-None-first_free g c =
    let h = c.args.self.now in
    let kept = counted_of g.M.Machine.next g.M.Machine.answers h.begin (applied_of h.records) in
    let test : Action → Bool = is_free_item kept (without_proposal h.running.proposals c.args.position) in
    let front : List Action = c.as_slices.result.0.now in
    let back : List Action = c.as_slices.result.1.now in
    let all : front ++ back ≡ h.running.pending = c.as_slices.ensures ∙ ap (λ (k : ServerState g.row.M.Denot). k.running.pending) c.self.view_is in
    let first : find test front ≡ None = sym c.first_free.ensures ∙ ap option_copied c.in-None.is in
    let second : find test back ≡ None = sym c.first_free-in-None.ensures ∙ ap option_copied c.in-None-first_free.is in
    let found : find test h.running.pending ≡ None = ap (find test) (sym all) ∙ find_after test front back first ∙ second in
    c.new.ensures ∙ sym (ap (λ (o : Option Action). unwrap_or o Noop) found)
