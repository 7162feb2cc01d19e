-- One action more.
use Rattle.std.proofs.Common.{◌≡◌, ◌≤◌, ◌<◌, ◌+◌, ℕ, Bool, List, length, MatchBool, sym, ◌∙◌, ap, subst, arith}
use Rattle.rp_base.specs.declared.action.Action.{Action}
use Rattle.rp_explore.specs.declared.giver.Giver.{Giver}
use Rattle.rp_explore.specs.Listed.{further}
use Rattle.rp_explore.specs.Searched.{Searched, Extends, AllReached, SomeMissing, AreNear, AreGivenBefore, AreAnswersNoted}
use Rattle.rp_explore.proofs.GivenLemmas.{given_more}
use Rattle.rp_explore.proofs.LayerLemmas.{layered_more, near_more}
use Rattle.rp_explore.proofs.VisitLemmas.{extends_self, extends_join, grows_extends, longer, order_stays, whole_more, quiet_more}
use Rattle.rp_explore.proofs.search.Search.try_all.Goals as goal

pub loop-action-init : goal.loop-action-init
loop-action-init g c = record {
  extends = extends_self c.args.self.now c.requires.room;
  whole = subst (λ (b : Bool). MatchBool b (AllReached g.M.Machine.next g.M.Machine.answers c.args.self.now c.args.visited.now.place 0) (SomeMissing g.M.Machine.next g.M.Machine.answers c.args.self.now c.args.visited.now.place 0)) (sym c.new-tried.ensures.whole) (λ index below. absurd (omega arith));
  quiet = (λ _ index below. absurd (omega arith), λ _. c.new-tried.ensures.quiet);
  layered = c.requires.layered;
  near = λ index below. absurd (omega (arith, below));
  given = c.requires.before;
}

-- the order stays at its place
here : {S : Type 0} (old new : Searched S) (place : ℕ) → Extends old new → place < length old.listed.orders → place < length new.listed.orders
here old new place e lt = omega (arith, longer old new e)

pub step-requires : goal.step-requires
step-requires g c =
    let old : Searched _ = c.args.self.now in
    let now : Searched _ = c.loop-action.self in
    let e = c.loop-action.invariant.extends in
    let may : c.may-action-end.result.now ≡ now.listed.may = c.may-action-end.ensures.value ∙ ap (λ (v : Searched _). v.listed.may) c.self.view_is ∙ sym e.may in
    record {
      place = here old now c.args.visited.now.place e c.requires.place;
      index = subst (λ (xs : List Action). c.loop-action.action < length xs) may c.loop-action-test.true;
      right = c.requires.right;
      order = c.requires.order;
      begin = c.requires.begin ∙ sym e.begin;
      actions = c.requires.actions ∙ sym (order_stays old now c.args.visited.now.place e c.requires.place);
    }

pub loop-action-preserved : goal.loop-action-preserved
loop-action-preserved g c =
    let m = g.M.Machine in
    let first : Searched _ = c.args.self.now in
    let old : Searched _ = c.loop-action.self in
    let new : Searched _ = c.step.new.self in
    let before = c.loop-action.invariant in
    let k = c.loop-action.action in
    let lt = here first old c.args.visited.now.place before.extends c.requires.place in
    let room : length old.listed.orders ≤ old.most = before.extends.room in
    let e = grows_extends old new (further old.listed c.args.visited.now.place k) room c.in_ok-at.ensures.grows in
    let layered = layered_more old new c.args.visited.now.place k lt before.layered c.in_ok-at.ensures.grows in
    let giver : Giver = record { place = c.args.visited.now.place; action = k } in
    let noted : AreAnswersNoted c.as_slice.result.now giver c.loop-action.given.replies.keys c.loop-action.given.givers.items c.note.new.self.replies.keys c.note.new.self.givers.items = c.in_ok-note.ensures in
    record {
      extends = extends_join first old new before.extends e;
      whole = subst (λ (b : Bool). MatchBool b (AllReached m.next m.answers new c.args.visited.now.place (k + 1)) (SomeMissing m.next m.answers new c.args.visited.now.place (k + 1))) (sym c.with-tried.ensures.whole)
          (whole_more m.next m.answers old new c.args.visited.now.place k c.in_ok-at.at c.loop-action.tried.is_whole e lt c.in_ok-at.ensures.there c.in_ok-at.ensures.skips before.whole);
      quiet = quiet_more m.next m.answers old new c.args.visited.now.place k c.in_ok-at.at c.loop-action.tried.is_quiet c.with-tried.result.is_quiet e lt c.in_ok-at.ensures.stays c.in_ok-at.ensures.skips before.quiet c.with-tried.ensures.quiet;
      layered = layered;
      near = near_more m.next m.answers old new c.args.visited.now.place k c.in_ok-at.at e lt c.in_ok-at.ensures.there layered before.near;
      given = given_more m.next m.answers old new e c.args.visited.now.place k c.loop-action.given.replies.keys c.note.new.self.replies.keys c.loop-action.given.givers.items c.note.new.self.givers.items c.as_slice.result.now c.args.visited.now.state.now lt
          (c.requires.begin ∙ sym before.extends.begin)
          (c.requires.actions ∙ sym (order_stays first old c.args.visited.now.place before.extends c.requires.place))
          (c.as_slice.ensures ∙ c.in_ok-at.ensures.answers)
          noted before.given;
    }

pub returns-clause-given : goal.returns-clause-given
returns-clause-given g c =
    let m = g.M.Machine in
    let old : Searched _ = c.args.self.now in
    let may : c.may-action-end.result.now ≡ old.listed.may = c.may-action-end.ensures.value ∙ ap (λ (v : Searched _). v.listed.may) c.self.view_is in
    let all : c.loop-action.action ≡ length old.listed.may = omega (arith, c.loop-action-test.false, c.loop-action.auto.action-end, ap length may) in
    subst (λ (n : ℕ). AreGivenBefore m.next m.answers c.loop-action.self c.args.visited.now.place n c.loop-action.given.replies.keys c.loop-action.given.givers.items) all c.loop-action.invariant.given

pub returns-clause-near : goal.returns-clause-near
returns-clause-near g c =
    let m = g.M.Machine in
    let old : Searched _ = c.args.self.now in
    let may : c.may-action-end.result.now ≡ old.listed.may = c.may-action-end.ensures.value ∙ ap (λ (v : Searched _). v.listed.may) c.self.view_is in
    let all : c.loop-action.action ≡ length old.listed.may = omega (arith, c.loop-action-test.false, c.loop-action.auto.action-end, ap length may) in
    subst (λ (n : ℕ). AreNear m.next m.answers c.loop-action.self c.args.visited.now.place n) all c.loop-action.invariant.near
