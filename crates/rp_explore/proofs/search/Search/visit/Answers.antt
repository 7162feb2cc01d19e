-- One order more.
use Rattle.std.proofs.Common.{◌≡◌, ◌↔◌, ◌<◌, ◌+◌, ◌-◌, ◌++◌, ◌∷◌, [], ℕ, Bool, true, false, not, ◌&&◌, max, IsTrue, refl, List, length, get_or, Option, Some, None, is_none, if◌then◌else◌, MatchBool, sym, ◌∙◌, ap, subst, arith, true≢false}
use Rattle.rp_base.specs.Number.{IsTask}
use Rattle.rp_base.specs.declared.action.Action.{Action}
use Rattle.rp_base.specs.declared.reply.Answer.{Answer}
use Rattle.rp_machine.specs.Asked.{waits}
use Rattle.rp_machine.specs.Numbered.{Applied, outcome}
use Rattle.rp_explore.specs.declared.findings.Given.{Given}
use Rattle.rp_explore.specs.Findings.{found_of}
use Rattle.rp_explore.specs.Listed.{order_at}
use Rattle.rp_explore.specs.Searched.{Searched, Found, Extends, AllReached, SomeMissing, LeadsBeyond, AreQuiet, IsLayered, AreNear, AreGivenBefore, WaitsFirst, AreFindings}
use Rattle.rp_explore.proofs.VisitLemmas.{order_stays}
use Rattle.rp_explore.proofs.LayerLemmas.{layered_next, near_after}
use Rattle.rp_explore.proofs.GivenLemmas.{given_next_order}
use Rattle.rp_explore.proofs.FindingsLemmas.{whole_after, marked_more, deeper, waits_after, noted_none, stuck_quiet, waits_stuck}
use Rattle.rp_explore.proofs.search.Search.visit.Goals as goal

not_true : (b : Bool) → not b ≡ true → b ≡ false
not_true true e = sym e
not_true false e = refl

not_false : (b : Bool) → not b ≡ false → b ≡ true
not_false true e = refl
not_false false e = sym e

-- what is found, with one order more
found_after : {S : Type 0} (next : S → Action → S) (answers : S → Action → List Answer) (old new : Searched S) (place : ℕ) (before after : Found) (is_whole is_quiet : Bool) (order : List Action)
    → Extends old new → place < length old.listed.orders → AreFindings next answers old place before
    → MatchBool is_whole (AllReached next answers new place (length old.listed.may)) (SomeMissing next answers new place (length old.listed.may))
    → IsTrue is_quiet ↔ AreQuiet next answers new place (length old.listed.may)
    → IsLayered new place → AreNear next answers new place (length old.listed.may)
    → AreGivenBefore next answers new place (length old.listed.may) after.replies after.givers
    → order ≡ order_at old.listed.orders place
    → after.is_whole ≡ (before.is_whole && is_whole) → after.finals ≡ before.finals ++ is_quiet ∷ [] → after.depth ≡ max before.depth (length order)
    → ((task : ℕ) → IsTask task → WaitsFirst next answers new task (place + 1) (get_or after.stuck (task - 1) None))
    → AreFindings next answers new (place + 1) after
found_after next answers old new place before after is_whole is_quiet order e lt was whole quiet layered near given is wholes marks depths stuck =
    let size : length old.listed.may ≡ length new.listed.may = ap length (sym e.may) in
    record {
      whole = subst (λ (b : Bool). MatchBool b ((p : ℕ) → p < place + 1 → AllReached next answers new p (length new.listed.may)) (LeadsBeyond next answers new)) (sym wholes)
          (whole_after next answers old new place before.is_whole is_whole e lt was.whole whole);
      given = given_next_order next answers new place after.replies after.givers (subst (λ (n : ℕ). AreGivenBefore next answers new place n after.replies after.givers) size given);
      finals = marked_more next answers old new place before.finals after.finals is_quiet e lt marks quiet was.finals;
      stuck = stuck;
      layered = λ more. layered_next new place more layered;
      sorted = layered.sorted;
      near = near_after next answers old new place e lt was.near near;
      depth = deeper next answers old new place before.depth after.depth order e lt is depths was.depth;
    }

pub returns-then-not-tried-clause-after : goal.returns-then-not-tried-clause-after
returns-then-not-tried-clause-after g c =
    let m = g.M.Machine in
    let old : Searched _ = c.args.self.now in
    let new : Searched _ = c.try_all.new.self in
    let tried = c.in_ok-tried.tried in
    let ensured = c.in_ok-tried.ensures in
    let noted = c.in_ok-note_order.ensures in
    let e = ensured.extends in
    let size : length new.listed.may ≡ length old.listed.may = ap length e.may in
    let loud : ¬ AreQuiet m.next m.answers new c.args.place (length new.listed.may) =
    λ quiet. true≢false (sym (ensured.quiet.1 (subst (λ (n : ℕ). AreQuiet m.next m.answers new c.args.place n) size quiet)) ∙ not_true tried.is_quiet c.if-not-tried.true) in
    let long : c.in_ok-order.order.len ≡ length c.in_ok-order.order.items = omega (arith, c.in_ok-order.order.ok.0) in
    found_after m.next m.answers old new c.args.place (found_of c.args.findings.now) (found_of c.note_order.new.self) tried.is_whole tried.is_quiet c.in_ok-order.order.items
    e c.requires.place c.requires.before ensured.whole ensured.quiet ensured.layered ensured.near
    (subst (λ (gs : Given). AreGivenBefore m.next m.answers new c.args.place (length old.listed.may) gs.replies.keys gs.givers.items) (sym noted.given) ensured.given)
    (c.in_ok-order.ensures.value ∙ ap (λ (v : Searched _). order_at v.listed.orders c.args.place) c.self.view_is)
    noted.whole noted.finals (noted.depth ∙ ap (max c.args.findings.now.depth) (c.len.ensures ∙ long))
    (λ task is.
    let o = get_or c.args.findings.now.stuck (task - 1) None in
    subst (λ (xs : List (Option ℕ)). WaitsFirst m.next m.answers new task (c.args.place + 1) (get_or xs (task - 1) None)) (sym noted.stuck)
    (waits_after m.next m.answers old new task c.args.place false o o e c.requires.place (c.requires.before.stuck task is)
    (λ never. absurd (true≢false (sym never)), λ stuck. absurd (loud (stuck_quiet m.next m.answers new task c.args.place stuck)))
    (noted_none m.next m.answers o c.args.place)))

pub returns-clause-after : goal.returns-clause-after
returns-clause-after g c =
    let m = g.M.Machine in
    let old : Searched _ = c.args.self.now in
    let new : Searched _ = c.try_all.new.self in
    let tried = c.in_ok-tried.tried in
    let ensured = c.in_ok-tried.ensures in
    let noted = c.in_ok-note_order.ensures in
    let e = ensured.extends in
    let size : length new.listed.may ≡ length old.listed.may = ap length e.may in
    let quiet : AreQuiet m.next m.answers new c.args.place (length new.listed.may) = subst (λ (n : ℕ). AreQuiet m.next m.answers new c.args.place n) (sym size) (ensured.quiet.0 (not_false tried.is_quiet c.if-not-tried.false)) in
    let state = c.in_ok-state.state in
    let starts : state.begin ≡ new.begin = ap (λ (a : Applied _). a.begin) c.in_ok-state.ensures ∙ ap (λ (v : Searched _). v.begin) c.self.view_is ∙ sym e.begin in
    let acts : state.actions ≡ order_at new.listed.orders c.args.place =
    ap (λ (a : Applied _). a.actions) c.in_ok-state.ensures ∙ c.as_slice.ensures.value ∙ c.in_ok-order.ensures.value ∙ ap (λ (v : Searched _). order_at v.listed.orders c.args.place) c.self.view_is
    ∙ sym (order_stays old new c.args.place e c.requires.place) in
    let last : Found = record (found_of c.note_order.new.self) { stuck = c.note_waits.new.stuck } in
    let long : c.in_ok-order.order.len ≡ length c.in_ok-order.order.items = omega (arith, c.in_ok-order.order.ok.0) in
    found_after m.next m.answers old new c.args.place (found_of c.args.findings.now) last tried.is_whole tried.is_quiet c.in_ok-order.order.items
    e c.requires.place c.requires.before ensured.whole ensured.quiet ensured.layered ensured.near
    (subst (λ (gs : Given). AreGivenBefore m.next m.answers new c.args.place (length old.listed.may) gs.replies.keys gs.givers.items) (sym noted.given) ensured.given)
    (c.in_ok-order.ensures.value ∙ ap (λ (v : Searched _). order_at v.listed.orders c.args.place) c.self.view_is)
    noted.whole noted.finals (noted.depth ∙ ap (max c.args.findings.now.depth) (c.len.ensures ∙ long))
    (λ task is.
    let r = outcome m.next m.answers state in
    waits_after m.next m.answers old new task c.args.place (waits task r.kept r.given) (get_or c.args.findings.now.stuck (task - 1) None) (get_or c.note_waits.new.stuck (task - 1) None) e c.requires.place (c.requires.before.stuck task is)
    (waits_stuck m.next m.answers new state task c.args.place starts acts quiet)
    (c.note_waits.ensures task is ∙ ap (λ (xs : List (Option ℕ)). if is_none (get_or xs (task - 1) None) && waits task r.kept r.given then Some c.args.place else get_or xs (task - 1) None) noted.stuck))
