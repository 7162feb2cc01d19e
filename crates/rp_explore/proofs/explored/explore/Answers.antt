-- Once each order was visited, the search has found all.
use Rattle.std.proofs.Common.{◌≡◌, ◌↔◌, ◌-◌, ◌<◌, ◌≤◌, ◌+◌, ℕ, Bool, true, false, List, [], ◌∷◌, ◌++◌, length, get_or, Option, None, IsTrue, MatchOption, MatchBool, inl, inr, sym, ◌∙◌, ap, subst, arith}
use Rattle.rp_base.specs.Sets.{Has, IsSet}
use Rattle.rp_base.specs.declared.action.Action.{Action}
use Rattle.rp_base.specs.declared.reply.Answer.{Answer}
use Rattle.rp_orders.specs.Orders.{AreClosed, IsGiven, IsFinal, MayFollow}
use Rattle.rp_orders.proofs.Closing.{all_near}
use Rattle.rp_orders.specs.declared.guard.Guard.{Guard}
use Rattle.rp_explore.specs.Findings.{found_of}
use Rattle.rp_explore.specs.Listed.{Listed, order_at, AreOrdersOf, AreGuarded, AreSorted, AreDistinct}
use Rattle.rp_explore.specs.Searched.{Searched, Found, AllReached, LeadsBeyond, WaitsFirst, AreFindings}
use Rattle.rp_explore.specs.Explored.{greatest_length, IsFirstStuck, IsNeverStuck, IsFirstGiver}
use Rattle.rp_explore.proofs.VisitLemmas.{longer}
use Rattle.rp_explore.proofs.ExploredLemmas.{NearTo, shortest, near_found, has_empty, whole_closed, full_if_not, replies_given, giver_found, marked_final, deepest, waits_found}
use Rattle.rp_explore.proofs.explored.explore.Goals as goal

-- one order is sorted
sorted_one : {S : Type 0} (s : Searched S) → length s.listed.orders ≡ 1 → AreSorted s.listed.orders
sorted_one s alone one other le below =
    let same : one ≡ other = omega (arith, le, below, alone) in
    subst (λ (k : ℕ). length (order_at s.listed.orders one) ≤ length (order_at s.listed.orders k)) same (omega arith)

-- nothing was visited yet
none_yet : {S : Type 0} (next : S → Action → S) (answers : S → Action → List Answer) (s : Searched S) (found : Found)
    → found.is_whole ≡ true → found.replies ≡ [] → found.givers ≡ [] → found.finals ≡ [] → found.depth ≡ 0 → ((task : ℕ) → get_or found.stuck task None ≡ None) → length s.listed.orders ≡ 1 → AreFindings next answers s 0 found
none_yet next answers s found whole none no_givers no_finals no_depth never alone =
    let size : length found.replies ≡ 0 = ap length none in
    record {
      whole = subst (λ (b : Bool). MatchBool b ((p : ℕ) → p < 0 → AllReached next answers s p (length s.listed.may)) (LeadsBeyond next answers s)) (sym whole) (λ p below. absurd (omega arith));
      given = record {
        replies = λ answer. (
          λ h. absurd (subst (λ (xs : List Answer). Has answer xs) none h),
          λ gave. elim gave.earlier [ inl before ↦ absurd (omega (arith, before.0)) | inr here ↦ absurd (omega (arith, here.1)) ],
        );
        set = subst (λ (xs : List Answer). IsSet xs) (sym none) tt;
        size = ap length no_givers ∙ sym size;
        first = λ k answer giver lt. absurd (omega (arith, size, lt));
      };
      finals = record { size = ap length no_finals; marked = λ p below. absurd (omega arith) };
      stuck = λ task is. subst (λ (o : Option ℕ). WaitsFirst next answers s task 0 o) (sym (never (task - 1))) (λ earlier below. absurd (omega arith));
      layered = λ more. record {
        sorted = sorted_one s alone;
        layer = λ other below. let first : other ≡ 0 = omega (arith, below, alone) in subst (λ (k : ℕ). length (order_at s.listed.orders k) ≤ length (order_at s.listed.orders 0) + 1) (sym first) (omega arith);
      };
      sorted = sorted_one s alone;
      near = λ p below. absurd (omega (arith, below));
      depth = no_depth;
    }

-- what is said of the search is said of the program
moved : {S : Type 0} (P : S → List Guard → List Action → List (List Action) → Type 0) (s : Searched S) (begin : S) (guards : List Guard) (may : List Action) (listed : Listed)
    → s.begin ≡ begin → s.guards ≡ guards → s.listed.may ≡ may → listed ≡ s.listed → P s.begin s.guards s.listed.may s.listed.orders → P begin guards may listed.orders
moved {S} P s begin guards may listed starts guarded acts same p =
    subst (λ (l : Listed). P begin guards may l.orders) (sym same)
    (subst (λ (m : List Action). P begin guards m s.listed.orders) acts
    (subst (λ (gs : List Guard). P begin gs s.listed.may s.listed.orders) guarded (subst (λ (b : S). P b s.guards s.listed.may s.listed.orders) starts p)))

pub loop-place-init : goal.loop-place-init
loop-place-init g c =
    let m = g.M.Machine in
    let s : Searched _ = c.in_ok-search.search in
    let is = c.in_ok-search.ensures in
    let none = c.new-findings.ensures in
    record {
      begin = ap (λ (v : Searched _). v.begin) is;
      guards = ap (λ (v : Searched _). v.guards) is;
      may = ap (λ (v : Searched _). v.listed.may) is;
      most = ap (λ (v : Searched _). v.most) is;
      within = omega arith;
      room = omega (arith, ap (λ (v : Searched _). length v.listed.orders) is, ap (λ (v : Searched _). v.most) is, c.requires.room);
      found = none_yet m.next m.answers s (found_of c.new-findings.result) none.whole none.replies none.givers none.finals none.depth none.stuck (ap (λ (v : Searched _). length v.listed.orders) is);
    }

pub visit-requires : goal.visit-requires
visit-requires g c = record {
  place = omega (arith, c.loop-place-test.true, c.len.ensures.value);
  room = c.loop-place.invariant.room;
  before = c.loop-place.invariant.found;
}

pub loop-place-preserved : goal.loop-place-preserved
loop-place-preserved g c =
    let s : Searched _ = c.loop-place.search in
    let before = c.loop-place.invariant in
    let e = c.in_ok-visit.ensures.extends in
    record {
      begin = e.begin ∙ before.begin;
      guards = e.guards ∙ before.guards;
      may = e.may ∙ before.may;
      most = e.most ∙ before.most;
      within = omega (arith, longer s c.visit.new.self e, c.loop-place-test.true, c.len.ensures.value);
      room = e.room;
      found = c.in_ok-visit.ensures.after;
    }

-- the orders were visited up to the last
found_all : {S : Type 0} (next : S → Action → S) (answers : S → Action → List Answer) (s : Searched S) (place count : ℕ) (found : Found)
    → place ≤ length s.listed.orders → count ≤ place → count ≡ length s.listed.orders → AreFindings next answers s place found → AreFindings next answers s (length s.listed.orders) found
found_all next answers s place count found within done size all =
    let end : place ≡ length s.listed.orders = omega (arith, done, size, within) in
    subst (λ (n : ℕ). AreFindings next answers s n found) end all

pub returns-clause-among : goal.returns-clause-among
returns-clause-among g c =
    let m = g.M.Machine in
    let s : Searched _ = c.loop-place.search in
    let f = found_of c.loop-place.findings in
    let i = c.loop-place.invariant in
    moved (λ b gs may orders. AreOrdersOf (record { may = may; orders = orders })) s (m.begin c.args.program.now) c.args.guards.now c.args.may.now c.into_tree.result i.begin i.guards i.may c.into_tree.ensures
    (c.len.ensures.among)

pub returns-clause-guarded : goal.returns-clause-guarded
returns-clause-guarded g c =
    let m = g.M.Machine in
    let s : Searched _ = c.loop-place.search in
    let f = found_of c.loop-place.findings in
    let i = c.loop-place.invariant in
    moved (λ b gs may orders. AreGuarded m.next m.answers b gs orders) s (m.begin c.args.program.now) c.args.guards.now c.args.may.now c.into_tree.result i.begin i.guards i.may c.into_tree.ensures
    (c.len.ensures.guarded)

pub returns-clause-distinct : goal.returns-clause-distinct
returns-clause-distinct g c =
    let m = g.M.Machine in
    let s : Searched _ = c.loop-place.search in
    let f = found_of c.loop-place.findings in
    let i = c.loop-place.invariant in
    moved (λ b gs may orders. AreDistinct m.next m.answers b gs orders) s (m.begin c.args.program.now) c.args.guards.now c.args.may.now c.into_tree.result i.begin i.guards i.may c.into_tree.ensures
    (c.len.ensures.distinct)

pub returns-clause-once : goal.returns-clause-once
returns-clause-once g c = c.loop-place.invariant.found.given.set

pub returns-clause-sized : goal.returns-clause-sized
returns-clause-sized g c = c.loop-place.invariant.found.given.size

pub returns-clause-whole : goal.returns-clause-whole
returns-clause-whole g c =
    let m = g.M.Machine in
    let s : Searched _ = c.loop-place.search in
    let f = found_of c.loop-place.findings in
    let i = c.loop-place.invariant in
    let all = found_all m.next m.answers s c.loop-place.place c.len.result f i.within c.loop-place-test.false c.len.ensures.value i.found in
    moved (λ b gs may orders. IsTrue f.is_whole ↔ AreClosed m.next m.answers b gs may orders) s (m.begin c.args.program.now) c.args.guards.now c.args.may.now c.into_tree.result i.begin i.guards i.may c.into_tree.ensures
    (whole_closed m.next m.answers s f all (has_empty m.next m.answers s (omega (arith, c.len.ensures.value, c.len.ensures.starts)) c.len.ensures.empty) c.len.ensures.among c.len.ensures.guarded)

pub returns-clause-full : goal.returns-clause-full
returns-clause-full g c = λ not_whole.
    let m = g.M.Machine in
    let s : Searched _ = c.loop-place.search in
    let f = found_of c.loop-place.findings in
    let i = c.loop-place.invariant in
    let all = found_all m.next m.answers s c.loop-place.place c.len.result f i.within c.loop-place-test.false c.len.ensures.value i.found in
    moved (λ b gs may orders. length orders ≡ s.most) s (m.begin c.args.program.now) c.args.guards.now c.args.may.now c.into_tree.result i.begin i.guards i.may c.into_tree.ensures
    (full_if_not m.next m.answers s f all i.room not_whole)
    ∙ i.most

pub returns-clause-replies : goal.returns-clause-replies
returns-clause-replies g c = λ answer.
    let m = g.M.Machine in
    let s : Searched _ = c.loop-place.search in
    let f = found_of c.loop-place.findings in
    let i = c.loop-place.invariant in
    let all = found_all m.next m.answers s c.loop-place.place c.len.result f i.within c.loop-place-test.false c.len.ensures.value i.found in
    moved (λ b gs may orders. Has answer f.replies ↔ IsGiven m.next m.answers b gs may orders answer) s (m.begin c.args.program.now) c.args.guards.now c.args.may.now c.into_tree.result i.begin i.guards i.may c.into_tree.ensures
    (replies_given m.next m.answers s f all answer)

pub returns-clause-givers : goal.returns-clause-givers
returns-clause-givers g c = λ k answer giver lt.
    let m = g.M.Machine in
    let s : Searched _ = c.loop-place.search in
    let f = found_of c.loop-place.findings in
    let i = c.loop-place.invariant in
    let all = found_all m.next m.answers s c.loop-place.place c.len.result f i.within c.loop-place-test.false c.len.ensures.value i.found in
    moved (λ b gs may orders. IsFirstGiver m.next m.answers b gs may orders (get_or f.replies k answer) (get_or f.givers k giver)) s (m.begin c.args.program.now) c.args.guards.now c.args.may.now c.into_tree.result i.begin i.guards i.may c.into_tree.ensures
    (giver_found m.next m.answers s f all k answer giver lt)

pub returns-clause-waits : goal.returns-clause-waits
returns-clause-waits g c = λ task is.
    let m = g.M.Machine in
    let s : Searched _ = c.loop-place.search in
    let f = found_of c.loop-place.findings in
    let i = c.loop-place.invariant in
    let all = found_all m.next m.answers s c.loop-place.place c.len.result f i.within c.loop-place-test.false c.len.ensures.value i.found in
    moved (λ b gs may orders. MatchOption (get_or f.stuck (task - 1) None) (IsNeverStuck m.next m.answers b gs may orders task) (IsFirstStuck m.next m.answers b gs may orders task)) s (m.begin c.args.program.now) c.args.guards.now c.args.may.now c.into_tree.result i.begin i.guards i.may c.into_tree.ensures
    (waits_found m.next m.answers s f all task is)

pub returns-clause-finals : goal.returns-clause-finals
returns-clause-finals g c = λ place lt.
    let m = g.M.Machine in
    let s : Searched _ = c.loop-place.search in
    let f = found_of c.loop-place.findings in
    let i = c.loop-place.invariant in
    let all = found_all m.next m.answers s c.loop-place.place c.len.result f i.within c.loop-place-test.false c.len.ensures.value i.found in
    let there : place < length s.listed.orders = subst (λ (l : Listed). place < length l.orders) c.into_tree.ensures lt in
    moved (λ b gs may orders. IsTrue (get_or f.finals place false) ↔ IsFinal m.next m.answers b gs may (order_at orders place)) s (m.begin c.args.program.now) c.args.guards.now c.args.may.now c.into_tree.result i.begin i.guards i.may c.into_tree.ensures
    (marked_final m.next m.answers s f all place there)

pub returns-clause-depth : goal.returns-clause-depth
returns-clause-depth g c =
    let m = g.M.Machine in
    let s : Searched _ = c.loop-place.search in
    let f = found_of c.loop-place.findings in
    let i = c.loop-place.invariant in
    let all = found_all m.next m.answers s c.loop-place.place c.len.result f i.within c.loop-place-test.false c.len.ensures.value i.found in
    moved (λ b gs may orders. f.depth ≡ greatest_length orders) s (m.begin c.args.program.now) c.args.guards.now c.args.may.now c.into_tree.result i.begin i.guards i.may c.into_tree.ensures
    (deepest m.next m.answers s f all)

pub returns-clause-sorted : goal.returns-clause-sorted
returns-clause-sorted g c =
    let m = g.M.Machine in
    let s : Searched _ = c.loop-place.search in
    let f = found_of c.loop-place.findings in
    let i = c.loop-place.invariant in
    moved (λ b gs may orders. AreSorted orders) s (m.begin c.args.program.now) c.args.guards.now c.args.may.now c.into_tree.result i.begin i.guards i.may c.into_tree.ensures
    i.found.sorted

pub returns-clause-shortest : goal.returns-clause-shortest
returns-clause-shortest g c = λ place lt order is alike.
    let m = g.M.Machine in
    let s : Searched _ = c.loop-place.search in
    let f = found_of c.loop-place.findings in
    let i = c.loop-place.invariant in
    let all = found_all m.next m.answers s c.loop-place.place c.len.result f i.within c.loop-place-test.false c.len.ensures.value i.found in
    let laws = c.laws.ensures in
    let program = c.args.program.now in
    let guards = c.args.guards.now in
    let may = c.args.may.now in
    let orders = c.into_tree.result.orders in
    let starts : Has [] orders = moved (λ b gs acts os. Has [] os) s (m.begin c.args.program.now) c.args.guards.now c.args.may.now c.into_tree.result i.begin i.guards i.may c.into_tree.ensures
    (has_empty m.next m.answers s (omega (arith, c.len.ensures.value, c.len.ensures.starts)) c.len.ensures.empty) in
    let near = moved (λ b gs acts os. (before : List Action) (action : Action) → Has before os → Has action acts → MayFollow m.next m.answers b gs before action → NearTo m.next m.answers b gs os (before ++ action ∷ [])) s (m.begin c.args.program.now) c.args.guards.now c.args.may.now c.into_tree.result i.begin i.guards i.may c.into_tree.ensures
    (near_found m.next m.answers s f all) in
    shortest m.next m.answers (m.begin program) guards orders place order lt (returns-clause-distinct g c) alike
    (all_near m.next m.answers m.waiting m.begin m.runs laws.none_waits laws.starts laws.keeps laws.accounts program guards may orders c.requires.right starts (returns-clause-among g c) near order is)
