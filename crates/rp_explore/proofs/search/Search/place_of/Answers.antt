-- Equal keys are those of equal states, by the laws of the machine.
use Rattle.std.proofs.Common.{◌≡◌, ◌<◌, ◌-◌, ℕ, Bool, false, List, [], ◌∷◌, ◌++◌, length, get_or, if◌then◌else◌, inl, inr, sym, ap, subst, ◌∙◌, arith}
use Rattle.std.specs.List.{list_any}
use Rattle.std.proofs.lemmas.List.{length-append, get_or-append_right}
use Rattle.rp_base.specs.Sets.{Has}
use Rattle.rp_base.specs.declared.action.Action.{Action}
use Rattle.rp_base.specs.declared.action.Action.TheVariants.{Noop}
use Rattle.rp_base.specs.declared.reply.Answer.{Answer}
use Rattle.rp_machine.specs.Replay.{replay_of, replay_state}
use Rattle.rp_machine.specs.Numbered.{Applied, outcome}
use Rattle.rp_orders.specs.Orders.{AreRight, LeadAlike, MayFollow, IsGuarded}
use Rattle.rp_orders.specs.declared.guard.Guard.{Guard}
use Rattle.rp_orders.proofs.Guarding.{guarded_push}
use Rattle.rp_explore.specs.declared.key.Key.{Key}
use Rattle.rp_explore.specs.Keys.{IsKeyOf, AreKeys}
use Rattle.rp_explore.specs.Listed.{Listed, order_at, further, AreOrdersOf, AreGuarded}
use Rattle.rp_explore.specs.Searched.{Searched, IsAt, IsMissing}
use Rattle.rp_explore.proofs.Lists.{has_at, has_last}
use Rattle.rp_explore.proofs.TreeLemmas.{among_push, right_if_among}
use Rattle.rp_explore.proofs.SearchLemmas.{alike_self}
use Rattle.rp_explore.proofs.TableLemmas.{same_key, keys_push, keys_later, not_reached, there_at}
use Rattle.rp_explore.proofs.search.Search.place_of.Goals as goal

-- the key of the machine is that of the order
of_order : {S : Type 0} (next : S → Action → S) (answers : S → Action → List Answer) (guards : List Guard) (shown : S → List ℕ) (known : List (List ℕ)) (applied : Applied S) (begin : S) (order : List Action) (key : Key)
    → applied.begin ≡ begin → applied.actions ≡ order → IsKeyOf shown guards known (outcome next answers applied) key → IsKeyOf shown guards known (replay_of next answers begin order) key
of_order {S} next answers guards shown known applied begin order key starts acts is =
    let same : applied ≡ record { begin = begin; actions = order } = λ i. record { begin = starts i; actions = acts i } in
    subst (λ (a : Applied S). IsKeyOf shown guards known (outcome next answers a) key) same is

-- one more action that may happen
further_right : (listed : Listed) (place index : ℕ) → AreRight listed.may → AreOrdersOf listed → place < length listed.orders → index < length listed.may → AreRight (further listed place index)
further_right listed place index right among in_orders in_may =
    right_if_among listed.may (further listed place index) right
    (among_push listed.may (order_at listed.orders place) (get_or listed.may index Noop) (among (order_at listed.orders place) (has_at listed.orders place [] in_orders)) (has_at listed.may index Noop in_may))

-- a new key goes last
inserted : (old reserved new : List Key) (key : Key) → reserved ≡ old → new ≡ (if list_any (same_key key) reserved then reserved else reserved ++ key ∷ []) → false ≡ list_any (same_key key) old → new ≡ old ++ key ∷ []
inserted old reserved new key same is none =
    is ∙ ap (λ (xs : List Key). if list_any (same_key key) xs then xs else xs ++ key ∷ []) same ∙ ap (λ (b : Bool). if b then old else old ++ key ∷ []) (sym none)

pub returns-in-Some-clause-there : goal.returns-in-Some-clause-there
returns-in-Some-clause-there g c =
    let m = g.M.Machine in
    let laws = c.laws.ensures in
    let runs = c.replay_may_go_on.ensures.runs in
    let inside = c.self.inside in
    let program = inside.program.now in
    let order = further inside.tree c.args.before c.args.index in
    let seen : Searched _ = record { begin = m.begin program; guards = inside.guards.now; listed = inside.tree; most = inside.most } in
    let is : seen ≡ c.args.self.now = c.self.view_is in
    let each = (keys_later m.next m.answers (m.begin program) inside.guards.now m.image inside.known.pieces c.key_of.new.pieces inside.known.keys.keys inside.tree.orders c.in_ok-key.ensures.more c.self.invariant.0) in
    let own = of_order m.next m.answers inside.guards.now m.image c.key_of.new.pieces c.args.next.now (m.begin program) order c.in_ok-key.key
    (c.requires.begin ∙ ap (λ (v : Searched _). v.begin) (sym is)) (c.requires.actions ∙ ap (λ (v : Searched _). further v.listed c.args.before c.args.index) (sym is)) c.in_ok-key.ensures.value in
    let before : c.args.before < length inside.tree.orders = subst (λ (v : Searched _). c.args.before < length v.listed.orders) (sym is) c.requires.before in
    let index : c.args.index < length inside.tree.may = subst (λ (v : Searched _). c.args.index < length v.listed.may) (sym is) c.requires.index in
    let right = further_right inside.tree c.args.before c.args.index c.len-place.ensures.right c.len-place.ensures.among before index in
    subst (λ (v : Searched _). IsAt m.next m.answers seen (further v.listed c.args.before c.args.index) c.in-Some.known) is
    (there_at m.next m.answers (m.begin program) inside.guards.now m.image c.key_of.new.pieces seen inside.known.keys.keys c.in_ok-key.key order c.in-Some.known (λ i. m.begin program) (λ i. inside.guards.now)
    (λ other has same. laws.shows program (replay_state m.next m.answers (m.begin program) order) (replay_state m.next m.answers (m.begin program) other)
    (runs program order right) (runs program other (right_if_among inside.tree.may other c.len-place.ensures.right (c.len-place.ensures.among other has))) same)
    each own (sym c.in-Some.ensures.index))

pub returns-then-place-self-clause-there : goal.returns-then-place-self-clause-there
returns-then-place-self-clause-there g c =
    let m = g.M.Machine in
    let inside = c.self.inside in
    let program = inside.program.now in
    let order = further inside.tree c.args.before c.args.index in
    let seen : Searched _ = record { begin = m.begin program; guards = inside.guards.now; listed = inside.tree; most = inside.most } in
    let is : seen ≡ c.args.self.now = c.self.view_is in
    let each = (keys_later m.next m.answers (m.begin program) inside.guards.now m.image inside.known.pieces c.key_of.new.pieces inside.known.keys.keys inside.tree.orders c.in_ok-key.ensures.more c.self.invariant.0) in
    let own = of_order m.next m.answers inside.guards.now m.image c.key_of.new.pieces c.args.next.now (m.begin program) order c.in_ok-key.key
    (c.requires.begin ∙ ap (λ (v : Searched _). v.begin) (sym is)) (c.requires.actions ∙ ap (λ (v : Searched _). further v.listed c.args.before c.args.index) (sym is)) c.in_ok-key.ensures.value in
    subst (λ (v : Searched _). IsMissing m.next m.answers seen (further v.listed c.args.before c.args.index)) is
    (record {
      full = omega (arith, c.if-place-self.true, c.len-place.ensures.value);
      missing = not_reached m.next m.answers (m.begin program) inside.guards.now m.image c.key_of.new.pieces inside.known.keys.keys inside.tree.orders c.in_ok-key.key order c.len-lines.ensures each own (sym c.in_default.ensures.found);
    })

-- the orders, and one more, are let by the guards
more_guarded : {S : Type 0} (next : S → Action → S) (answers : S → Action → List Answer) (begin : S) (guards : List Guard) (orders new : List (List Action)) (before last : List Action) (action : Action) → last ≡ before ++ action ∷ [] → new ≡ orders ++ last ∷ []
    → Has before orders → MayFollow next answers begin guards before action → AreGuarded next answers begin guards orders → AreGuarded next answers begin guards new
more_guarded next answers begin guards orders new before last action is more there follows all order h = elim (has_last order last orders (subst (λ (os : List (List Action)). Has order os) more h)) [
  | inl old ↦ all order old
  | inr same ↦ subst (λ (o : List Action). IsGuarded next answers begin guards o) (sym (same ∙ is)) (guarded_push next answers begin guards before action (all before there) follows)
]

pub invariant_of-self-2 : goal.invariant_of-self-2
invariant_of-self-2 g c =
    let m = g.M.Machine in
    let inside = c.self.inside in
    let program = inside.program.now in
    let order = further inside.tree c.args.before c.args.index in
    let seen : Searched _ = record { begin = m.begin program; guards = inside.guards.now; listed = inside.tree; most = inside.most } in
    let is : seen ≡ c.args.self.now = c.self.view_is in
    let each = (keys_later m.next m.answers (m.begin program) inside.guards.now m.image inside.known.pieces c.key_of.new.pieces inside.known.keys.keys inside.tree.orders c.in_ok-key.ensures.more c.self.invariant.0) in
    let own = of_order m.next m.answers inside.guards.now m.image c.key_of.new.pieces c.args.next.now (m.begin program) order c.in_ok-key.key
    (c.requires.begin ∙ ap (λ (v : Searched _). v.begin) (sym is)) (c.requires.actions ∙ ap (λ (v : Searched _). further v.listed c.args.before c.args.index) (sym is)) c.in_ok-key.ensures.value in
    let pushed = keys_push m.next m.answers (m.begin program) inside.guards.now m.image c.key_of.new.pieces inside.known.keys.keys inside.tree.orders c.in_ok-key.key order each own in
    let keys : c.insert.new.self.keys ≡ inside.known.keys.keys ++ c.in_ok-key.key ∷ [] = inserted inside.known.keys.keys c.reserve.new.self.keys c.insert.new.self.keys c.in_ok-key.key c.in_ok-reserve.ensures.keys c.in_ok-insert.ensures.keys c.in_default.ensures.found in
    let orders : c.push.new.self.orders ≡ inside.tree.orders ++ order ∷ [] = ap (λ (v : Listed). v.orders) c.in_ok-push.ensures.ok in
    let all : AreKeys m.next m.answers (m.begin program) inside.guards.now m.image c.key_of.new.pieces c.insert.new.self.keys c.push.new.self.orders =
    subst (λ (xs : List Key). AreKeys m.next m.answers (m.begin program) inside.guards.now m.image c.key_of.new.pieces xs c.push.new.self.orders) (sym keys)
    (subst (λ (os : List (List Action)). AreKeys m.next m.answers (m.begin program) inside.guards.now m.image c.key_of.new.pieces (inside.known.keys.keys ++ c.in_ok-key.key ∷ []) os) (sym orders) pushed) in
    let before = order_at inside.tree.orders c.args.before in
    let lt : c.args.before < length inside.tree.orders = subst (λ (v : Searched _). c.args.before < length v.listed.orders) (sym is) c.requires.before in
    let follows : MayFollow m.next m.answers (m.begin program) inside.guards.now before (get_or inside.tree.may c.args.index Noop) =
    subst (λ (v : Searched _). MayFollow m.next m.answers v.begin v.guards (order_at v.listed.orders c.args.before) (get_or v.listed.may c.args.index Noop)) (sym is) c.requires.may_follow in
    (all, more_guarded m.next m.answers (m.begin program) inside.guards.now inside.tree.orders c.push.new.self.orders before order (get_or inside.tree.may c.args.index Noop) (λ i. order) orders (has_at inside.tree.orders c.args.before [] lt) follows c.self.invariant.1)

-- where nothing was found more, all stays
stays_so : {S : Type 0} (next : S → Action → S) (answers : S → Action → List Answer) (begin : S) (guards : List Guard) (shown : S → List ℕ) (known : List (List ℕ)) (keys more : List Key) (tree left : Listed) → more ≡ keys → left ≡ tree
    → AreKeys next answers begin guards shown known keys tree.orders × AreGuarded next answers begin guards tree.orders → AreKeys next answers begin guards shown known more left.orders × AreGuarded next answers begin guards left.orders
stays_so next answers begin guards shown known keys more tree left is same all =
    subst (λ (ks : List Key). AreKeys next answers begin guards shown known ks left.orders × AreGuarded next answers begin guards left.orders) (sym is)
    (subst (λ (t : Listed). AreKeys next answers begin guards shown known keys t.orders × AreGuarded next answers begin guards t.orders) (sym same) all)

pub invariant_of-self-in_err-push : goal.invariant_of-self-in_err-push
invariant_of-self-in_err-push g c =
    let m = g.M.Machine in
    let inside = c.self.inside in
    let program = inside.program.now in
    let each = (keys_later m.next m.answers (m.begin program) inside.guards.now m.image inside.known.pieces c.key_of.new.pieces inside.known.keys.keys inside.tree.orders c.in_ok-key.ensures.more c.self.invariant.0) in
    stays_so m.next m.answers (m.begin program) inside.guards.now m.image c.key_of.new.pieces inside.known.keys.keys c.reserve.new.self.keys inside.tree c.push.new.self c.in_ok-reserve.ensures.keys c.in_err-push.ensures.err (each, c.self.invariant.1)

-- the order that was found last is at the end
at_end : {S : Type 0} (next : S → Action → S) (answers : S → Action → List Answer) (s : Searched S) (olds : List (List Action)) (order : List Action) (place : ℕ) → s.listed.orders ≡ olds ++ order ∷ [] → place ≡ length olds → IsAt next answers s order place
at_end next answers s olds order place is end =
    let none : place - place ≡ 0 = omega arith in
    let last : order_at s.listed.orders place ≡ order =
    ap (λ (os : List (List Action)). order_at os place) is ∙ get_or-append_right olds (order ∷ []) place place [] (sym end) (omega arith) ∙ ap (λ (k : ℕ). get_or (order ∷ []) k []) none in
    record {
      within = omega (arith, ap length is, length-append olds (order ∷ []), end);
      alike = subst (λ (o : List Action). LeadAlike next answers s.begin s.guards order o) (sym last) (alike_self s.guards (replay_of next answers s.begin order));
    }

pub returns-clause-there : goal.returns-clause-there
returns-clause-there g c =
    let m = g.M.Machine in
    let inside = c.self.inside in
    let program = inside.program.now in
    let seen : Searched _ = record { begin = m.begin program; guards = inside.guards.now; listed = inside.tree; most = inside.most } in
    let is : seen ≡ c.args.self.now = c.self.view_is in
    let order = further inside.tree c.args.before c.args.index in
    let new : Searched _ = record { begin = m.begin program; guards = inside.guards.now; listed = c.push.new.self; most = inside.most } in
    subst (λ (v : Searched _). IsAt m.next m.answers new (further v.listed c.args.before c.args.index) c.len-place.result) is
    (at_end m.next m.answers new inside.tree.orders order c.len-place.result (ap (λ (v : Listed). v.orders) c.in_ok-push.ensures.ok) c.len-place.ensures.value)

pub invariant_of-self : goal.invariant_of-self
invariant_of-self g c =
    let m = g.M.Machine in
    let inside = c.self.inside in
    let program = inside.program.now in
    let each = keys_later m.next m.answers (m.begin program) inside.guards.now m.image inside.known.pieces c.key_of.new.pieces inside.known.keys.keys inside.tree.orders c.key_of.ensures.more c.self.invariant.0 in
    (each, c.self.invariant.1)

pub invariant_of-self-in-Some : goal.invariant_of-self-in-Some
invariant_of-self-in-Some g c =
    let m = g.M.Machine in
    let inside = c.self.inside in
    let program = inside.program.now in
    let each = keys_later m.next m.answers (m.begin program) inside.guards.now m.image inside.known.pieces c.key_of.new.pieces inside.known.keys.keys inside.tree.orders c.in_ok-key.ensures.more c.self.invariant.0 in
    (each, c.self.invariant.1)

pub invariant_of-self-then-place-self : goal.invariant_of-self-then-place-self
invariant_of-self-then-place-self g c =
    let m = g.M.Machine in
    let inside = c.self.inside in
    let program = inside.program.now in
    let each = keys_later m.next m.answers (m.begin program) inside.guards.now m.image inside.known.pieces c.key_of.new.pieces inside.known.keys.keys inside.tree.orders c.in_ok-key.ensures.more c.self.invariant.0 in
    (each, c.self.invariant.1)

pub invariant_of-self-in_err-reserve : goal.invariant_of-self-in_err-reserve
invariant_of-self-in_err-reserve g c =
    let m = g.M.Machine in
    let inside = c.self.inside in
    let program = inside.program.now in
    let each = keys_later m.next m.answers (m.begin program) inside.guards.now m.image inside.known.pieces c.key_of.new.pieces inside.known.keys.keys inside.tree.orders c.in_ok-key.ensures.more c.self.invariant.0 in
    stays_so m.next m.answers (m.begin program) inside.guards.now m.image c.key_of.new.pieces inside.known.keys.keys c.reserve.new.self.keys inside.tree inside.tree c.in_err-reserve.ensures.keys (λ i. inside.tree) (each, c.self.invariant.1)
