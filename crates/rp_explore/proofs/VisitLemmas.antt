-- A search that goes on, and what it says of one order and the actions after it.
use Rattle.std.proofs.Common.{◌≡◌, ◌↔◌, ℕ, ◌+◌, ◌<◌, ◌≤◌, ◌⊎◌, Bool, true, false, ◌&&◌, IsTrue, List, [], ◌∷◌, ◌++◌, length, get_or, Option, Some, None, is_some, MatchOption, MatchBool, inl, inr, sym, ◌∙◌, ap, subst, refl, arith, append_assoc, append-nil, length-append}
use Rattle.std.proofs.lemmas.List.{get_or_append_left}
use Rattle.std.proofs.lemmas.Bool.{cases_lt}
use Rattle.rp_base.specs.declared.action.Action.{Action}
use Rattle.rp_base.specs.declared.action.Action.TheVariants.{Noop}
use Rattle.rp_base.specs.declared.reply.Answer.{Answer}
use Rattle.rp_machine.proofs.Calling.{has_left}
use Rattle.rp_orders.specs.Orders.{LeadAlike, IsReached, MayFollow}
use Rattle.rp_orders.specs.declared.guard.Guard.{Guard}
use Rattle.rp_explore.specs.Listed.{order_at, further}
use Rattle.rp_explore.specs.Searched.{Searched, Grows, Extends, IsAt, IsMissing, MayFollowAt, AllReached, SomeMissing, AreQuiet}
use Rattle.rp_explore.proofs.Lists.{has_at}

no_more : (xs : List (List Action)) → length xs ≤ 0 → xs ≡ []
no_more [] le = refl
no_more (x ∷ xs) le = absurd (omega arith)

module _ {S : Type 0} where
  pub extends_self : (s : Searched S) → length s.listed.orders ≤ s.most → Extends s s
  extends_self s room = record { begin = refl; guards = refl; most = refl; may = refl; more = []; orders = sym (append-nil s.listed.orders); room = room }

  pub extends_join : (a b c : Searched S) → Extends a b → Extends b c → Extends a c
  extends_join a b c one other = record {
    begin = other.begin ∙ one.begin;
    guards = other.guards ∙ one.guards;
    most = other.most ∙ one.most;
    may = other.may ∙ one.may;
    more = one.more ++ other.more;
    orders = other.orders ∙ ap (λ (os : List (List Action)). os ++ other.more) one.orders ∙ append_assoc a.listed.orders one.more other.more;
    room = other.room;
  }

  pub grows_extends : (old new : Searched S) (order : List Action) → length old.listed.orders ≤ old.most → Grows old new order → Extends old new
  grows_extends old new order room grows = elim grows.orders [
    | inl same ↦ record {
      begin = grows.begin;
      guards = grows.guards;
      most = grows.most;
      may = grows.may;
      more = [];
      orders = same ∙ sym (append-nil old.listed.orders);
      room = omega (arith, ap length same, grows.most);
    }
    | inr more ↦ record {
      begin = grows.begin;
      guards = grows.guards;
      most = grows.most;
      may = grows.may;
      more = order ∷ [];
      orders = more.1;
      room = omega (arith, ap length more.1, length-append old.listed.orders (order ∷ []), grows.most, more.0);
    }
  ]

  abbrev pub grown : Searched S → List (List Action) → Searched S
  grown s more = record { begin = s.begin; guards = s.guards; listed = record { may = s.listed.may; orders = s.listed.orders ++ more }; most = s.most }

  pub is_grown : (old new : Searched S) (e : Extends old new) → grown old e.more ≡ new
  is_grown old new e =
      let begins = sym e.begin in
      let guarded = sym e.guards in
      let mosts = sym e.most in
      let mays = sym e.may in
      let all = sym e.orders in
      λ i. record { begin = begins i; guards = guarded i; listed = record { may = mays i; orders = all i }; most = mosts i }

  pub longer : (old new : Searched S) → Extends old new → length old.listed.orders ≤ length new.listed.orders
  longer old new e = omega (arith, ap length e.orders, length-append old.listed.orders e.more)

  -- the orders stay at their places
  pub order_stays : (old new : Searched S) (place : ℕ) → Extends old new → place < length old.listed.orders → order_at new.listed.orders place ≡ order_at old.listed.orders place
  order_stays old new place e lt = ap (λ (os : List (List Action)). order_at os place) e.orders ∙ get_or_append_left old.listed.orders e.more [] place lt

  pub further_stays : (old new : Searched S) (place index : ℕ) → Extends old new → place < length old.listed.orders → further new.listed place index ≡ further old.listed place index
  further_stays old new place index e lt =
      ap (λ (o : List Action). o ++ get_or new.listed.may index Noop ∷ []) (order_stays old new place e lt)
      ∙ ap (λ (may : List Action). order_at old.listed.orders place ++ get_or may index Noop ∷ []) e.may

  -- where there is no room, nothing more is found
  pub full_stays : (old new : Searched S) → Extends old new → old.most ≤ length old.listed.orders → old ≡ new
  full_stays old new e full =
      let none : e.more ≡ [] = no_more e.more (omega (arith, e.room, e.most, ap length e.orders, length-append old.listed.orders e.more)) in
      let same : old.listed.orders ++ e.more ≡ old.listed.orders = ap (λ (os : List (List Action)). old.listed.orders ++ os) none ∙ append-nil old.listed.orders in
      let back : old ≡ grown old e.more = λ i. record { begin = old.begin; guards = old.guards; listed = record { may = old.listed.may; orders = (sym same) i }; most = old.most } in
      back ∙ is_grown old new e

  -- what is said of the order at a place alone is said of it later, and was before
  pub moved : (P : S → List Guard → List Action → List Action → Type 0) (old new : Searched S) (place : ℕ) → Extends old new → place < length old.listed.orders
      → P old.begin old.guards old.listed.may (order_at old.listed.orders place) → P new.begin new.guards new.listed.may (order_at new.listed.orders place)
  moved P old new place e lt p =
      subst (λ (s : Searched S). P s.begin s.guards s.listed.may (order_at s.listed.orders place)) (is_grown old new e)
      (subst (λ (o : List Action). P old.begin old.guards old.listed.may o) (sym (get_or_append_left old.listed.orders e.more [] place lt)) p)

  pub back : (P : S → List Guard → List Action → List Action → Type 0) (old new : Searched S) (place : ℕ) → Extends old new → place < length old.listed.orders
      → P new.begin new.guards new.listed.may (order_at new.listed.orders place) → P old.begin old.guards old.listed.may (order_at old.listed.orders place)
  back P old new place e lt p =
      subst (λ (o : List Action). P old.begin old.guards old.listed.may o) (get_or_append_left old.listed.orders e.more [] place lt)
      (subst (λ (s : Searched S). P s.begin s.guards s.listed.may (order_at s.listed.orders place)) (sym (is_grown old new e)) p)

module _ {S : Type 0} (next : S → Action → S) (answers : S → Action → List Answer) where
  -- what is said of an order
  abbrev pub follows : ℕ → S → List Guard → List Action → List Action → Type 0
  follows index begin guards may order = MayFollow next answers begin guards order (get_or may index Noop)

  abbrev stays_after : ℕ → S → List Guard → List Action → List Action → Type 0
  stays_after index begin guards may order = LeadAlike next answers begin guards (order ++ get_or may index Noop ∷ []) order

  abbrev quiet : ℕ → S → List Guard → List Action → List Action → Type 0
  quiet count begin guards may order = (index : ℕ) → index < count → follows index begin guards may order → stays_after index begin guards may order

  pub reached_on : (old new : Searched S) (order : List Action) → Extends old new → IsReached next answers old.begin old.guards old.listed.orders order → IsReached next answers new.begin new.guards new.listed.orders order
  reached_on old new order e r =
      subst (λ (s : Searched S). IsReached next answers s.begin s.guards s.listed.orders order) (is_grown old new e) (r.0, has_left r.0 old.listed.orders e.more r.1, r.2)

  pub all_reached_on : (old new : Searched S) (place count : ℕ) → Extends old new → place < length old.listed.orders → AllReached next answers old place count → AllReached next answers new place count
  all_reached_on old new place count e lt all index within may_be =
      subst (λ (o : List Action). IsReached next answers new.begin new.guards new.listed.orders o) (sym (further_stays old new place index e lt))
      (reached_on old new (further old.listed place index) e (all index within (back (follows index) old new place e lt may_be)))

  pub some_missing_on : (old new : Searched S) (place count : ℕ) → Extends old new → SomeMissing next answers old place count → SomeMissing next answers new place count
  some_missing_on old new place count e m = subst (λ (s : Searched S). SomeMissing next answers s place count) (full_stays old new e m.missing.full) m

  pub quiet_on : (old new : Searched S) (place count : ℕ) → Extends old new → place < length old.listed.orders → AreQuiet next answers old place count → AreQuiet next answers new place count
  quiet_on old new place count e lt all = moved (quiet count) old new place e lt all

  pub quiet_back : (old new : Searched S) (place count : ℕ) → Extends old new → place < length old.listed.orders → AreQuiet next answers new place count → AreQuiet next answers old place count
  quiet_back old new place count e lt all = back (quiet count) old new place e lt all

  -- ---- one action more

  -- what is said of the state that one more action leads to
  abbrev There : Searched S → Searched S → ℕ → ℕ → Option ℕ → Type 0
  There old new place k at = MayFollowAt next answers old place k → MatchOption at (IsMissing next answers new (further old.listed place k)) (IsAt next answers new (further old.listed place k))

  abbrev Skips : Searched S → ℕ → ℕ → Option ℕ → Type 0
  Skips old place k at = MayFollowAt next answers old place k ⊎ (at ≡ Some place)

  whole_now : (old new : Searched S) (place k : ℕ) (at : Option ℕ) → Extends old new → place < length old.listed.orders → There old new place k at → Skips old place k at → AllReached next answers old place k
      → MatchBool (is_some at) (AllReached next answers new place (k + 1)) (SomeMissing next answers new place (k + 1))
  whole_now old new place k None e lt there skips all = elim skips [
    | inl may_be ↦ record {
      index = k;
      within = omega arith;
      may_follow = moved (follows k) old new place e lt may_be;
      missing = subst (λ (o : List Action). IsMissing next answers new o) (sym (further_stays old new place k e lt)) (there may_be);
    }
    | inr same ↦ let met : None ≡ Some place = same in absurd (cc)
  ]
  whole_now old new place k (Some at) e lt there skips all = λ index below may_be. elim (cases_lt index k) [
    | inl less ↦ all_reached_on old new place k e lt all index less may_be
    | inr rest ↦
        let same : index ≡ k = omega arith in
        let may_now : MayFollowAt next answers old place k = back (follows k) old new place e lt (subst (λ (j : ℕ). MayFollowAt next answers new place j) same may_be) in
        let is = there may_now in
        subst (λ (j : ℕ). IsReached next answers new.begin new.guards new.listed.orders (further new.listed place j)) (sym same)
        (subst (λ (o : List Action). IsReached next answers new.begin new.guards new.listed.orders o) (sym (further_stays old new place k e lt))
        (order_at new.listed.orders at, has_at new.listed.orders at [] is.within, is.alike))
  ]

  wider : (s : Searched S) (place k : ℕ) → SomeMissing next answers s place k → SomeMissing next answers s place (k + 1)
  wider s place k m = record { index = m.index; within = omega (arith, m.within); may_follow = m.may_follow; missing = m.missing }

  pub whole_more : (old new : Searched S) (place k : ℕ) (at : Option ℕ) (is_whole : Bool) → Extends old new → place < length old.listed.orders → There old new place k at → Skips old place k at
      → MatchBool is_whole (AllReached next answers old place k) (SomeMissing next answers old place k)
      → MatchBool (is_whole && is_some at) (AllReached next answers new place (k + 1)) (SomeMissing next answers new place (k + 1))
  whole_more old new place k at true e lt there skips all = whole_now old new place k at e lt there skips all
  whole_more old new place k at false e lt there skips some = wider new place k (some_missing_on old new place k e some)

  pub quiet_more : (old new : Searched S) (place k : ℕ) (at : Option ℕ) (before after : Bool) → Extends old new → place < length old.listed.orders
      → (MayFollowAt next answers old place k → (at ≡ Some place) ↔ LeadAlike next answers old.begin old.guards (further old.listed place k) (order_at old.listed.orders place))
      → Skips old place k at
      → IsTrue before ↔ AreQuiet next answers old place k → IsTrue after ↔ (IsTrue before × (at ≡ Some place))
      → IsTrue after ↔ AreQuiet next answers new place (k + 1)
  quiet_more old new place k at before after e lt stays skips was is = (
    λ yes. let both = is.0 yes in λ index below may_be. elim (cases_lt index k) [
      | inl less ↦ quiet_on old new place k e lt (was.0 both.0) index less may_be
      | inr rest ↦
          let same : index ≡ k = omega arith in
          let may_now : MayFollowAt next answers old place k = back (follows k) old new place e lt (subst (λ (j : ℕ). MayFollowAt next answers new place j) same may_be) in
          subst (λ (j : ℕ). LeadAlike next answers new.begin new.guards (further new.listed place j) (order_at new.listed.orders place)) (sym same)
          (moved (stays_after k) old new place e lt ((stays may_now).0 both.1))
    ],
    λ all. is.1 (
      was.1 (quiet_back old new place k e lt (λ index below may_be. all index (omega arith) may_be)),
      elim skips [
        | inl may_be ↦ (stays may_be).1 (back (stays_after k) old new place e lt (all k (omega arith) (moved (follows k) old new place e lt may_be)))
        | inr same ↦ same
      ],
    ),
  )
