-- The derived tests for equality decide which actions and votes are equal.
use Rattle.std.proofs.Common.{◌≡◌, ℕ, Bool, true, refl, ap, subst}
use Rattle.std.specs.Bool.{Decides}
use Rattle.std.proofs.lemmas.Bool.{false≢true, eqb-true, eq-eqb, and_parts, and_from}
use Rattle.std.proofs.lemmas.Bool.Decides.{Decides-int_eq}
use Rattle.rp_base.specs.declared.action.Operation.{Operation}
use Rattle.rp_base.specs.declared.action.Operation.TheVariants.{Function, Procedure, Entry, SetTimer, CancelTimer}
use Rattle.rp_base.specs.declared.action.Action.{Action}
use Rattle.rp_base.specs.declared.action.Action.TheVariants.{Noop, Call, Interrupt, Tick}
use Rattle.rp_base.specs.declared.record.Vote.{Vote}
use Rattle.rp_base.specs.Action.{same_operation, same_action}
use Rattle.rp_base.specs.Promises.{HeardVote, same_vote, same_heard}

operation_equal : (p r : Operation) → same_operation p r ≡ true → p ≡ r
operation_equal (Function a) (Function b) h = ap Function (eqb-true a b h)
operation_equal (Procedure a) (Procedure b) h = ap Procedure (eqb-true a b h)
operation_equal (Entry a) (Entry b) h = ap Entry (eqb-true a b h)
operation_equal (SetTimer a) (SetTimer b) h = ap SetTimer (eqb-true a b h)
operation_equal (CancelTimer a) (CancelTimer b) h = ap CancelTimer (eqb-true a b h)
operation_equal p r h = absurd (false≢true h)

operation_same : (p : Operation) → same_operation p p ≡ true
operation_same (Function a) = eq-eqb a a refl
operation_same (Procedure a) = eq-eqb a a refl
operation_same (Entry a) = eq-eqb a a refl
operation_same (SetTimer a) = eq-eqb a a refl
operation_same (CancelTimer a) = eq-eqb a a refl

action_equal : (v w : Action) → same_action v w ≡ true → v ≡ w
action_equal Noop Noop h = refl
action_equal (Call t n o p a) (Call u m q r b) h =
    let last = and_parts _ _ h in
    let fourth = and_parts _ _ last.0 in
    let third = and_parts _ _ fourth.0 in
    let first = and_parts _ _ third.0 in
    let task : t ≡ u = eqb-true t u first.0 in
    let number : n ≡ m = eqb-true n m first.1 in
    let object : o ≡ q = eqb-true o q third.1 in
    let operation : p ≡ r = operation_equal p r fourth.1 in
    let arg : a ≡ b = (Decides-int_eq a b).0 last.1 in
    cc
action_equal (Interrupt s n) (Interrupt t m) h =
    let both = and_parts _ _ h in
    let source : s ≡ t = eqb-true s t both.0 in
    let occurrence : n ≡ m = eqb-true n m both.1 in
    cc
action_equal (Tick a) (Tick b) h = ap Tick (eqb-true a b h)
action_equal v w h = absurd (false≢true h)

action_same : (v : Action) → same_action v v ≡ true
action_same Noop = refl
action_same (Call t n o p a) =
    and_from _ _ (and_from _ _ (and_from _ _ (and_from _ _ (eq-eqb t t refl) (eq-eqb n n refl)) (eq-eqb o o refl)) (operation_same p)) ((Decides-int_eq a a).1 refl)
action_same (Interrupt s n) = and_from _ _ (eq-eqb s s refl) (eq-eqb n n refl)
action_same (Tick a) = eq-eqb a a refl

-- a test that gives true at equal values gives true where the values are equal
pub decides_same : {A : Type 0} (same : A → A → Bool) → ((x : A) → same x x ≡ true) → (x y : A) → (same x y ≡ true → x ≡ y) → Decides (same x y) (x ≡ y)
decides_same {A} same itself x y equal = (equal, λ e. subst (λ (z : A). same x z ≡ true) e (itself x))

pub vote_equal : (v w : Vote) → same_vote v w ≡ true → v ≡ w
vote_equal v w h =
    let both = and_parts _ _ h in
    let ballot : v.ballot ≡ w.ballot = eqb-true v.ballot w.ballot both.0 in
    let action : v.action ≡ w.action = action_equal v.action w.action both.1 in
    ap (λ (p : ℕ × Action). record { ballot = p.0; action = p.1 }) (λ i. (ballot i, action i))

pub vote_same : (v : Vote) → same_vote v v ≡ true
vote_same v = and_from _ _ (eq-eqb v.ballot v.ballot refl) (action_same v.action)

heard_equal : (h k : HeardVote) → same_heard h k ≡ true → h ≡ k
heard_equal h k e =
    let all = and_parts _ _ e in
    let first = and_parts _ _ all.0 in
    let from : h.0 ≡ k.0 = eqb-true h.0 k.0 first.0 in
    let position : h.1 ≡ k.1 = eqb-true h.1 k.1 first.1 in
    let vote : h.2 ≡ k.2 = vote_equal h.2 k.2 all.1 in
    λ i. (from i, position i, vote i)

pub heard_decides : (h k : HeardVote) → Decides (same_heard h k) (h ≡ k)
heard_decides h k =
    decides_same same_heard (λ x. and_from _ _ (and_from _ _ (eq-eqb x.0 x.0 refl) (eq-eqb x.1 x.1 refl)) (vote_same x.2)) h k (heard_equal h k)

pub action_decides : (v w : Action) → Decides (same_action v w) (v ≡ w)
action_decides v w = decides_same same_action action_same v w (action_equal v w)
