-- A replay gives at most as many answers as there are actions: each is for a call that counted, and no
-- call is answered twice.
use Rattle.std.proofs.Common.{◌≡◌, suc, ◌+◌, ◌≤◌, Bool, true, false, List, [], ◌∷◌, ◌++◌, ◌⊎◌, length, map, if◌then◌else◌, inl, inr, refl, sym, ap, subst, ◌∙◌, arith}
use Rattle.std.proofs.lemmas.List.{length-append, length-map}
use Rattle.rp_base.specs.Sets.{Has, IsSet}
use Rattle.rp_base.specs.declared.action.Action.{Action}
use Rattle.rp_base.specs.declared.action.Action.TheVariants.{Noop, Call, Interrupt, Tick}
use Rattle.rp_base.specs.declared.reply.Answer.{Answer}
use Rattle.rp_machine.specs.Calls.{CallName, calls_of, calls_made, call_of}
use Rattle.rp_machine.specs.Replay.{counts, Replayed, unmoved, replay_step, replay_from, replay_of}

-- ---- a set within a list is no longer than the list

-- the list without one member, which it has
without : {A : Type 0} (x : A) (ys : List A) → Has x ys
    → (rest : List A) × (length ys ≡ suc (length rest)) × ((y : A) → Has y ys → (y ≡ x) ⊎ Has y rest)
without x [] h = absurd h
without x (z ∷ zs) h =
    elim h [
      | inl same ↦ (zs, refl, λ y there. elim there [ inl here ↦ inl (here ∙ sym same) | inr later ↦ inr later ])
      | inr following ↦
          let left = without x zs following in (
            z ∷ left.0,
            ap suc left.1,
            λ y there. elim there [
              | inl here ↦ inr (inl here)
              | inr later ↦ elim (left.2 y later) [ inl same ↦ inl same | inr other ↦ inr (inr other) ]
            ],
          )
    ]

pub set_within : {A : Type 0} (xs ys : List A) → IsSet xs → ((x : A) → Has x xs → Has x ys) → length xs ≤ length ys
set_within [] ys set inside = omega arith
set_within {A} (x ∷ xs) ys set inside =
    let left = without x ys (inside x (inl refl)) in
    let fewer : length xs ≤ length left.0 = set_within xs left.0 set.1 (λ y h. elim (left.2 y (inside y (inr h))) [
      | inl same ↦ absurd (set.0 (subst (λ (z : A). Has z xs) same h))
      | inr other ↦ other
    ]) in
    let size : length ys ≡ suc (length left.0) = left.1 in
    omega (arith, fewer, size)

-- ---- an action makes one call at most, and counts once at most

one_call : (action : Action) → length (calls_of action) ≤ 1
one_call Noop = omega arith
one_call (Call task number object operation arg) = omega arith
one_call (Interrupt source occurrence) = omega arith
one_call (Tick now) = omega arith

pub calls_few : (actions : List Action) → length (calls_made actions) ≤ length actions
calls_few [] = omega arith
calls_few (action ∷ rest) =
    let first : length (calls_of action) ≤ 1 = one_call action in
    let others : length (calls_made rest) ≤ length rest = calls_few rest in
    let both : length (calls_of action ++ calls_made rest) ≡ length (calls_of action) + length (calls_made rest) = length-append (calls_of action) (calls_made rest) in
    omega (arith, first, others, both)

module _ {S : Type 0} (next : S → Action → S) (answers : S → Action → List Answer) where
  abbrev taken : Replayed S → Action → Replayed S
  taken r action = record { state = next r.state action; kept = r.kept ++ action ∷ []; given = r.given ++ answers r.state action }

  kept_if : (r : Replayed S) (action : Action) (test : Bool) → (let after = (if test then taken r action else r) in length after.kept ≤ length r.kept + 1)
  kept_if r action true =
      let more : length (r.kept ++ action ∷ []) ≡ length r.kept + 1 = length-append r.kept (action ∷ []) in
      omega (arith, more)
  kept_if r action false = omega arith

  kept_from : (r : Replayed S) (rest : List Action) → length (replay_from next answers r rest).kept ≤ length r.kept + length rest
  kept_from r [] = omega arith
  kept_from r (action ∷ rest) =
      let step = replay_step next answers r action in
      let one : length step.kept ≤ length r.kept + 1 = kept_if r action (counts r.kept r.given action) in
      let more : length (replay_from next answers step rest).kept ≤ length step.kept + length rest = kept_from step rest in
      omega (arith, one, more)

  -- so there are few answers, where each call that is answered counted, and no call is answered twice
  pub few_answers : (begin : S) (actions : List Action) → (let r = replay_of next answers begin actions in
      IsSet (map call_of r.given) → ((call : CallName) → Has call (map call_of r.given) → Has call (calls_made r.kept)) → length r.given ≤ length actions)
  few_answers begin actions once known =
      let r = replay_of next answers begin actions in
      let answered : length (map call_of r.given) ≤ length (calls_made r.kept) = set_within (map call_of r.given) (calls_made r.kept) once known in
      let same : length (map call_of r.given) ≡ length r.given = length-map r.given call_of in
      let calls : length (calls_made r.kept) ≤ length r.kept = calls_few r.kept in
      let kept : length r.kept ≤ 0 + length actions = kept_from (unmoved begin) actions in
      omega (arith, answered, same, calls, kept)
