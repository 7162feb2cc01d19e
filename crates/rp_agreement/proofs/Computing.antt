-- The order that is read off the packets is the order.
use Rattle.std.proofs.Common.{◌≡◌, ℕ, zero, suc, ◌+◌, ◌<◌, ◌≤◌, ◌⊎◌, Bool, true, Option, Some, None, List, [], ◌∷◌, length, map, inl, inr, refl, sym, ap, ◌∙◌, subst, arith}
use Rattle.std.specs.Prelude.{nat_eq, ◌&&◌, find, filter_map, slice_get}
use Rattle.std.specs.Option.{option_map}
use Rattle.std.specs.List.{cons_option}
use Rattle.std.proofs.lemmas.Bool.{cases_Bool, cond-true, cond-false, both_ways, and_parts, and_from, eq-eqb, cases_lt}
use Rattle.std.proofs.lemmas.List.{length-map}
use Rattle.std.proofs.Common.{get_or}
use Rattle.std.proofs.lemmas.Option.{slice_get-get_or}
use Rattle.rp_machine.proofs.Numbering.{length-one_to}
use Rattle.rp_base.specs.declared.action.Action.{Action}
use Rattle.rp_base.specs.declared.action.Action.TheVariants.{Noop}
use Rattle.rp_base.specs.declared.record.Vote.{Vote}
use Rattle.rp_base.specs.Sets.{Has, IsSet}
use Rattle.rp_base.specs.Promises.{HeardVote, makes_majority}
use Rattle.rp_base.specs.Records.{unless_missing}
use Rattle.rp_base.proofs.Members.{has_mapped, set_fits, set_more, has_split}
use Rattle.rp_codec.specs.Message.{Message}
use Rattle.rp_codec.specs.declared.packet.Party.{Party}
use Rattle.rp_codec.specs.declared.packet.Party.TheVariants.{Node, Task, Audit}
use Rattle.rp_codec.specs.declared.packet.Body.{Body}
use Rattle.rp_codec.specs.declared.packet.Body.TheVariants.{Accepted}
use Rattle.rp_machine.specs.Replay.{one_to}
use Rattle.rp_model.specs.Facts.{HasVoted, IsDecided, IsOrder}
use Rattle.rp_agreement.specs.Computed.{vote_by, vote_between, votes_sent, decided_at, decided_run, order_of}
use Rattle.rp_agreement.proofs.Lists.{some_same, has_picked, picked_has, found_has}
use Rattle.rp_agreement.proofs.Counting.{majority_decides, decided_counts, decided_voter}

-- ---- the votes that were sent

abbrev IsVoteOf : Body → ℕ → HeardVote → Type 0
IsVoteOf body a h = (h.0 ≡ a) × (body ≡ Accepted h.1 h.2.ballot h.2.action)

vote_is : (a : ℕ) (body : Body) (h : HeardVote) → vote_by a body ≡ Some h → IsVoteOf body a h
vote_is a (Accepted position ballot action) h e =
    let stated : HeardVote = (a, position, record { ballot = ballot; action = action }) in
    let same : stated ≡ h = some_same e in
    (λ k. (sym same k).0, λ k. Accepted (same k).1 (same k).2.ballot (same k).2.action)
vote_is a _ h e = absurd (cc)

between_is : (sent : List Message) (from to : Party) (body : Body) (h : HeardVote) → Has (record { from = from; to = to; body = body }) sent → vote_between from to body ≡ Some h
    → HasVoted sent h.0 h.1 h.2.ballot h.2.action
between_is sent (Node a) (Node to) body h there e =
    let is = vote_is a body h e in
    (to, subst (λ (m : Message). Has m sent) (λ k. record { from = Node (sym is.0 k); to = Node to; body = is.1 k }) there)
between_is sent (Node a) (Task t) body h there e = absurd (cc)
between_is sent (Node a) Audit body h there e = absurd (cc)
between_is sent (Task t) to body h there e = absurd (cc)
between_is sent Audit to body h there e = absurd (cc)

abbrev vote_of : Message → Option HeardVote
vote_of m = vote_between m.from m.to m.body

was_sent : (sent : List Message) (h : HeardVote) → Has h (votes_sent sent) → HasVoted sent h.0 h.1 h.2.ballot h.2.action
was_sent sent h stated = let from = has_picked vote_of h sent stated in between_is sent from.0.from from.0.to from.0.body h from.1 from.2

is_sent_vote : (sent : List Message) (a i : ℕ) (w : Vote) → HasVoted sent a i w.ballot w.action → Has (a, i, w) (votes_sent sent)
is_sent_vote sent a i w voted =
    picked_has vote_of (record { from = Node a; to = Node voted.0; body = Accepted i w.ballot w.action }) (let h : HeardVote = (a, i, w) in h) sent voted.1 refl

-- ---- what a search finds

none_passes : {A : Type 0} (test : A → Bool) (x : A) (xs : List A) → find test xs ≡ None → Has x xs → ¬ (test x ≡ true)
none_passes test x [] e h passing = h
none_passes {A} test x (y ∷ xs) e h passing =
    elim (cases_Bool (test y)) [
      | inl hit ↦ let found : Some y ≡ None = sym (cond-true (test y) (Some y) (find test xs) hit) ∙ e in absurd (cc)
      | inr miss ↦ elim h [
        | inl same ↦ both_ways (test y) miss (ap test (sym same) ∙ passing)
        | inr later ↦ none_passes test x xs (sym (cond-false (test y) (Some y) (find test xs) miss) ∙ e) later passing
      ]
    ]

-- ---- the numbers 1 to n

in_one_to : (n i : ℕ) → Has i (one_to n) → (k : ℕ) × (i ≡ suc k) × (k < n)
in_one_to zero i h = absurd h
in_one_to (suc n) i h =
    elim (has_split i (one_to n) (suc n ∷ []) h) [
      | inl before ↦ let is = in_one_to n i before in (is.0, is.1, omega (arith, is.2))
      | inr last ↦ elim last [ inl same ↦ (n, same, omega arith) | inr none ↦ absurd none ]
    ]

one_to_set : (n : ℕ) → IsSet (one_to n)
one_to_set zero = tt
one_to_set (suc n) = set_more (one_to n) (suc n) (one_to_set n) (λ h. let is = in_one_to n (suc n) h in omega (arith, is.1, is.2))

length-filter_map : {A B : Type 0} (pick : A → Option B) (xs : List A) → length (filter_map pick xs) ≤ length xs
length-filter_map pick [] = omega arith
length-filter_map {A} {B} pick (x ∷ xs) = by (pick x) (length-filter_map pick xs)
  where
    by : (o : Option B) → length (filter_map pick xs) ≤ length xs → length (cons_option o (filter_map pick xs)) ≤ suc (length xs)
    by None shorter = omega (arith, shorter)
    by (Some y) shorter = omega (arith, shorter)

-- ---- what is decided at a position

module _ (nodes : ℕ) (sent : List Message) where
  abbrev wins : ℕ → HeardVote → Bool
  wins i h = nat_eq h.1 i && makes_majority nodes i h.2 (votes_sent sent)

  at_is_decided : (i : ℕ) (v : Action) → decided_at nodes sent i ≡ Some v → IsDecided nodes sent i v
  at_is_decided i v e = by (find (wins i) (votes_sent sent)) refl e
    where
      by : (o : Option HeardVote) → find (wins i) (votes_sent sent) ≡ o → option_map (λ h. h.2.action) o ≡ Some v → IsDecided nodes sent i v
      by None found e = absurd (cc)
      by (Some h) found e =
          let is = found_has (wins i) h (votes_sent sent) found in
          let same : h.2.action ≡ v = some_same e in
          subst (IsDecided nodes sent i) same (majority_decides nodes sent i h.2 (votes_sent sent) (λ a stated. was_sent sent (let k : HeardVote = (a, i, h.2) in k) stated) (and_parts _ _ is.1).1)

  decided_is_found : (i : ℕ) (v : Action) → IsDecided nodes sent i v → ¬ (decided_at nodes sent i ≡ None)
  decided_is_found i v decided e = by (find (wins i) (votes_sent sent)) refl e
    where
      by : (o : Option HeardVote) → find (wins i) (votes_sent sent) ≡ o → option_map (λ h. h.2.action) o ≡ None → ⊥
      by (Some h) found e = absurd (cc)
      by None found e =
          let vote : Vote = record { ballot = decided.ballot; action = v } in
          let voter = decided_voter nodes sent i v decided in
          let h : HeardVote = (voter.0, i, vote) in
          none_passes (wins i) h (votes_sent sent) found (is_sent_vote sent voter.0 i vote voter.1)
          (and_from _ _ (eq-eqb i i refl) (decided_counts nodes sent i v decided (votes_sent sent) (λ a w stated. is_sent_vote sent a i w stated)))

  -- ---- the run of decided actions

  run_is_decided : (most i k : ℕ) (v : Action) → slice_get (decided_run nodes sent most i) k ≡ Some v → IsDecided nodes sent (k + i) v
  run_is_decided zero i k v e = absurd (cc)
  run_is_decided (suc most) i k v e = by (decided_at nodes sent i) refl k e (run_is_decided most (suc i))
    where
      by : (o : Option Action) → decided_at nodes sent i ≡ o → (k : ℕ) → slice_get (unless_missing o (decided_run nodes sent most (suc i))) k ≡ Some v
          → ((k : ℕ) (v : Action) → slice_get (decided_run nodes sent most (suc i)) k ≡ Some v → IsDecided nodes sent (k + suc i) v) → IsDecided nodes sent (k + i) v
      by None is k e later = absurd (cc)
      by (Some found) is zero e later = let same : i ≡ 0 + i = omega arith in subst (λ (j : ℕ). IsDecided nodes sent j v) same (at_is_decided i v (is ∙ e))
      by (Some found) is (suc k) e later = let same : k + suc i ≡ suc k + i = omega arith in subst (λ (j : ℕ). IsDecided nodes sent j v) same (later k v e)

  -- it ends where nothing is decided, or with n actions
  run_ends : (most i : ℕ) → (decided_at nodes sent (length (decided_run nodes sent most i) + i) ≡ None) ⊎ (length (decided_run nodes sent most i) ≡ most)
  run_ends zero i = inr refl
  run_ends (suc most) i = by (decided_at nodes sent i) refl (run_ends most (suc i))
    where
      by : (o : Option Action) → decided_at nodes sent i ≡ o
          → (decided_at nodes sent (length (decided_run nodes sent most (suc i)) + suc i) ≡ None) ⊎ (length (decided_run nodes sent most (suc i)) ≡ most)
          → (decided_at nodes sent (length (unless_missing o (decided_run nodes sent most (suc i))) + i) ≡ None) ⊎ (length (unless_missing o (decided_run nodes sent most (suc i))) ≡ suc most)
      by None is later = let same : i ≡ 0 + i = omega arith in inl (subst (λ (j : ℕ). decided_at nodes sent j ≡ None) same is)
      by (Some found) is later =
          let rest = length (decided_run nodes sent most (suc i)) in
          let same : rest + suc i ≡ suc rest + i = omega arith in
          elim later [
            | inl ends ↦ inl (subst (λ (j : ℕ). decided_at nodes sent j ≡ None) same ends)
            | inr full ↦ inr (ap suc full)
          ]

  -- ---- there are no more decided positions than packets

  each_decided : (most k : ℕ) → k < length (decided_run nodes sent most 1) → (v : Action) × IsDecided nodes sent (suc k) v
  each_decided most k within =
      let run = decided_run nodes sent most 1 in
      let v = get_or run k Noop in
      let same : k + 1 ≡ suc k = omega arith in
      (v, subst (λ (i : ℕ). IsDecided nodes sent i v) same (run_is_decided most 1 k v (slice_get-get_or run k Noop within)))

  has_position : (i : ℕ) (v : Action) → IsDecided nodes sent i v → Has i (map (λ h. h.1) (votes_sent sent))
  has_position i v decided =
      let voter = decided_voter nodes sent i v decided in
      let h : HeardVote = (voter.0, i, record { ballot = decided.ballot; action = v }) in
      has_mapped (λ (k : HeardVote). k.1) h (votes_sent sent) (is_sent_vote sent voter.0 i h.2 voter.1)

  not_too_many : (n : ℕ) → ((k : ℕ) → k < n → (v : Action) × IsDecided nodes sent (suc k) v) → n ≤ length sent
  not_too_many n each =
      let fits : length (one_to n) ≤ length (map (λ (h : HeardVote). h.1) (votes_sent sent)) =
      set_fits (one_to n) (map (λ h. h.1) (votes_sent sent)) (one_to_set n)
      (λ i there. let is = in_one_to n i there in let decided = each is.0 is.2 in subst (λ (j : ℕ). Has j (map (λ h. h.1) (votes_sent sent))) (sym is.1) (has_position (suc is.0) decided.0 decided.1)) in
      omega (arith, fits, length-one_to n, length-map (votes_sent sent) (λ (h : HeardVote). h.1), length-filter_map vote_of sent)

  -- what is read off the packets is the order
  pub order_is : IsOrder nodes sent (order_of nodes sent)
  order_is =
      let order = order_of nodes sent in
      let next : length order + 1 ≡ suc (length order) = omega arith in
      record {
        decided = λ k v e. let same : k + 1 ≡ suc k = omega arith in subst (λ (i : ℕ). IsDecided nodes sent i v) same (run_is_decided (length sent) 1 k v e);
        longest = λ v decided.
            elim (run_ends (length sent) 1) [
              | inl ends ↦ decided_is_found (suc (length order)) v decided (subst (λ (i : ℕ). decided_at nodes sent i ≡ None) next ends)
              | inr full ↦
                  let many = not_too_many (suc (length order)) (λ k below.
                  elim (cases_lt k (length order)) [
                    | inl within ↦ each_decided (length sent) k within
                    | inr past ↦ let same : length order ≡ k = omega (arith, below, past) in (v, subst (λ (i : ℕ). IsDecided nodes sent (suc i) v) same decided)
                  ]) in
                  omega (arith, many, full)
            ];
      }
