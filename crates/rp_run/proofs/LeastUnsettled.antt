-- The least number that passes a test, among the numbers from 1.
use Rattle.std.proofs.Common.{inl, inr, ◌≡◌, ℕ, zero, suc, ◌<◌, ◌≤◌, Bool, true, false, not, cond, Option, Some, None, [], ◌∷◌, length, arith, refl, sym, ap, ◌∙◌}
use Rattle.std.specs.Prelude.{find}
use Rattle.std.specs.Option.{option_or}
use Rattle.std.proofs.lemmas.List.Folds.{find-append}
use Rattle.std.proofs.str.Laws.{order}
use Rattle.rp_model.specs.rp_machine.specs.Replay.{one_to}
use Rattle.rp_run.specs.Output.{Play, is_among, least_unsettled}
use Rattle.rp_run.specs.Runs.{Follows}
use Rattle.rp_run.specs.Settled.{is_settled}
use Rattle.rp_run.specs.declared.settled.Settled.{Settled}
use Rattle.rp_model.specs.World.{World}

-- one number more
find_more : (test : ℕ → Bool) (n : ℕ) → find test (one_to n) ≡ None → find test (one_to (suc n)) ≡ cond (test (suc n)) (Some (suc n)) None
find_more test n none =
    find-append test (one_to n) (suc n ∷ []) ∙ ap (λ (o : Option ℕ). option_or o (find test (suc n ∷ []))) none

none_below : (test : ℕ → Bool) (least n : ℕ) → n < least → ((m : ℕ) → 1 ≤ m → m < least → test m ≡ false) → find test (one_to n) ≡ None
none_below test least zero below fails = refl
none_below test least (suc n) below fails =
    find_more test n (none_below test least n (omega arith) fails)
    ∙ ap (λ (b : Bool). cond b (Some (suc n)) None) (fails (suc n) (omega arith) below)

first_at : (test : ℕ → Bool) (least n : ℕ) → 1 ≤ least → least ≤ n → ((m : ℕ) → 1 ≤ m → m < least → test m ≡ false) → test least ≡ true
    → find test (one_to n) ≡ Some least
first_at test least zero one within fails passes = absurd (omega arith)
first_at test least (suc n) one within fails passes =
    elim (order n least) [
      | inl below ↦
          let last : suc n ≡ least = omega arith in
          find_more test n (none_below test least n below fails)
          ∙ ap (λ (k : ℕ). cond (test k) (Some k) None) last
          ∙ ap (λ (b : Bool). cond b (Some least) None) passes
      | inr above ↦
          find-append test (one_to n) (suc n ∷ [])
          ∙ ap (λ (o : Option ℕ). option_or o (find test (suc n ∷ []))) (first_at test least n one above fails passes)
    ]

-- what a run's settled messages say of a play that it follows
module _ (world : World) (known : Settled) (play : Play) (follows : Follows world known play) (least : ℕ)
    (settled : (m : ℕ) → 1 ≤ m → m < least → is_settled known m ≡ true) where
  fails : (m : ℕ) → 1 ≤ m → m < least → not (is_among play.settled m) ≡ false
  fails m one below = ap not (sym (follows.settled_are m) ∙ settled m one below)

  sent : length world.sent ≡ length play.world.sent
  sent = ap (λ w. length w.sent) follows.world_is

  -- none is left
  pub none_is_left : length world.sent < least → least_unsettled play ≡ None
  none_is_left past = none_below (λ m. not (is_among play.settled m)) least (length play.world.sent) (omega (arith, sent)) fails

  -- the least number is the one
  pub least_is_left : 1 ≤ least → least ≤ length world.sent → is_settled known least ≡ false → least_unsettled play ≡ Some least
  least_is_left one within unsettled =
      first_at (λ m. not (is_among play.settled m)) least (length play.world.sent) one (omega (arith, sent)) fails
      (ap not (sym (follows.settled_are least) ∙ unsettled))
