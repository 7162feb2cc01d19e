-- The leader leads again and again, until its ballot is of the next round.
use Rattle.std.proofs.Common.{◌≡◌, ℕ, zero, suc, ◌+◌, ◌*◌, ◌<◌, ◌≤◌, ◌^◌, max, Option, Some, None, List, [], length, inl, inr, refl, sym, ap, subst, ◌∙◌, arith}
use Rattle.std.proofs.lemmas.Bool.{cases_eq}
use Rattle.rp_base.specs.Ballot.{ballot_of, round_of, next_ballot}
use Rattle.rp_base.specs.Number.{IsNode}
use Rattle.rp_base.specs.Records.{started_of, learned_at, applied_of, first_unlearned}
use Rattle.rp_base.specs.Sets.{Has}
use Rattle.rp_base.specs.declared.action.Action.{Action}
use Rattle.rp_base.specs.declared.record.Rec.{Rec}
use Rattle.rp_base.specs.declared.record.Rec.TheVariants.{Started}
use Rattle.rp_base.proofs.MoreRecords.{started_push}
use Rattle.rp_model.specs.rp_codec.specs.declared.packet.Body.TheVariants.{Prepare}
use Rattle.rp_model.specs.rp_machine.specs.Replay.{counted_of}
use Rattle.rp_model.specs.Effect as nodes
use Rattle.rp_model.specs.Effect.{Setting, running_effect}
use Rattle.rp_model.specs.Parts.{Running}
use Rattle.rp_model.specs.Pending.{own_action}
use Rattle.rp_model.specs.Says.{says_to_all, writes}
use Rattle.rp_model.specs.World.{World}
use Rattle.rp_possible.proofs.Ballots.{starts_low, next_is_above, next_in_round, next_low}
use Rattle.rp_possible.proofs.Growing.{IsAsked, asked_first, one_started}
use Rattle.rp_possible.proofs.Plans.{gathers, opens, leads}
use Rattle.rp_possible.specs.Rounds.{AreRunning, only_pending, kept_after}
use Rattle.rp_possible.proofs.Runs.{first_is_unlearned}
use Rattle.rp_possible.proofs.Stepping.{IsOn, IsMoved, with_written, written_self, known_self, led}
use Rattle.rp_possible.proofs.Walking.{IsBegun, is_node, is_position, wrote_self, wrote_other, AreSent, now_sent}

-- where as much was applied the first unlearned position is the same, and is not learned
pub still_unlearned : (old new : List Rec) → applied_of new ≡ applied_of old → learned_at new (first_unlearned old) ≡ None
still_unlearned old new same =
    subst (λ (p : ℕ). learned_at new p ≡ None) (ap (λ (l : List Action). suc (length l)) same) (first_is_unlearned new)

module _ {S : Type 0} (s : Setting S) (quorum : List ℕ) (t first x : ℕ) (from : World) (records : ℕ → List Rec) (pending : List Action) (round : ℕ) (begun : IsBegun s quorum x records round) (long : first ≤ length from.sent) where
  abbrev p : ℕ
  p = first_unlearned (records x)

  abbrev own : Action
  own = own_action (kept_after s (records x)) [] pending

  -- the leader leads in a ballot, or in none, and each other node is as it was
  pub record IsLeading (w : World) (now : ℕ → List Rec) (o : Option ℕ) : Type 0 where
    pub on : IsOn s quorum t first x from w now (opens pending p own o)
    pub asked : (y : ℕ) → Has y quorum → IsAsked p round (records y) (now y)
    pub started : started_of (now x) < 8 * suc round

  -- it leads in the ballot of the next round, and its questions for promises are sent
  pub record IsLed : Type 0 where
    pub w : World
    pub now : ℕ → List Rec
    pub on : IsOn s quorum t first x from w now (gathers pending p (ballot_of (suc round) x) own [])
    pub asked : (y : ℕ) → Has y quorum → IsAsked p round (records y) (now y)
    pub packets : AreSent quorum first x w (Prepare p (ballot_of (suc round) x))

  abbrev then_wrote : (ℕ → List Rec) → ℕ → ℕ → List Rec
  then_wrote now b = with_written now x (Some (Started b))

  module _ (w : World) (now : ℕ → List Rec) (o : Option ℕ) (leading : IsLeading w now o) where
    node : IsNode x
    node = is_node s quorum x records round begun x begun.bare.leader

    abbrev ballot : ℕ
    ballot = next_ballot x (started_of (now x))

    round_low : round_of ballot ≤ suc round
    round_low = next_low x (started_of (now x)) node round leading.started

    -- it leads once more
    led_once : IsMoved s quorum t first x from w (says_to_all s.config.nodes x (Prepare p ballot)) (then_wrote now ballot) (gathers pending p ballot own [])
    led_once =
        let applied : applied_of (now x) ≡ applied_of (records x) = (leading.asked x begun.bare.leader).follows.applied in
        let unlearned = still_unlearned (records x) (now x) applied in
        let turn = writes (Started ballot) (gathers pending p ballot own []) (says_to_all s.config.nodes x (Prepare p ballot)) in
        let place : p ≡ first_unlearned (now x) = ap (λ (l : List Action). suc (length l)) (sym applied) in
        let same_own : own ≡ own_action (kept_after s (now x)) [] pending = ap (λ (l : List Action). own_action (counted_of s.next s.answers s.begin l) [] pending) (sym applied) in
        let low : round_of ballot < 2 ^ 32 = omega (arith, round_low, begun.left) in
        led s quorum t first x from w now (opens pending p own o) (gathers pending p ballot own []) p turn leading.on begun.bare.leader node (is_position s quorum x records round begun)
        (record {
          result = ap (λ (r : Running). running_effect s x (now x) r (nodes.Lead (Some p))) (known_self x (opens pending p own o))
              ∙ leads s x p (now x) pending begun.position unlearned place own same_own low o;
          becomes = sym (known_self x (gathers pending p ballot own []));
          others = inl refl;
        })

    asked_on : (b : ℕ) → round_of b ≤ suc round → (y : ℕ) → Has y quorum → IsAsked p round (records y) (then_wrote now b y)
    asked_on b low y has =
        elim (cases_eq y x) [
          | inl same ↦ subst (λ (k : ℕ). IsAsked p round (records k) (then_wrote now b k)) (sym same)
              (wrote_self (IsAsked p round (records x)) now x (Some (Started b)) (one_started p round (records x) (now x) b (leading.asked x begun.bare.leader) low))
          | inr other ↦ wrote_other (IsAsked p round (records y)) now x (Some (Started b)) y other (leading.asked y has)
        ]

    then_started : (b : ℕ) → started_of (then_wrote now b x) ≡ max (started_of (now x)) b
    then_started b = ap started_of (written_self now x (Some (Started b))) ∙ started_push (now x) (Started b)

    -- in the ballot of the next round
    led_so : ballot ≡ ballot_of (suc round) x → IsLed
    led_so is =
        let moved = subst (λ (b : ℕ). IsMoved s quorum t first x from w (says_to_all s.config.nodes x (Prepare p b)) (then_wrote now b) (gathers pending p b own [])) is led_once in
        let low : round_of (ballot_of (suc round) x) ≤ suc round = subst (λ (b : ℕ). round_of b ≤ suc round) is round_low in
        record {
          w = moved.after;
          now = then_wrote now (ballot_of (suc round) x);
          on = moved.on;
          asked = asked_on (ballot_of (suc round) x) low;
          packets = now_sent quorum first x w moved.after (Prepare p (ballot_of (suc round) x)) s.config.nodes begun.bare.nodes (omega (arith, long, leading.on.grows)) moved.sent;
        }

    -- in a lower one
    leading_on : ballot < 8 * suc round → IsLeading led_once.after (then_wrote now ballot) (Some ballot)
    leading_on below = record {
      on = led_once.on;
      asked = asked_on ballot round_low;
      started = omega (arith, then_started ballot, leading.started, below);
    }

    leading_more : (fuel : ℕ) → 8 * suc round ≤ started_of (now x) + suc fuel → 8 * suc round ≤ started_of (then_wrote now ballot x) + fuel
    leading_more fuel enough =
        let above : started_of (now x) < ballot = next_is_above x (started_of (now x)) node in
        let is : started_of (then_wrote now ballot x) ≡ max (started_of (now x)) ballot = then_started ballot in
        omega (arith, above, is, enough)

  leads_on : (fuel : ℕ) (w : World) (now : ℕ → List Rec) (o : Option ℕ) → IsLeading w now o → 8 * suc round ≤ started_of (now x) + fuel → IsLed
  leads_on zero w now o leading enough = absurd (omega (arith, leading.started, enough))
  leads_on (suc fuel) w now o leading enough =
      elim (next_in_round x (started_of (now x)) (node w now o leading) round leading.started) [
        | inl is ↦ led_so w now o leading is
        | inr below ↦
            leads_on fuel (led_once w now o leading).after (then_wrote now (ballot w now o leading)) (Some (ballot w now o leading))
            (leading_on w now o leading below) (leading_more w now o leading fuel enough)
      ]

  pub led_up : AreRunning from quorum x records (only_pending pending) → IsLed
  led_up are =
      let on : IsOn s quorum t first x from from records (opens pending p own None) = record { events = []; goes_on = refl; tasks = refl; are = are; grows = omega arith } in
      let leading : IsLeading from records None = record {
        on = on;
        asked = λ y has. asked_first p round (records y) (begun.rounds y has);
        started = starts_low round (records x) (begun.rounds x begun.bare.leader);
      } in
      leads_on (8 * suc round) from records None leading (omega arith)
