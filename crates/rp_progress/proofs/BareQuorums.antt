-- A bare majority among the nodes of a quorum, with its leader; and what goes on by the fewer goes on
-- by the more.
use Rattle.std.proofs.Common.{◌≡◌, ℕ, zero, suc, ◌≤◌, ◌+◌, ◌/◌, List, [], ◌∷◌, ◌++◌, length, inl, inr, refl, sym, ap, subst, ◌∙◌, arith}
use Rattle.rp_base.specs.Sets.{Has, IsSet}
use Rattle.rp_codec.specs.declared.packet.Party.{Party}
use Rattle.rp_codec.specs.declared.packet.Party.TheVariants.{Node, Task, Audit}
use Rattle.rp_model.specs.Effect.{Setting}
use Rattle.rp_model.specs.Events.{Step, Deliver, Lead, LeadRange, Interrupt, Tick, Report, Ask}
use Rattle.rp_model.specs.Events.{Event, Submit, Again, Makes, Cut, Stop, Restart}
use Rattle.rp_model.specs.World.{World}
use Rattle.rp_possible.specs.Rounds.{IsOneOf, IsTheirStep, IsTheirs, GoesOnBy, IsBareQuorum}
use Rattle.rp_progress.specs.Waiting.{IsQuorum}

-- ---- a part of a set

-- a set of so many members of this list
pub record AreAmong (all : List ℕ) (n : ℕ) : Type 0 where
  pub chosen : List ℕ
  pub set : IsSet chosen
  pub long : length chosen ≡ n
  pub inside : (y : ℕ) → Has y chosen → Has y all

front : (n : ℕ) (all : List ℕ) → IsSet all → n ≤ length all → AreAmong all n
front zero all set enough = record { chosen = []; set = tt; long = refl; inside = λ y h. absurd h }
front (suc n) [] set enough = absurd (omega (arith, enough))
front (suc n) (x ∷ xs) set enough =
    let rest = front n xs set.1 (omega (arith, enough)) in
    record {
      chosen = x ∷ rest.chosen;
      set = (λ h. set.0 (rest.inside x h), rest.set);
      long = ap suc rest.long;
      inside = λ y h. elim h [ inl same ↦ inl same | inr later ↦ inr (rest.inside y later) ];
    }

-- one that has this member
front_with : (n : ℕ) (all : List ℕ) (x : ℕ) → IsSet all → Has x all → suc n ≤ length all → (part : AreAmong all (suc n)) × Has x part.chosen
front_with n [] x set has enough = absurd has
front_with zero (y ∷ ys) x set has enough =
    (record { chosen = x ∷ []; set = (λ h. h, tt); long = refl; inside = λ z h. elim h [ inl same ↦ subst (λ (a : ℕ). Has a (y ∷ ys)) (sym same) has | inr none ↦ absurd none ] }, inl refl)
front_with (suc n) (y ∷ ys) x set has enough =
    elim has [
      | inl same ↦
          let rest = front (suc n) ys set.1 (omega (arith, enough)) in (
            record {
              chosen = y ∷ rest.chosen;
              set = (λ h. set.0 (rest.inside y h), rest.set);
              long = ap suc rest.long;
              inside = λ z h. elim h [ inl e ↦ inl e | inr later ↦ inr (rest.inside z later) ];
            },
            inl same,
          )
      | inr there ↦
          let rest = front_with n ys x set.1 there (omega (arith, enough)) in (
            record {
              chosen = y ∷ rest.0.chosen;
              set = (λ h. set.0 (rest.0.inside y h), rest.0.set);
              long = ap suc rest.0.long;
              inside = λ z h. elim h [ inl e ↦ inl e | inr later ↦ inr (rest.0.inside z later) ];
            },
            inr rest.1,
          )
    ]

-- a bare majority of a quorum, with the leader
pub record HasBare {S : Type 0} (s : Setting S) (quorum : List ℕ) (leader : ℕ) : Type 0 where
  pub bare : List ℕ
  pub is_bare : IsBareQuorum s bare leader
  pub inside : (y : ℕ) → Has y bare → Has y quorum

pub has_bare : {S : Type 0} (s : Setting S) (quorum : List ℕ) (leader : ℕ) → IsQuorum s.config.nodes quorum leader → HasBare s quorum leader
has_bare s quorum leader is =
    let m = s.config.nodes / 2 in
    let enough : suc m ≤ length quorum = omega (arith, is.majority) in
    let part = front_with m quorum leader is.members.distinct is.leads enough in
    record {
      bare = part.0.chosen;
      is_bare = record {
        nodes = record { members = λ x h. is.members.members x (part.0.inside x h); distinct = part.0.set };
        bare = part.0.long ∙ (let e : suc m ≡ m + 1 = omega arith in e);
        leader = part.1;
      };
      inside = part.0.inside;
    }

-- ---- more nodes, and fewer packets of before

module _ (quorum others : List ℕ) (t first earlier : ℕ) (inside : (y : ℕ) → Has y quorum → Has y others) (less : earlier ≤ first) where
  one_of_more : (party : Party) → IsOneOf quorum t party → IsOneOf others t party
  one_of_more (Node k) is = inside k is
  one_of_more (Task u) is = is
  one_of_more Audit is = is

  step_of_more : (w : World) (step : Step) → IsTheirStep quorum t first w step → IsTheirStep others t earlier w step
  step_of_more w (Deliver number) is = (omega (arith, is.0, less), (is.1.0, is.1.1, one_of_more is.1.0.to is.1.2, is.1.3))
  step_of_more w (Lead me choice) is = inside me is
  step_of_more w (LeadRange me position count) is = is
  step_of_more w (Interrupt me source occurrence) is = is
  step_of_more w (Tick me now) is = is
  step_of_more w (Report me position) is = is
  step_of_more w (Ask me to) is = is

  of_more : (w : World) (event : Event) → IsTheirs quorum t first w event → IsTheirs others t earlier w event
  of_more w (Submit task node object operation arg) is = (is.0, inside node is.1)
  of_more w (Again task node) is = (is.0, inside node is.1)
  of_more w (Makes step) is = step_of_more w step is
  of_more w (Cut step kept) is = is
  of_more w (Stop me) is = inside me is
  of_more w (Restart me) is = inside me is

  pub goes_by_more : {S : Type 0} (s : Setting S) (w : World) (events : List Event) (after : World) → GoesOnBy s quorum t first w events after → GoesOnBy s others t earlier w events after
  goes_by_more s w [] after goes = goes
  goes_by_more s w (event ∷ rest) after goes =
      (goes.0, goes.1, goes.2, of_more w event goes.3, goes_by_more s goes.0.world rest after goes.4)

-- ---- one after another

module _ {S : Type 0} (s : Setting S) (quorum : List ℕ) (t first : ℕ) where
  pub goes_then : (w : World) (events : List Event) (middle : World) (more : List Event) (after : World) → GoesOnBy s quorum t first w events middle
      → GoesOnBy s quorum t first middle more after → GoesOnBy s quorum t first w (events ++ more) after
  goes_then w [] middle more after goes on = subst (λ (v : World). GoesOnBy s quorum t first v more after) goes on
  goes_then w (event ∷ rest) middle more after goes on =
      (goes.0, goes.1, goes.2, goes.3, goes_then goes.0.world rest middle more after goes.4 on)
