-- A round goes through the quorum node by node: what is known of each, and of those that are done.
use Rattle.std.proofs.Common.{◌≡◌, ◌≢◌, ℕ, suc, ◌+◌, ◌<◌, ◌≤◌, ◌^◌, Option, Some, None, List, [], ◌∷◌, ◌++◌, length, inl, inr, refl, sym, ap, subst, ◌∙◌, arith, append_assoc, length-append, true, false}
use Rattle.std.specs.Prelude.{nat_le}
use Rattle.std.proofs.lemmas.Bool.{cases_eq, le-leb, lt-leb}
use Rattle.rp_base.specs.Config.{IsRightConfig}
use Rattle.rp_base.specs.Majority.{AreNodes, majority_of}
use Rattle.rp_base.specs.Number.{IsNode, IsPosition}
use Rattle.rp_base.specs.Records.{first_unlearned}
use Rattle.rp_base.specs.Sets.{Has, IsSet}
use Rattle.rp_base.specs.declared.record.Rec.{Rec}
use Rattle.rp_base.proofs.Members.{has_left, has_right}
use Rattle.rp_model.specs.rp_codec.specs.Message.{Message}
use Rattle.rp_model.specs.rp_codec.specs.declared.packet.Body.{Body}
use Rattle.rp_model.specs.Effect.{Setting}
use Rattle.rp_model.specs.Parts.{with_record}
use Rattle.rp_model.specs.Says.{says, says_to_all}
use Rattle.rp_model.specs.World.{World, part_at}
use Rattle.rp_possible.specs.Rounds.{AreWithinRound, IsBareQuorum}
use Rattle.rp_possible.proofs.Counts.{apart}
use Rattle.rp_possible.proofs.Packets.{part_stays, said_to}
use Rattle.rp_possible.proofs.Stepping.{with_written, written_self, written_other}

-- ---- what a round begins with

pub record IsBegun {S : Type 0} (s : Setting S) (quorum : List ℕ) (x : ℕ) (records : ℕ → List Rec) (round : ℕ) : Type 0 where
  pub config : IsRightConfig s.config
  pub bare : IsBareQuorum s quorum x
  pub position : first_unlearned (records x) ≤ s.config.max_positions
  pub rounds : (y : ℕ) → Has y quorum → AreWithinRound round (records y)
  pub left : suc round < 2 ^ 32

module _ {S : Type 0} (s : Setting S) (quorum : List ℕ) (x : ℕ) (records : ℕ → List Rec) (round : ℕ) (begun : IsBegun s quorum x records round) where
  pub within : (y : ℕ) → Has y quorum → y ≤ s.config.nodes
  within y has = (begun.bare.nodes.members y has).1

  pub is_node : (y : ℕ) → Has y quorum → IsNode y
  is_node y has = let both = begun.bare.nodes.members y has in (both.0, omega (arith, both.1, begun.config.nodes.1))

  pub is_position : IsPosition (first_unlearned (records x))
  is_position = (omega arith, omega (arith, begun.position, begun.config.positions.1))

-- ---- node by node

-- the node y comes next, after those that are done
pub record IsNext (nodes : ℕ) (quorum done : List ℕ) (y : ℕ) (rest : List ℕ) : Type 0 where
  pub has : Has y quorum
  pub new : ¬ Has y done
  pub others : ¬ Has y rest
  pub are : AreNodes nodes (done ++ y ∷ [])

front_set : {A : Type 0} (xs ys : List A) → IsSet (xs ++ ys) → IsSet xs
front_set [] ys set = tt
front_set (x ∷ xs) ys set = (λ h. set.0 (has_left x xs ys h), front_set xs ys set.1)

back_set : {A : Type 0} (xs ys : List A) → IsSet (xs ++ ys) → IsSet ys
back_set [] ys set = set
back_set (x ∷ xs) ys set = back_set xs ys set.1

pub is_next : (nodes : ℕ) (quorum done : List ℕ) (y : ℕ) (rest : List ℕ) → AreNodes nodes quorum → quorum ≡ done ++ y ∷ rest → IsNext nodes quorum done y rest
is_next nodes quorum done y rest are is =
    let set : IsSet (done ++ y ∷ rest) = subst (λ (l : List ℕ). IsSet l) is are.distinct in
    let joined : quorum ≡ (done ++ y ∷ []) ++ rest = is ∙ sym (append_assoc done (y ∷ []) rest) in
    record {
      has = subst (λ (l : List ℕ). Has y l) (sym is) (has_right y done (y ∷ rest) (inl refl));
      new = apart y done rest set;
      others = (back_set done (y ∷ rest) set).0;
      are = record {
        members = λ z h. are.members z (subst (λ (l : List ℕ). Has z l) (sym joined) (has_left z (done ++ y ∷ []) rest h));
        distinct = front_set (done ++ y ∷ []) rest (subst (λ (l : List ℕ). IsSet l) joined are.distinct);
      };
    }

-- What each node but the last goes on with, and the last one ends with, is reached from the beginning.
module _ (quorum : List ℕ) (P : List ℕ → List ℕ → Type 0) (Q : Type 0)
    (more : (done : List ℕ) (y z : ℕ) (rest : List ℕ) → quorum ≡ done ++ y ∷ z ∷ rest → P done (y ∷ z ∷ rest) → P (done ++ y ∷ []) (z ∷ rest))
    (last : (done : List ℕ) (y : ℕ) → quorum ≡ done ++ y ∷ [] → P done (y ∷ []) → Q) where
  walk : (done : List ℕ) (y : ℕ) (rest : List ℕ) → quorum ≡ done ++ y ∷ rest → P done (y ∷ rest) → Q
  walk done y [] is now = last done y is now
  walk done y (z ∷ rest) is now = walk (done ++ y ∷ []) z rest (is ∙ sym (append_assoc done (y ∷ []) (z ∷ rest))) (more done y z rest is now)

  walk_all : (x : ℕ) (nodes : List ℕ) → quorum ≡ nodes → Has x nodes → P [] nodes → Q
  walk_all x [] is has now = absurd has
  walk_all x (y ∷ rest) is has now = walk [] y rest is now

  pub walked : (x : ℕ) → Has x quorum → P [] quorum → Q
  walked x has now = walk_all x quorum refl has now

-- how many are done
pub few_done : (n : ℕ) (quorum done : List ℕ) (y z : ℕ) (rest : List ℕ) → length quorum ≡ majority_of n → quorum ≡ done ++ y ∷ z ∷ rest → nat_le (majority_of n) (length (done ++ y ∷ [])) ≡ false
few_done n quorum done y z rest bare is =
    let all : length quorum ≡ length (done ++ y ∷ z ∷ rest) = ap length is in
    lt-leb (majority_of n) (length (done ++ y ∷ [])) (omega (arith, bare, all, length-append done (y ∷ z ∷ rest), length-append done (y ∷ [])))

pub all_done : (n : ℕ) (quorum done : List ℕ) (y : ℕ) → length quorum ≡ majority_of n → quorum ≡ done ++ y ∷ [] → nat_le (majority_of n) (length (done ++ y ∷ [])) ≡ true
all_done n quorum done y bare is =
    let all : length quorum ≡ length (done ++ y ∷ []) = ap length is in
    le-leb (majority_of n) (length (done ++ y ∷ [])) (omega (arith, bare, all))

-- ---- what each wrote

pub wrote_self : (P : List Rec → Type 0) (now : ℕ → List Rec) (y : ℕ) (written : Option Rec) → P (with_record (now y) written) → P (with_written now y written y)
wrote_self P now y written fact = subst P (sym (written_self now y written)) fact

pub wrote_other : (P : List Rec → Type 0) (now : ℕ → List Rec) (y : ℕ) (written : Option Rec) (z : ℕ) → z ≢ y → P (now z) → P (with_written now y written z)
wrote_other P now y written z other fact = subst P (sym (written_other now y written z other)) fact

pub wrote_nothing : (P : List Rec → Type 0) (now : ℕ → List Rec) (y z : ℕ) → P (now z) → P (with_written now y None z)
wrote_nothing P now y z fact =
    elim (cases_eq z y) [
      | inl same ↦ subst (λ (k : ℕ). P (with_written now y None k)) (sym same) (wrote_self P now y None (subst (λ (k : ℕ). P (now k)) same fact))
      | inr other ↦ wrote_other P now y None z other fact
    ]

-- a member of a list that comes after the first is another one
pub is_other : (y z : ℕ) (list : List ℕ) → ¬ Has y list → Has z list → z ≢ y
is_other y z list none has same = none (subst (λ (k : ℕ). Has k list) same has)

-- ---- what was sent to each

-- a packet of the leader that says this was sent to each node, after the first ones
abbrev pub AreSent : List ℕ → ℕ → ℕ → World → Body → Type 0
AreSent quorum first x w body = (y : ℕ) → Has y quorum → (number : ℕ) × (first < number) × (part_at w.sent number ≡ Some (says x body y))

module _ (quorum : List ℕ) (first x : ℕ) (w after : World) (body : Body) where
  pub still_sent : (packets : List Message) → after.sent ≡ w.sent ++ packets → AreSent quorum first x w body → AreSent quorum first x after body
  still_sent packets sent are y has =
      let one = are y has in
      (one.0, one.1, ap (λ (l : List Message). part_at l one.0) sent ∙ part_stays w.sent packets one.0 (says x body y) one.2)

  pub now_sent : (nodes : ℕ) → AreNodes nodes quorum → first ≤ length w.sent → after.sent ≡ w.sent ++ says_to_all nodes x body → AreSent quorum first x after body
  now_sent nodes are long sent y has =
      let both = are.members y has in (
        length w.sent + y,
        omega (arith, long, both.0),
        ap (λ (l : List Message). part_at l (length w.sent + y)) sent ∙ said_to w.sent nodes x body y both.0 both.1,
      )
