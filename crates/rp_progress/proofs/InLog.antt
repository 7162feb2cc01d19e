-- What is decided is at a position of the log, where each record of each node is.
use Rattle.std.proofs.Common.{◌≡◌, ℕ, zero, suc, ◌≤◌, true, Some, List, [], ◌∷◌, length, inl, refl, subst, arith}
use Rattle.std.proofs.lemmas.Bool.{leb-true}
use Rattle.rp_base.specs.Majority.{majority_of}
use Rattle.rp_base.specs.Sets.{Has}
use Rattle.rp_base.specs.declared.action.Action.{Action}
use Rattle.rp_base.specs.declared.record.Rec.{Rec}
use Rattle.rp_base.specs.declared.record.Rec.TheVariants.{Voted}
use Rattle.rp_model.specs.Facts.{IsDecided}
use Rattle.rp_model.specs.Parts.{NodePart, is_in_log}
use Rattle.rp_model.specs.World.{World, part_at}
use Rattle.rp_agreement.specs.Sound.{IsSound}
use Rattle.rp_agreement.specs.Worlds.{node_in}
use Rattle.rp_agreement.proofs.Following.{decided_cast}
use Rattle.rp_progress.proofs.Restarting.{records_here}
use Rattle.rp_progress.proofs.Unlearned.{get_there}

-- each of these nodes is there
pub part_is : (parts : List NodePart) (y : ℕ) → 1 ≤ y → y ≤ length parts → (part : NodePart) × (part_at parts y ≡ Some part)
part_is parts zero low high = absurd (omega (arith, low))
part_is parts (suc k) low high = get_there parts k (omega (arith, high))

-- each record of each node is at a position of the log, or at none
abbrev pub AllInLog : ℕ → World → Type 0
AllInLog most w = (y : ℕ) (part : NodePart) → part_at w.nodes y ≡ Some part → (rec : Rec) → Has rec part.records → is_in_log most rec ≡ true

-- a majority has a member
one_voter : (nodes : ℕ) (voters : List ℕ) → majority_of nodes ≤ length voters → (a : ℕ) × Has a voters
one_voter nodes [] enough = absurd (omega (arith, enough))
one_voter nodes (a ∷ voters) enough = (a, inl refl)

pub decided_in_log : (nodes most : ℕ) (w : World) → length w.nodes ≡ nodes → IsSound nodes (node_in w.nodes) w.sent → AllInLog most w → (i : ℕ) (v : Action) → IsDecided nodes w.sent i v → i ≤ most
decided_in_log nodes most w size sound in_log i v decided =
    let cast = decided_cast sound i v decided in
    let voter = one_voter nodes cast.voters cast.majority in
    let member = cast.members.members voter.0 voter.1 in
    let here = part_is w.nodes voter.0 member.0 (omega (arith, member.1, size)) in
    let voted : Has (Voted i decided.ballot v) here.0.records = subst (λ (list : List Rec). Has (Voted i decided.ballot v) list) (records_here w voter.0 here.0 here.1) (cast.voted voter.0 voter.1) in
    leb-true i most (in_log voter.0 here.0 here.1 (Voted i decided.ballot v) voted)
