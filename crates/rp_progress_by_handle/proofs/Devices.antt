-- Each node's device holds some whole records, and torn bytes after them.
use Rattle.std.proofs.Common.{◌≡◌, ℕ, zero, suc, ◌<◌, ◌≤◌, Option, Some, None, List, [], ◌∷◌, length, inl, refl, sym, ap, subst, ◌∙◌, arith}
use Rattle.std.specs.Prelude.{is_some, slice_get}
use Rattle.std.proofs.lemmas.List.{length-replicate}
use Rattle.rp_base.specs.Config.{IsRightConfig}
use Rattle.rp_base.specs.Sets.{Has}
use Rattle.rp_base.specs.declared.record.Rec.{Rec}
use Rattle.rp_model.specs.Effect.{Setting}
use Rattle.rp_model.specs.Events.{Event}
use Rattle.rp_model.specs.Parts.{NodePart}
use Rattle.rp_model.specs.World.{World, part_at}
use Rattle.rp_agreement.specs.History.{IsHistory}
use Rattle.rp_agreement.specs.Ranges.{IsRangedWorld}
use Rattle.rp_agreement.proofs.PartPlaces.{put_length}
use Rattle.rp_world.specs.rp_store.specs.Records.{AreRecordsOf}
use Rattle.rp_requests.specs.Nodes.{NodeState}
use Rattle.rp_installations.specs.Behind.{IsNodeOver, IsOpen, IsClosed, HasHistory}
use Rattle.rp_installations.specs.Moves.{IsInstallation, Move, MachineMoves, OpensFrom, AnswersBy}
use Rattle.rp_installations.specs.Moves as moves
use Rattle.rp_installations.specs.Sites.{NodeSite, Installation, closed_over, nothing_opened}
use Rattle.rp_installations.proofs.Following.{from_nothing, moves_on}
use Rattle.rp_progress_by_handle.specs.ByHandle.{AreOnDevices}
use Rattle.rp_progress_by_handle.proofs.NodeMoves.{closes_on}
use Rattle.rp_progress_by_handle.proofs.Reaching.{are_moves}

get_there : {A : Type 0} (xs : List A) (i : ℕ) → i < length xs → slice_get xs i ≡ None → ⊥
get_there [] i below none = absurd (omega (arith, below))
get_there (x ∷ xs) zero below none = absurd (cc)
get_there (x ∷ xs) (suc i) below none = get_there xs i (omega (arith, below)) none

part_there : {A : Type 0} (xs : List A) (place : ℕ) → 1 ≤ place → place ≤ length xs → part_at xs place ≡ None → ⊥
part_there xs zero least most none = absurd (omega (arith, least))
part_there xs (suc i) least most none = get_there xs i (omega (arith, most)) none

module _ {S : Type 0} (s : Setting S) (image : S → List ℕ) (ranged : (events : List Event) (w : World) → IsHistory s events w → IsRangedWorld s.config.nodes w) where
  -- no move takes a node away, or adds one
  as_many : (before after : Installation S) → Move s.config.nodes (OpensFrom s.next s.answers image s.config s.begin) (AnswersBy s.next s.answers image) before after → length after.nodes ≡ length before.nodes
  as_many before after (moves.Move.OfNode me site changed given here move goes) = ap (λ (i : Installation S). length i.nodes) goes ∙ put_length before.nodes me changed
  as_many before after (moves.Move.OfTask task site changed given here move goes) = ap (λ (i : Installation S). length i.nodes) goes

  all_as_many : (steps : List (Installation S)) (before after : Installation S) → MachineMoves s.next s.answers image s.config s.begin before steps after → length after.nodes ≡ length before.nodes
  all_as_many [] before after same = ap (λ (i : Installation S). length i.nodes) same
  all_as_many (middle ∷ rest) before after all = all_as_many rest middle after all.1 ∙ as_many before middle all.0

  module _ (steps : List (Installation S)) (now : Installation S) (right : IsRightConfig s.config) (all : IsInstallation s.next s.answers image s.config s.begin steps now) where
    was : HasHistory s now
    was = from_nothing s ranged image right steps now all

    many : length now.nodes ≡ s.config.nodes
    many = all_as_many steps (nothing_opened s.config.nodes) now all ∙ length-replicate {A = NodeSite S} s.config.nodes (closed_over [] [])

    record HoldsWhole (site : NodeSite S) : Type 0 where
      pub records : List Rec
      pub torn : List ℕ
      pub are : AreRecordsOf site.synced records torn

    closed_holds : (w : World) (y : ℕ) (part : NodePart) (site : NodeSite S) → IsNodeOver s w.sent y part (closed_over site.synced site.noted) → HoldsWhole site
    closed_holds w y part site (IsOpen o) = absurd (let open_now : None ≡ Some o.node = o.kept in cc)
    closed_holds w y part site (IsClosed c) = record { records = part.records; torn = c.torn; are = c.records }

    -- the node is closed, if it is open
    holds : (y : ℕ) (site : NodeSite S) → part_at now.nodes y ≡ Some site → (o : Option (NodeState S)) → site.node ≡ o → HoldsWhole site
    holds y site here None closed =
        let b = was.behind.nodes y site here in
        by_closed b.0 b.2
      where
        by_closed : (part : NodePart) → IsNodeOver s was.world.sent y part site → HoldsWhole site
        by_closed part (IsOpen o) = absurd (let both : None ≡ Some o.node = sym closed ∙ o.kept in cc)
        by_closed part (IsClosed c) = record { records = part.records; torn = c.torn; are = c.records }
    holds y site here (Some node) open_now =
        let reach = closes_on s.next s.answers image s.config s.begin (y ∷ []) 0 now y site (inl refl) here (ap (λ (o : Option (NodeState S)). is_some o) open_now) in
        let longer = moves_on s ranged image reach.goes.moves was.events was.world now reach.later was.history was.behind (are_moves s.next s.answers image s.config s.begin (y ∷ []) 0 reach.goes.moves now reach.later reach.goes.all) in
        let b = longer.behind.nodes y (closed_over site.synced site.noted) reach.there in
        closed_holds longer.world y b.0 site b.2

    module _ (quorum : List ℕ) (members : (y : ℕ) → Has y quorum → (1 ≤ y) × (y ≤ s.config.nodes)) where
      abbrev OnDevice : ℕ → List Rec → Type 0
      OnDevice y records = (site : NodeSite S) × (torn : List ℕ) × (part_at now.nodes y ≡ Some site) × AreRecordsOf site.synced records torn

      on_device : (y : ℕ) (o : Option (NodeSite S)) → part_at now.nodes y ≡ o → (records : List Rec) × (Has y quorum → OnDevice y records)
      on_device y None none = ([], λ has. absurd (let m = members y has in part_there now.nodes y m.0 (subst (λ (n : ℕ). y ≤ n) (sym many) m.1) none))
      on_device y (Some site) here = let h = holds y site here site.node refl in (h.records, λ has. (site, h.torn, here, h.are))

      pub on_devices : (records : ℕ → List Rec) × AreOnDevices now quorum records
      on_devices = (λ y. (on_device y (part_at now.nodes y) refl).0, record { each = λ y has. (on_device y (part_at now.nodes y) refl).1 has })
