-- Each node of a quorum is closed, if it is open, and opened again: then it is level with the world behind the installation.
use Rattle.std.proofs.Common.{◌≡◌, ℕ, Option, Some, None, List, [], ◌∷◌, ◌++◌, length, inl, inr, refl, sym, ap, subst, ◌∙◌, length-append, arith}
use Rattle.std.specs.Prelude.{is_some}
use Rattle.std.specs.List.{AllByRecursion}
use Rattle.std.proofs.lemmas.List.{append-nil}
use Rattle.rp_base.specs.Sets.{Has, IsSet}
use Rattle.rp_base.specs.declared.action.Action.{Action}
use Rattle.rp_base.specs.declared.record.Rec.{Rec}
use Rattle.rp_codec.specs.Record.{IsRecord}
use Rattle.rp_model.specs.Effect.{Setting}
use Rattle.rp_model.specs.Events.{Event}
use Rattle.rp_model.specs.Parts.{NodePart}
use Rattle.rp_model.specs.World.{World, part_at}
use Rattle.rp_agreement.specs.History.{IsHistory}
use Rattle.rp_agreement.specs.Ranges.{IsRangedWorld}
use Rattle.rp_agreement.proofs.PartPlaces.{part_has}
use Rattle.rp_world.specs.rp_store.specs.Records.{AreTextsOf, AreRecordsOf}
use Rattle.rp_world.specs.rp_store.proofs.Whole.{are_alone, same_reading}
use Rattle.rp_requests.specs.Nodes.{NodeState}
use Rattle.rp_installations.specs.Behind.{IsBehind, IsNodeOver, IsOpen, IsClosed, packets_of}
use Rattle.rp_installations.specs.Pending.{PendingStep, after_steps, bytes_of}
use Rattle.rp_installations.specs.Sites.{StepPackets, NodeSite, Installation, closed_over}
use Rattle.rp_progress_by_handle.proofs.Events.{each_record}
use Rattle.rp_progress_by_handle.proofs.Level.{NodeLevel, OpenLevel}
use Rattle.rp_progress_by_handle.proofs.NodeMoves.{open_site, opened_node, closes_on, opens_on}
use Rattle.rp_progress_by_handle.proofs.Reaching.{Goes, NodeReaches, stands, goes_then, node_then}

-- The node's device holds these records; a closed node has nothing else.
pub record IsReady {S : Type 0} (i : Installation S) (y : ℕ) (records : List Rec) : Type 0 where
  pub site : NodeSite S
  pub torn : List ℕ
  pub here : part_at i.nodes y ≡ Some site
  pub are : AreRecordsOf site.synced records torn
  pub closed : site.node ≡ None → site ≡ closed_over site.synced site.noted

-- The node was opened over the texts of these records, and has made no step.
pub record IsFresh {S : Type 0} (i : Installation S) (y : ℕ) (records : List Rec) : Type 0 where
  pub node : NodeState S
  pub texts : List ℕ
  pub noted : List Action
  pub here : part_at i.nodes y ≡ Some (open_site node texts [] noted)
  pub are : AreTextsOf records texts
  pub each : AllByRecursion IsRecord records

-- steps that gave no packets, not even none, are none
no_steps : (settled : List StepPackets) (n : ℕ) (steps : List PendingStep) → [] ≡ settled ++ packets_of n steps → steps ≡ []
no_steps settled n [] e = refl
no_steps settled n (step ∷ rest) e = absurd (let more = ap (λ (l : List StepPackets). length l) e in omega (arith, more, length-append settled (packets_of n (step ∷ rest))))

module _ {S : Type 0} (s : Setting S) (image : S → List ℕ) (quorum : List ℕ) (t : ℕ) where
  record Reopened (i : Installation S) (y : ℕ) (records : List Rec) : Type 0 where
    pub node : NodeState S
    pub texts : List ℕ
    pub noted : List Action
    pub reach : NodeReaches s.next s.answers image s.config s.begin quorum t i y (open_site node texts [] noted) []
    pub are : AreTextsOf records texts

  reopens : (i : Installation S) (y : ℕ) (records : List Rec) → Has y quorum → (ready : IsReady i y records) → (o : Option (NodeState S)) → ready.site.node ≡ o → Reopened i y records
  reopens i y records has ready None closed = record {
    node = _;
    texts = _;
    noted = _;
    reach = opens_on s.next s.answers image s.config s.begin quorum t i y ready.site.synced ready.site.noted records ready.torn has (ready.here ∙ ap (λ (x : NodeSite S). Some x) (ready.closed closed)) ready.are;
    are = ready.are.are;
  }
  reopens i y records has ready (Some node) open_now =
      let first = closes_on s.next s.answers image s.config s.begin quorum t i y ready.site has ready.here (ap (λ (o : Option (NodeState S)). is_some o) open_now) in
      let second = opens_on s.next s.answers image s.config s.begin quorum t first.later y ready.site.synced ready.site.noted records ready.torn has first.there ready.are in
      record {
        node = opened_node s.config s.begin y records ready.are.texts (length ready.torn);
        texts = ready.are.texts;
        noted = ready.site.noted;
        reach = node_then s.next s.answers image s.config s.begin quorum t i y _ _ [] [] first second;
        are = ready.are.are;
      }

  -- These nodes were opened again; the others and the tasks are as they were.
  pub record HaveReopened (ys : List ℕ) (records : ℕ → List Rec) (i : Installation S) : Type 0 where
    pub later : Installation S
    pub goes : Goes s.next s.answers image s.config s.begin quorum t i later
    pub each : (y : ℕ) → Has y ys → IsFresh later y (records y)
    pub others : (y : ℕ) → (¬ Has y ys) → part_at later.nodes y ≡ part_at i.nodes y
    pub tasks : later.tasks ≡ i.tasks

  pub all_reopen : (records : ℕ → List Rec) (ys : List ℕ) → IsSet ys → ((y : ℕ) → Has y ys → Has y quorum) → (i : Installation S) → ((y : ℕ) → Has y ys → IsReady i y (records y)) → HaveReopened ys records i
  all_reopen records [] set among i ready = record { later = i; goes = stands s.next s.answers image s.config s.begin quorum t i; each = λ y h. absurd h; others = λ y other. refl; tasks = refl }
  all_reopen records (y ∷ ys) set among i ready =
      let here = ready y (inl refl) in
      let one = reopens i y (records y) (among y (inl refl)) here here.site.node refl in
      let apart : (z : ℕ) → Has z ys → part_at one.reach.later.nodes z ≡ part_at i.nodes z =
      λ z h. one.reach.beside z (λ same. set.0 (subst (λ (u : ℕ). Has u ys) same h)) in
      let rest = all_reopen records ys set.1 (λ z h. among z (inr h)) one.reach.later
      (λ z h. let r = ready z (inr h) in record { site = r.site; torn = r.torn; here = apart z h ∙ r.here; are = r.are; closed = r.closed }) in
      record {
        later = rest.later;
        goes = goes_then s.next s.answers image s.config s.begin quorum t i one.reach.later rest.later one.reach.goes rest.goes;
        each = λ z h. elim h [
          | inl same ↦ subst (λ (u : ℕ). IsFresh rest.later u (records u)) (sym same)
              (record { node = one.node; texts = one.texts; noted = one.noted; here = rest.others y set.0 ∙ one.reach.there; are = one.are; each = here.are.each })
          | inr later ↦ rest.each z later
        ];
        others = λ z other. rest.others z (λ h. other (inr h)) ∙ one.reach.beside z (λ same. other (inl same));
        tasks = rest.tasks ∙ one.reach.tasks;
      }

  -- ---- such a node is level with the world behind the installation

  pub record IsLevelFresh (w : World) (i : Installation S) (y : ℕ) (records : List Rec) : Type 0 where
    pub level : NodeLevel s w i y
    pub same : level.part.records ≡ records

  pub level_fresh : (ranged : (events : List Event) (w : World) → IsHistory s events w → IsRangedWorld s.config.nodes w) (events : List Event) (w : World) → IsHistory s events w → (i : Installation S) → IsBehind s w i → (y : ℕ) (records : List Rec) → IsFresh i y records
      → IsLevelFresh w i y records
  level_fresh ranged events w history i behind y records fresh =
      let b = behind.nodes y (open_site fresh.node fresh.texts [] fresh.noted) fresh.here in
      over b.0 b.1 b.2
    where
      over : (part : NodePart) → part_at w.nodes y ≡ Some part → IsNodeOver s w.sent y part (open_site fresh.node fresh.texts [] fresh.noted) → IsLevelFresh w i y records
      over part there (IsOpen o) =
          let same : fresh.node ≡ o.node = let both : Some fresh.node ≡ Some o.node = o.kept in cc in
          let none : o.steps ≡ [] = no_steps o.settled (length o.bytes) o.steps o.packets in
          let bytes : fresh.texts ≡ o.bytes =
          sym (append-nil (fresh.texts ++ []) ∙ append-nil fresh.texts) ∙ o.given ∙ ap (λ (steps : List PendingStep). o.bytes ++ bytes_of steps) none ∙ append-nil o.bytes in
          let records_are : AreTextsOf part.records fresh.texts = subst (AreTextsOf part.records) (sym bytes) o.records in
          let each = each_record part.records ((ranged events w history).parts part (part_has w.nodes y part there)).records in
          record {
            level = record {
              part = part;
              there = there;
              site = open_site fresh.node fresh.texts [] fresh.noted;
              here = fresh.here;
              level = OpenLevel (record {
                node = o.node;
                site_is = ap (λ (n : NodeState S). open_site n fresh.texts [] fresh.noted) same;
                set_up = o.set_up;
                reached = o.reached ∙ ap (after_steps part) none;
                records = records_are;
              });
            };
            same = (same_reading fresh.texts [] [] part.records records (are_alone fresh.texts part.records records_are each) (are_alone fresh.texts records fresh.are fresh.each)).0;
          }
      over part there (IsClosed c) = absurd (let none : Some fresh.node ≡ None = ap (λ (x : NodeSite S). x.node) c.closed in cc)
