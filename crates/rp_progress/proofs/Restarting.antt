-- Nodes stop, if they run, and start again: they know nothing but their records, which stay.
use Rattle.std.proofs.Common.{◌≡◌, ℕ, Ok, Option, Some, None, List, [], ◌∷◌, ◌++◌, inl, inr, refl, sym, ap, subst, ◌∙◌, append-nil}
use Rattle.std.specs.Prelude.{unwrap_or}
use Rattle.rp_base.specs.Number.{IsNode}
use Rattle.rp_base.specs.Sets.{Has, IsSet}
use Rattle.rp_base.specs.declared.record.Rec.{Rec}
use Rattle.rp_model.specs.Effect.{Setting, Done, goes_on_as, stop_part, stops_while, restart_while}
use Rattle.rp_model.specs.Events.{Event, Stop, Restart}
use Rattle.rp_model.specs.Parts.{NodePart, Running, fresh_node, fresh_running}
use Rattle.rp_model.specs.World.{World, part_at, with_part, node_done, node_done_if, stops, restarts}
use Rattle.rp_agreement.proofs.PartPlaces.{put_there, put_beside}
use Rattle.rp_possible.specs.Rounds.{GoesOnBy}
use Rattle.rp_progress.specs.Waiting.{records_in}
use Rattle.rp_progress.proofs.BareQuorums.{goes_then}

-- a node that knows nothing but these records
abbrev pub restarted : List Rec → NodePart
restarted records = record { records = records; torn = 0; running = Some fresh_running }

-- These nodes have started again; the others, the tasks and the packets are as they were.
pub record HaveRestarted {S : Type 0} (s : Setting S) (quorum : List ℕ) (t first : ℕ) (ys : List ℕ) (w : World) : Type 0 where
  pub events : List Event
  pub after : World
  pub goes_on : GoesOnBy s quorum t first w events after
  pub tasks : after.tasks ≡ w.tasks
  pub sent : after.sent ≡ w.sent
  pub each : (y : ℕ) → Has y ys → part_at after.nodes y ≡ Some (restarted (records_in w y))
  pub others : (y : ℕ) → (¬ Has y ys) → part_at after.nodes y ≡ part_at w.nodes y

-- the nodes may start again: each is there
abbrev pub MayRestart : List ℕ → List ℕ → World → Type 0
MayRestart quorum ys w = (y : ℕ) → Has y ys → Has y quorum × IsNode y × ((part : NodePart) × (part_at w.nodes y ≡ Some part))

pub records_here : (w : World) (y : ℕ) (part : NodePart) → part_at w.nodes y ≡ Some part → records_in w y ≡ part.records
records_here w y part here = ap (λ (o : Option NodePart). (unwrap_or o fresh_node).records) here

module _ {S : Type 0} (s : Setting S) (quorum : List ℕ) (t first : ℕ) where
  -- a stopped node starts again
  starts : (w : World) (y : ℕ) (part : NodePart) → Has y quorum → IsNode y → part_at w.nodes y ≡ Some part → part.running ≡ None → HaveRestarted s quorum t first (y ∷ []) w
  starts w y part has is here stopped =
      let done = restart_while part None in
      let effect = ap (restarts w y) here ∙ ap (λ (o : Option Running). Ok (node_done w y (restart_while part o))) stopped in
      record {
        events = Restart y ∷ [];
        after = (node_done w y done).world;
        goes_on = (node_done w y done, effect, is, has, refl);
        tasks = refl;
        sent = append-nil w.sent;
        each = λ z h. elim h [
          | inl same ↦
              subst (λ (u : ℕ). part_at (with_part w.nodes y done.part) u ≡ Some (restarted (records_in w u))) (sym same)
              (put_there w.nodes y part done.part here ∙ ap (λ (records : List Rec). Some (restarted records)) (sym (records_here w y part here)))
          | inr none ↦ absurd none
        ];
        others = λ z other. put_beside w.nodes y z done.part (λ e. other (inl e));
      }

  -- what restarts after a stop has restarted
  stops_first : (w : World) (y : ℕ) (part : NodePart) (running : Running) → Has y quorum → IsNode y → part_at w.nodes y ≡ Some part → part.running ≡ Some running
      → HaveRestarted s quorum t first (y ∷ []) w
  stops_first w y part running has is here runs =
      let stopped = stop_part part in
      let done : Done NodePart = goes_on_as stopped in
      let effect = ap (stops w y) here ∙ ap (λ (o : Option Running). node_done_if w y (stops_while part o)) runs in
      let middle = (node_done w y done).world in
      let there = put_there w.nodes y part stopped here in
      let rest = starts middle y stopped has is there refl in
      record {
        events = Stop y ∷ rest.events;
        after = rest.after;
        goes_on = (node_done w y done, effect, is, has, rest.goes_on);
        tasks = rest.tasks;
        sent = rest.sent ∙ append-nil w.sent;
        each = λ z h. elim h [
          | inl same ↦
              subst (λ (u : ℕ). part_at rest.after.nodes u ≡ Some (restarted (records_in w u))) (sym same)
              (rest.each y (inl refl) ∙ ap (λ (records : List Rec). Some (restarted records)) (records_here middle y stopped there ∙ sym (records_here w y part here)))
          | inr none ↦ absurd none
        ];
        others = λ z other. rest.others z other ∙ put_beside w.nodes y z stopped (λ e. other (inl e));
      }

  one_restarts : (w : World) (y : ℕ) (part : NodePart) (running : Option Running) → Has y quorum → IsNode y → part_at w.nodes y ≡ Some part → part.running ≡ running
      → HaveRestarted s quorum t first (y ∷ []) w
  one_restarts w y part None has is here stopped = starts w y part has is here stopped
  one_restarts w y part (Some running) has is here runs = stops_first w y part running has is here runs

  pub all_restart : (ys : List ℕ) (w : World) → IsSet ys → MayRestart quorum ys w → HaveRestarted s quorum t first ys w
  all_restart [] w set may = record { events = []; after = w; goes_on = refl; tasks = refl; sent = refl; each = λ y h. absurd h; others = λ y other. refl }
  all_restart (y ∷ ys) w set may =
      let here = may y (inl refl) in
      let one = one_restarts w y here.2.0 here.2.0.running here.0 here.1 here.2.1 refl in
      let apart : (z : ℕ) → Has z ys → part_at one.after.nodes z ≡ part_at w.nodes z =
      λ z h. one.others z (λ is. elim is [ inl same ↦ set.0 (subst (λ (u : ℕ). Has u ys) same h) | inr none ↦ none ]) in
      let rest = all_restart ys one.after set.1 (λ z h. let there = may z (inr h) in (there.0, there.1, (there.2.0, apart z h ∙ there.2.1))) in
      record {
        events = one.events ++ rest.events;
        after = rest.after;
        goes_on = goes_then s quorum t first w one.events one.after rest.events rest.after one.goes_on rest.goes_on;
        tasks = rest.tasks ∙ one.tasks;
        sent = rest.sent ∙ one.sent;
        each = λ z h. elim h [
          | inl same ↦
              subst (λ (u : ℕ). part_at rest.after.nodes u ≡ Some (restarted (records_in w u))) (sym same) (rest.others y set.0 ∙ one.each y (inl refl))
          | inr later ↦ rest.each z later ∙ ap (λ (o : Option NodePart). Some (restarted (unwrap_or o fresh_node).records)) (apart z later)
        ];
        others = λ z other. rest.others z (λ h. other (inr h)) ∙ one.others z (λ is. elim is [ inl same ↦ other (inl same) | inr none ↦ none ]);
      }
