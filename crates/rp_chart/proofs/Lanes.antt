-- The lanes of a drawing, one after another.
use Rattle.std.proofs.Common.{◌≡◌, ℕ, ◌+◌, ◌<◌, List, [], ◌∷◌, ◌++◌, map, take, length, get_or, ap, ap₂, sym, ◌∙◌, add-one, append_assoc}
use Rattle.std.specs.Prelude.{String, string_bytes}
use Rattle.std.proofs.lemmas.List.{length-map, length-append, map_more, map_push}
use Rattle.std.proofs.lemmas.Option.{slice_get-get_or}
use Rattle.rp_drawing.specs.declared.drawing.Lane.{Lane}
use Rattle.rp_history.specs.Histories.{LaneText, lane_text}
use Rattle.rp_script.specs.rp_machine.specs.Replay.{one_to}
use Rattle.rp_script.specs.rp_machine.proofs.Numbering.{length-one_to}
use Rattle.rp_script.specs.rp_model.specs.World.{part_at}
use Rattle.rp_script.specs.rp_output.specs.Trace.{or_nothing, task_name}
use Rattle.rp_chart.specs.Charts.{lanes_of, node_lane, task_lane}

pub names_count : {Y X : Type 0} (entries : List (String Y × X)) → length (map string_bytes (map (λ (e : String Y × X). e.0) entries)) ≡ length entries
names_count {Y = Y} {X = X} entries = length-map (map (λ (e : String Y × X). e.0) entries) string_bytes ∙ length-map entries (λ (e : String Y × X). e.0)

-- one for each entry of the table of tasks, and one for each node
pub lanes_count : {Y X : Type 0} (lanes : List Lane) (entries : List (String Y × X)) (nodes : ℕ)
    → map lane_text lanes ≡ lanes_of (map string_bytes (map (λ (e : String Y × X). e.0) entries)) nodes → length lanes ≡ length entries + nodes
lanes_count {Y = Y} {X = X} lanes entries nodes same =
    let names = map string_bytes (map (λ (e : String Y × X). e.0) entries) in
    sym (length-map lanes lane_text)
    ∙ ap length same
    ∙ length-append (map task_lane names) (map node_lane (one_to nodes))
    ∙ ap₂ (λ (a b : ℕ). a + b) (length-map names task_lane ∙ names_count entries) (length-map (one_to nodes) node_lane ∙ length-one_to nodes)

-- the lane of one task more
pub next_task : (lanes : List Lane) (names : List (List ℕ)) (place : ℕ) (lane : Lane) (name : List ℕ) → place < length names
    → map lane_text lanes ≡ map task_lane (take place names) → lane_text lane ≡ task_lane name → name ≡ task_name names (place + 1)
    → map lane_text (lanes ++ lane ∷ []) ≡ map task_lane (take (place + 1) names)
next_task lanes names place lane name within so_far is named =
    let found : task_name names (place + 1) ≡ get_or names place [] =
    ap (λ (p : ℕ). or_nothing (part_at names p)) (add-one place) ∙ ap or_nothing (slice_get-get_or names place [] within) in
    map_push lane_text lanes lane
    ∙ ap₂ (λ (a : List LaneText) (b : LaneText). a ++ b ∷ []) so_far (is ∙ ap task_lane (named ∙ found))
    ∙ sym (map_more task_lane names place [] within)

-- and of one node more
pub next_node : (lanes : List Lane) (front : List LaneText) (node : ℕ) (lane : Lane)
    → map lane_text lanes ≡ front ++ map node_lane (one_to node) → lane_text lane ≡ node_lane (node + 1)
    → map lane_text (lanes ++ lane ∷ []) ≡ front ++ map node_lane (one_to (node + 1))
next_node lanes front node lane so_far is =
    let grown : one_to node ++ (node + 1) ∷ [] ≡ one_to (node + 1) = ap (λ (k : ℕ). one_to node ++ k ∷ []) (add-one node) ∙ sym (ap one_to (add-one node)) in
    map_push lane_text lanes lane
    ∙ ap₂ (λ (a : List LaneText) (b : LaneText). a ++ b ∷ []) so_far is
    ∙ append_assoc front (map node_lane (one_to node)) (node_lane (node + 1) ∷ [])
    ∙ ap (λ (l : List LaneText). front ++ l) (sym (map_push node_lane (one_to node) (node + 1)) ∙ ap (map node_lane) grown)
