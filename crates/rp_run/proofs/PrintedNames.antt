-- Names and nodes as they are printed.
use Rattle.std.proofs.Common.{inl, inr, ◌≡◌, ℕ, zero, suc, ◌+◌, ◌-◌, ◌^◌, ◌≤◌, min, Option, Some, None, Ok, Err, List, [], ◌++◌, map, length, arith, refl, sym, ap, ◌∙◌, add-one, append_assoc, append-nil}
use Rattle.std.specs.declared.alloc.Global.{Global}
use Rattle.std.specs.Prelude.{slice_get, String, string_bytes, Vec}
use Rattle.std.specs.Option.{option_map}
use Rattle.std.proofs.lemmas.List.{flat_map_more}
use Rattle.std.proofs.lemmas.List.Concat.{flat_map-append}
use Rattle.std.proofs.lemmas.Option.{slice_get-map}
use Rattle.rp_base.specs.Records.{applied_of}
use Rattle.rp_base.specs.declared.fault.Fault.{Fault}
use Rattle.rp_base.specs.declared.record.Rec.{Rec}
use Rattle.rp_model.specs.rp_machine.specs.Replay.{one_to, replay_state}
use Rattle.rp_model.specs.Parts.{NodePart, Running}
use Rattle.rp_world.specs.rp_actors.specs.Steps.{IsQueryAnswer, IsRunningQueryAnswer, IsQueryAnswerUnlessMemory}
use Rattle.rp_output.specs.Printed.{applied_line_of, stopped_line_of}
use Rattle.rp_output.specs.FaultMessage.{with_line_feed}
use Rattle.rp_model.specs.World.{World, part_at}
use Rattle.rp_run.specs.Items.{item_text, items_text}
use Rattle.rp_run.specs.Output.{RunSetting, state_item, part_items, nodes_items}

module _ {Y X : Type 0} (entries : List (String Y × X)) where
  name_of_entry : (place : ℕ) → slice_get (map string_bytes (map (λ (e : String Y × X). e.0) entries)) place ≡ option_map string_bytes (option_map (λ (e : String Y × X). e.0) (slice_get entries place))
  name_of_entry place =
      slice_get-map string_bytes (map (λ (e : String Y × X). e.0) entries) place
      ∙ ap (option_map string_bytes) (slice_get-map (λ (e : String Y × X). e.0) entries place)

  -- the name of the entry of a number from 1
  pub name_at : (number : ℕ) (entry : Option (String Y × X)) → 1 ≤ number → slice_get entries (number - 1) ≡ entry
      → part_at (map string_bytes (map (λ (e : String Y × X). e.0) entries)) number ≡ option_map string_bytes (option_map (λ (e : String Y × X). e.0) entry)
  name_at zero entry one here = absurd (omega arith)
  name_at (suc place) entry one here =
      let same : place ≡ suc place - 1 = omega arith in
      name_of_entry place
      ∙ ap (λ (i : ℕ). option_map string_bytes (option_map (λ (e : String Y × X). e.0) (slice_get entries i))) same
      ∙ ap (λ (o : Option (String Y × X)). option_map string_bytes (option_map (λ (e : String Y × X). e.0) o)) here

module _ {S : Type 0} (s : RunSetting S) (world : World) where
  -- the items of one node more
  items_more : (n : ℕ) → nodes_items s world (suc n) ≡ nodes_items s world n ++ part_items s (suc n) (part_at world.nodes (suc n))
  unfolding nodes_items
  items_more n = sym (flat_map_more (λ (node : ℕ). part_items s node (part_at world.nodes node)) [] (one_to n) (suc n))

  pub no_nodes : items_text (nodes_items s world 0) ≡ []
  unfolding nodes_items
  no_nodes = refl

  -- one node more
  pub nodes_more : (n : ℕ) → items_text (nodes_items s world (n + 1)) ≡ items_text (nodes_items s world n) ++ items_text (part_items s (n + 1) (part_at world.nodes (n + 1)))
  nodes_more n = rw (add-one n) (ap items_text (items_more n) ∙ flat_map-append item_text (nodes_items s world n) (part_items s (suc n) (part_at world.nodes (suc n))))

  -- what is shown of the first nodes begins what is shown of all
  pub nodes_front : (n more : ℕ) → (rest : List ℕ) × (items_text (nodes_items s world (n + more)) ≡ items_text (nodes_items s world n) ++ rest)
  nodes_front n zero = let same : n + 0 ≡ n = omega arith in ([], ap (λ (k : ℕ). items_text (nodes_items s world k)) same ∙ sym (append-nil (items_text (nodes_items s world n))))
  nodes_front n (suc more) =
      let before = nodes_front n more in
      let last = items_text (part_items s (n + more + 1) (part_at world.nodes (n + more + 1))) in
      let next : n + suc more ≡ n + more + 1 = omega arith in (
        before.0 ++ last,
        ap (λ (k : ℕ). items_text (nodes_items s world k)) next
            ∙ nodes_more (n + more)
            ∙ ap (λ (l : List ℕ). l ++ last) before.1
            ∙ append_assoc (items_text (nodes_items s world n)) before.0 last,
      )

-- ---- a node

module _ {S : Type 0} (s : RunSetting S) (node : ℕ) where
  abbrev pub Counts : ℕ → List Rec → Type 0
  Counts count records = count ≡ min (length (applied_of records)) (2 ^ 16 - 1)

  abbrev image_of : List Rec → List ℕ
  image_of records = s.image (replay_state s.setting.next s.setting.answers s.setting.begin (applied_of records))

  abbrev pub Shows : Vec ℕ Global → List Rec → Type 0
  Shows text records = text.items ≡ image_of records

  -- the line of a running node that has applied so many actions
  abbrev line : ℕ → List ℕ
  line count = with_line_feed (applied_line_of node count)

  running_text : (count : ℕ) (records : List Rec) (running : Option Running) → IsRunningQueryAnswer (Ok count) Counts records running
      → item_text (state_item s node records running) ≡ line count ++ image_of records
  running_text count records None printed = absurd (cc)
  running_text count records (Some running) printed = ap (λ (n : ℕ). line n ++ image_of records) (sym printed)

  running_part : (count : ℕ) (part : NodePart) → IsQueryAnswer (Ok count) Counts (Some part) → items_text (part_items s node (Some part)) ≡ line count ++ image_of part.records
  running_part count part printed = append-nil (item_text (state_item s node part.records part.running)) ∙ running_text count part.records part.running printed

  -- it begins with the number of actions
  pub begins_by_count : (count : ℕ) (part : Option NodePart) → IsQueryAnswer (Ok count) Counts part → (rest : List ℕ) × (items_text (part_items s node part) ≡ line count ++ rest)
  begins_by_count count None printed = absurd (cc)
  begins_by_count count (Some part) printed = (image_of part.records, running_part count part printed)

  -- and goes on with the image
  pub whole_text : (count : ℕ) (text : Vec ℕ Global) (part : Option NodePart) → IsQueryAnswer (Ok count) Counts part → IsQueryAnswerUnlessMemory (Ok text) Shows part
      → items_text (part_items s node part) ≡ line count ++ text.items
  whole_text count text part printed (inl memory) = let none = memory.0 in absurd (cc)
  whole_text count text None printed (inr shown) = absurd (cc)
  whole_text count text (Some part) printed (inr shown) = running_part count part printed ∙ ap (λ (l : List ℕ). line count ++ l) (sym (shown_image part.records part.running shown))
    where
      shown_image : (records : List Rec) (running : Option Running) → IsRunningQueryAnswer (Ok text) Shows records running → text.items ≡ image_of records
      shown_image records None is = absurd (cc)
      shown_image records (Some running) is = is

  stopped_state : (fault : Fault) (records : List Rec) (running : Option Running) → IsRunningQueryAnswer (Err fault) Counts records running
      → item_text (state_item s node records running) ≡ with_line_feed (stopped_line_of node)
  stopped_state fault records None printed = append-nil (with_line_feed (stopped_line_of node))
  stopped_state fault records (Some running) printed = absurd printed

  -- a node that is there and gives no number is stopped
  pub stopped_text : (fault : Fault) (part : Option NodePart) (found : NodePart) → part ≡ Some found → IsQueryAnswer (Err fault) Counts part
      → items_text (part_items s node part) ≡ with_line_feed (stopped_line_of node)
  stopped_text fault None found there printed = absurd (cc)
  stopped_text fault (Some part) found there printed = append-nil (item_text (state_item s node part.records part.running)) ∙ stopped_state fault part.records part.running printed
