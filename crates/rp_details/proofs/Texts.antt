-- One packet, one node or one task more of what a page says.
use Rattle.std.specs.Borrow.{Bor}
use Rattle.std.proofs.Common.{inl, inr, ◌≡◌, ◌∙◌, ℕ, zero, suc, ◌+◌, ◌-◌, ◌^◌, ◌<◌, ◌≤◌, min, Option, Some, None, Ok, Err, Result, List, [], ◌∷◌, ◌++◌, codes, decimal, drop, length, arith, refl, sym, ap, add-one, append-nil}
use Rattle.std.specs.declared.alloc.Global.{Global}
use Rattle.std.specs.List.{range_with_len}
use Rattle.std.specs.Prelude.{flat_map, slice_get, Vec}
use Rattle.std.proofs.lemmas.List.{drop_all, flat_map_more}
use Rattle.rp_world.specs.rp_base.specs.Ranges.{Range}
use Rattle.rp_world.specs.rp_base.specs.Records.{applied_of}
use Rattle.rp_world.specs.rp_base.specs.declared.config.Config.{Config}
use Rattle.rp_world.specs.rp_base.specs.declared.fault.Fault.{Fault}
use Rattle.rp_world.specs.rp_base.specs.declared.fault.Fault.TheVariants.{NotRunning}
use Rattle.rp_world.specs.rp_base.specs.declared.record.Rec.{Rec}
use Rattle.rp_world.specs.rp_codec.specs.Message.{Message}
use Rattle.rp_world.specs.rp_codec.specs.declared.packet.Party.TheVariants as parties
use Rattle.rp_world.specs.rp_machine.specs.Replay.{one_to, replay_state}
use Rattle.rp_world.specs.rp_model.specs.Parts.{NodePart, Running}
use Rattle.rp_world.specs.rp_model.specs.World.{World, part_at}
use Rattle.rp_world.specs.rp_server.specs.State.{ServerState}
use Rattle.rp_world.specs.rp_actors.specs.Nodes.{stored_length}
use Rattle.rp_world.specs.rp_actors.specs.Steps.{IsQueryAnswer, IsQueryAnswerUnlessMemory, IsRunningQueryAnswer, IsRunningServerOf, IsServerOf, IsStored}
use Rattle.rp_run.specs.rp_output.specs.FaultMessage.{with_line_feed}
use Rattle.rp_run.specs.rp_output.specs.Printed.{applied_line_of, stopped_line_of}
use Rattle.rp_run.specs.rp_output.specs.Trace.{party_text_of}
use Rattle.rp_run.specs.Output.{RunSetting}
use Rattle.rp_run.proofs.Tracing.{drop_at, drop_none_at}
use Rattle.rp_details.specs.Details.{bound_line, device_lines, found_lines, known_lines, node_lines, nodes_lines, packets_lines, pending_line, running_lines, task_lines, tasks_lines, window_lines}

-- ---- packets

module _ (names : List (List ℕ)) (sent : List Message) where
  at_place : (place : ℕ) (m : Option Message) → slice_get sent place ≡ m
      → packets_lines names (suc place) (drop place sent) ≡ found_lines names (suc place) m ++ packets_lines names (suc (suc place)) (drop (suc place) sent)
  at_place place None here =
      let both = drop_none_at sent place here in
      ap (λ (l : List Message). packets_lines names (suc place) l) both.0 ∙ sym (ap (λ (l : List Message). packets_lines names (suc (suc place)) l) both.1)
  at_place place (Some m) here = ap (λ (l : List Message). packets_lines names (suc place) l) (drop_at sent place m here)

  -- the packet of a number, and those after it
  pub packets_next : (number : ℕ) → 1 ≤ number
      → packets_lines names number (drop (number - 1) sent) ≡ found_lines names number (part_at sent number) ++ packets_lines names (number + 1) (drop (number + 1 - 1) sent)
  packets_next zero one = absurd (omega arith)
  packets_next (suc place) one =
      let low : suc place - 1 ≡ place = omega arith in
      let high : suc place + 1 - 1 ≡ suc place = omega arith in
      let next : suc place + 1 ≡ suc (suc place) = omega arith in
      ap (λ (i : ℕ). packets_lines names (suc place) (drop i sent)) low
      ∙ at_place place (slice_get sent place) refl
      ∙ ap (λ (n : ℕ). found_lines names (suc place) (slice_get sent place) ++ packets_lines names n (drop (suc place) sent)) (sym next)
      ∙ ap (λ (i : ℕ). found_lines names (suc place) (slice_get sent place) ++ packets_lines names (suc place + 1) (drop i sent)) (sym high)

  -- no packet is left
  pub packets_end : (number : ℕ) → length sent < number → packets_lines names number (drop (number - 1) sent) ≡ []
  packets_end number past = ap (λ (l : List Message). packets_lines names number l) (drop_all (number - 1) sent (omega arith))

-- ---- nodes

module _ {S : Type 0} (s : RunSetting S) (world : World) where
  pub no_nodes : nodes_lines s world 0 ≡ []
  unfolding nodes_lines
  no_nodes = refl

  one_node_more : (n : ℕ) → nodes_lines s world (suc n) ≡ nodes_lines s world n ++ node_lines s (suc n) (part_at world.nodes (suc n))
  unfolding nodes_lines
  one_node_more n = sym (flat_map_more (λ (node : ℕ). node_lines s node (part_at world.nodes node)) [] (one_to n) (suc n))

  -- one node more
  pub nodes_more : (n : ℕ) → nodes_lines s world (n + 1) ≡ nodes_lines s world n ++ node_lines s (n + 1) (part_at world.nodes (n + 1))
  nodes_more n = rw (add-one n) (one_node_more n)

-- ---- what a node holds and knows

-- how many bytes the device of a node holds, where there is one of its number
pub device_there : (bytes : ℕ) (part : Option NodePart) → IsStored (let r : Result ℕ Fault = Ok bytes in r) part
    → device_lines part ≡ with_line_feed (codes "  device: " ++ (decimal bytes ++ codes " bytes"))
device_there bytes None stored = absurd (cc)
device_there bytes (Some part) stored = let same : stored_length part ≡ bytes = cc in ap (λ (n : ℕ). with_line_feed (codes "  device: " ++ (decimal n ++ codes " bytes"))) same

pub no_device : (fault : Fault) (part : Option NodePart) → IsStored (let r : Result ℕ Fault = Err fault in r) part → device_lines part ≡ []
no_device fault None stored = refl
no_device fault (Some part) stored = absurd (cc)

module _ {S : Type 0} (config : Config) where
  running_by : (server : Bor (ServerState S)) (records : List Rec) (running : Option Running) → IsRunningServerOf config (let r : Result (Bor (ServerState S)) Fault = Ok server in r) records running
      → running_lines config.max_positions records running ≡ window_lines server.now.config.max_positions server.now.records ++ flat_map pending_line server.now.running.pending
  running_by server records None is = absurd (cc)
  running_by server records (Some running) is =
      ap (λ (c : Config). window_lines c.max_positions records ++ flat_map pending_line running.pending) (sym is.0)
      ∙ ap (λ (l : List Rec). window_lines server.now.config.max_positions l ++ flat_map pending_line running.pending) (sym is.1)
      ∙ ap (λ (r : Running). window_lines server.now.config.max_positions server.now.records ++ flat_map pending_line r.pending) (sym is.2)

  -- a node that runs is known by its server
  pub known_by : (server : Bor (ServerState S)) (part : Option NodePart) → IsServerOf config (let r : Result (Bor (ServerState S)) Fault = Ok server in r) part
      → known_lines config.max_positions part ≡ window_lines server.now.config.max_positions server.now.records ++ flat_map pending_line server.now.running.pending
  known_by server None is = absurd (cc)
  known_by server (Some part) is = running_by server part.records part.running is

range_longer : (first n : ℕ) → range_with_len first (suc n) ≡ range_with_len first n ++ (first + n) ∷ []
range_longer first zero = let same : first ≡ first + 0 = omega arith in ap (λ (i : ℕ). i ∷ []) same
range_longer first (suc n) =
    let same : first + 1 + n ≡ first + suc n = omega arith in
    ap (λ (l : List ℕ). first ∷ l) (range_longer (first + 1) n ∙ ap (λ (i : ℕ). range_with_len (first + 1) n ++ i ∷ []) same)

-- the first n positions of a range
abbrev pub positions_so_far : List Rec → Range → ℕ → List ℕ
positions_so_far records range n = flat_map (bound_line records) (range_with_len range.first n)

-- one position more
pub positions_more : (records : List Rec) (range : Range) (n : ℕ) → positions_so_far records range (n + 1) ≡ positions_so_far records range n ++ bound_line records (range.first + n)
positions_more records range n =
    rw (add-one n) (ap (λ (l : List ℕ). flat_map (bound_line records) l) (range_longer range.first n) ∙ sym (flat_map_more (bound_line records) [] (range_with_len range.first n) (range.first + n)))

-- ---- tasks

module _ (names : List (List ℕ)) (world : World) where
  one_task_more : (n : ℕ) → tasks_lines names world (suc n) ≡ tasks_lines names world n ++ task_lines (party_text_of names (parties.Task (suc n))) (part_at world.tasks (suc n))
  one_task_more n = sym (flat_map_more (λ (task : ℕ). task_lines (party_text_of names (parties.Task task)) (part_at world.tasks task)) [] (one_to n) (suc n))

  -- one task more
  pub tasks_more : (n : ℕ) → tasks_lines names world (n + 1) ≡ tasks_lines names world n ++ task_lines (party_text_of names (parties.Task (n + 1))) (part_at world.tasks (n + 1))
  tasks_more n = rw (add-one n) (one_task_more n)
