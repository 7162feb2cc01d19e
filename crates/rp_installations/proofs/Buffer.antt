-- A buffer with room for a step.
use Rattle.std.proofs.Common.{◌≡◌, ℕ, List, length, replicate, ◌≤◌, arith}
use Rattle.std.proofs.lemmas.List.{length-replicate}
use Rattle.rp_requests.specs.Nodes.{step_bytes}

pub buffer : List ℕ
buffer = replicate step_bytes 0

pub room : step_bytes ≤ length buffer
unfolding buffer
room = let long : length buffer ≡ step_bytes = length-replicate {A = ℕ} step_bytes 0 in omega (arith, long)
