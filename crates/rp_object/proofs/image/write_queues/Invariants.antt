use Rattle.std.proofs.Common.{◌≡◌, ◌++◌, take, string_bytes}
use Rattle.rp_object.specs.Image.{queues_text}
use Rattle.rp_object.proofs.image.write_queues.Given as goal

abbrev pub invariant-loop-place : goal.invariant-loop-place
invariant-loop-place l = string_bytes l.text ≡ string_bytes l.initial.text ++ queues_text l.profile (take l.place l.names) (take l.place l.queues)
