use Rattle.std.proofs.Common.{◌≡◌, ◌++◌, take, string_bytes}
use Rattle.rp_object.specs.Image.{object_lines}
use Rattle.rp_object.proofs.image.write_objects.Given as goal

abbrev pub invariant-loop-place : goal.invariant-loop-place
invariant-loop-place l = string_bytes l.text ≡ string_bytes l.initial.text ++ object_lines l.profile (take l.place l.declared) (take l.place l.objects)
