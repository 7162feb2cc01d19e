-- By the cases of the request.
use Rattle.rp_requests.proofs.NodeTexts.{steps, no_packet, applied_is, image_is, last_is, left_is, pending_is, counted_is, occurred_is}
use Rattle.rp_requests.proofs.request_texts.node_requests_are_read_back.Goals as goal

pub returns : goal.returns
returns c = record { steps = steps; no_packet = no_packet; applied = applied_is; image = image_is; last = last_is; left = left_is; pending = pending_is; counted = counted_is; occurred = occurred_is }
