-- One queue more.
use Rattle.std.proofs.Common.{List, ◌++◌, ℕ, string_bytes, codes, ◌∙◌, ap, ap₂, append_assoc}
use Rattle.rp_object.specs.Image.{entry_text, queue_text}
use Rattle.rp_object.proofs.Writing.{queues_more}
use Rattle.rp_object.proofs.image.write_queues.Goals as goal

pub loop-place-preserved : goal.loop-place-preserved
loop-place-preserved c =
    let profile = c.args.profile in
    let text = string_bytes c.loop-place.text in
    let name = c.index-names-place.result in
    let queue = c.index-queues-place.result in
    let head = codes " queue" in
    let word = entry_text profile (string_bytes name) in
    let printed = c.in_ok-write_queue.ensures ∙ ap (λ (l : List ℕ). l ++ queue_text queue) (c.in_ok-write_entry.ensures ∙ ap₂ (λ (l n : List ℕ). l ++ entry_text profile n) c.in_ok-push_str.ensures.bytes c.deref.ensures)
    ∙ append_assoc (text ++ head) word (queue_text queue) ∙ append_assoc text head (word ++ queue_text queue) in
    queues_more profile c.args.names.now c.args.queues.now c.loop-place.place name queue c.requires.each c.loop-place-test.true c.index-names-place.is c.index-queues-place.is (string_bytes c.args.text.now) text (string_bytes c.write_queue.new.text) c.loop-place.invariant printed
