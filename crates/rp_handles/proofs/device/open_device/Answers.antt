-- The node is opened over what is after the header.
use Rattle.std.proofs.Common.{◌≡◌, ◌∙◌, List, ap, drop, nat_eq, rules, subst, sym, true, ℕ}
use Rattle.std.specs.List.{starts_with}
use Rattle.rp_requests.specs.Tails.{tail_of}
use Rattle.rp_handles.proofs.Decks.{each_ok}
use Rattle.rp_handles.specs.Devices.{OpensDevice, header_bytes}
use Rattle.rp_handles.specs.Handles.{KeepsNode}
use Rattle.rp_handles.proofs.device.open_device.Goals as goal

pub returns-clause-ok : goal.returns-clause-ok
returns-clause-ok c =
    let rest : c.split_at.result.1.now ≡ drop header_bytes c.args.device.now = search rules in
    let begins : starts_with nat_eq c.args.device.now c.in_ok-header.header ≡ true = sym c.starts_with.ensures.value ∙ c.if-not-starts_with.false in
    each_ok c.open_node.result
    (λ found. KeepsNode c.args.deck.now c.args.number c.split_at.result.1.now c.open_node.new.handle.kept found.records found.kept)
    (λ found. OpensDevice c.args.deck.now c.args.number c.args.device.now c.open_node.new.handle.kept found.records found.kept)
    (λ found opens. record {
      header = c.in_ok-header.header;
      has = c.in_ok-header.ensures.ok;
      begins = begins;
      opens = subst (λ (bytes : List ℕ). KeepsNode c.args.deck.now c.args.number bytes c.open_node.new.handle.kept found.records found.kept) rest opens;
    })
    c.open_node.ensures.ok

pub returns-clause-tail : goal.returns-clause-tail
returns-clause-tail c =
    let rest : c.split_at.result.1.now ≡ drop header_bytes c.args.device.now = search rules in
    each_ok c.open_node.result (λ found. found.tail ≡ tail_of (drop found.kept c.split_at.result.1.now)) (λ found. found.tail ≡ tail_of (drop found.kept (drop header_bytes c.args.device.now)))
    (λ found is. is ∙ ap (λ (bytes : List ℕ). tail_of (drop found.kept bytes)) rest)
    c.open_node.ensures.tail
