-- Bytes that name another kind bring no call.
use Rattle.std.proofs.Common.{◌≡◌, true, false, sym, ap, ◌∙◌, arith}
use Rattle.rp_codec.specs.Kind.{kind_in}
use Rattle.rp_codec.proofs.Steps.{IsBytes}
use Rattle.rp_requests.specs.Timing.{is_call}
use Rattle.rp_requests.proofs.Timely.{other_text}
use Rattle.rp_requests.proofs.node.HandleNode.is_early_text.Goals as goal

pub returns-then-not-is_call : goal.returns-then-not-is_call
returns-then-not-is_call g c =
    let m = g.M.Machine in
    let bytes : IsBytes c.args.bytes.now = λ i. omega (arith, c.type_inv.bytes i) in
    let other : is_call (kind_in c.args.bytes.now) ≡ false = ap is_call (sym c.of_text.ensures) ∙ sym c.is_call.ensures ∙ c.if-not-is_call.true in
    sym (other_text m.next m.answers c.args.self.now.replica c.args.bytes.now bytes (λ is. let no : true ≡ false = sym (ap is_call is) ∙ other in absurd (cc)))
