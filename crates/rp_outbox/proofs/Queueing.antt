-- Packets to be sent, one after another.
use Rattle.std.proofs.Common.{◌≡◌, ℕ, suc, ◌+◌, Bool, true, false, not, nat_eq, List, [], ◌∷◌, ◌++◌, map, if◌then◌else◌, sym, ap, ◌∙◌, arith, append_assoc, append-nil}
use Rattle.std.specs.Prelude.{filter, slice_set}
use Rattle.std.proofs.lemmas.List.{map-append}
use Rattle.std.proofs.lemmas.List.Elements.{filter-append}
use Rattle.rp_model.specs.rp_base.specs.Number.{IsNode}
use Rattle.rp_model.specs.rp_codec.specs.Message.{Message, IsPacket, MaySay}
use Rattle.rp_model.specs.rp_codec.specs.Text.{text_of}
use Rattle.rp_model.specs.rp_codec.specs.declared.packet.Body.{Body}
use Rattle.rp_model.specs.rp_codec.specs.declared.packet.Body.TheVariants as bodies
use Rattle.rp_model.specs.rp_codec.specs.declared.packet.Party.TheVariants.{Node}
use Rattle.rp_model.specs.rp_machine.specs.Replay.{one_to}
use Rattle.rp_model.specs.Says.{says, says_to_all, says_to_others}

-- ---- packets to several nodes

-- the text of a packet to one node, with another as its receiver
pub to_another : (me : ℕ) (body : Body) (text : List ℕ) (to place : ℕ) → text ≡ text_of (says me body me) → to ≡ place + 1
    → slice_set text 3 to ≡ text_of (says me body (place + 1))
to_another me body text to place is next = ap (λ (t : List ℕ). slice_set t 3 to) is ∙ ap (λ (k : ℕ). text_of (says me body k)) next

same_rules : (me k : ℕ) (body : Body) → MaySay (Node me) (Node me) body → MaySay (Node me) (Node k) body
same_rules me k (bodies.Call action) may = absurd may.0
same_rules me k (bodies.Reply number reply) may = absurd may.1
same_rules me k (bodies.Report first applied actions) may = absurd may.1
same_rules me k _ may = may

-- what a node may say to itself, it may say to each node
pub to_any_node : (me k : ℕ) (body : Body) → IsPacket (says me body me) → IsNode k → IsPacket (says me body k)
to_any_node me k body packet node = record {
  ranges = record { from = packet.ranges.from; to = node; body = packet.ranges.body };
  rules = same_rules me k body packet.rules;
}

-- one packet more, after these
packet_then : (sent said : List Message) (xs : List Message) (m : Message) → said ≡ sent ++ xs → said ++ m ∷ [] ≡ sent ++ (xs ++ m ∷ [])
packet_then sent said xs m is = ap (λ (l : List Message). l ++ m ∷ []) is ∙ append_assoc sent xs (m ∷ [])

longer : (n : ℕ) → one_to (n + 1) ≡ one_to n ++ (n + 1) ∷ []
longer n =
    let next : n + 1 ≡ suc n = omega arith in
    ap one_to next ∙ ap (λ (k : ℕ). one_to n ++ k ∷ []) (sym next)

-- one node more hears it
pub one_node_more : (n me : ℕ) (body : Body) (sent said : List Message) → said ≡ sent ++ says_to_all n me body → said ++ says me body (n + 1) ∷ [] ≡ sent ++ says_to_all (n + 1) me body
one_node_more n me body sent said is =
    packet_then sent said (says_to_all n me body) (says me body (n + 1)) is
    ∙ ap (λ (l : List Message). sent ++ l) (sym (ap (map (says me body)) (longer n) ∙ map-append (says me body) (one_to n) ((n + 1) ∷ [])))

others_more : (n me : ℕ) (body : Body) (b : Bool) → nat_eq (n + 1) me ≡ b
    → says_to_others (n + 1) me body ≡ says_to_others n me body ++ map (says me body) (if not b then (n + 1) ∷ [] else [])
others_more n me body b e =
    let other : ℕ → Bool = λ k. not (nat_eq k me) in
    ap (λ (ks : List ℕ). map (says me body) (filter other ks)) (longer n)
    ∙ ap (map (says me body)) (filter-append other (one_to n) ((n + 1) ∷ []))
    ∙ map-append (says me body) (filter other (one_to n)) (filter other ((n + 1) ∷ []))
    ∙ ap (λ (t : Bool). says_to_others n me body ++ map (says me body) (if not t then (n + 1) ∷ [] else [])) e

pub other_node_more : (n me : ℕ) (body : Body) (sent said : List Message) → said ≡ sent ++ says_to_others n me body → nat_eq (n + 1) me ≡ false
    → said ++ says me body (n + 1) ∷ [] ≡ sent ++ says_to_others (n + 1) me body
other_node_more n me body sent said is e = packet_then sent said (says_to_others n me body) (says me body (n + 1)) is ∙ ap (λ (l : List Message). sent ++ l) (sym (others_more n me body false e))

pub own_node_left : (n me : ℕ) (body : Body) (sent said : List Message) → said ≡ sent ++ says_to_others n me body → nat_eq (n + 1) me ≡ true
    → said ≡ sent ++ says_to_others (n + 1) me body
own_node_left n me body sent said is e = is ∙ ap (λ (l : List Message). sent ++ l) (sym (others_more n me body true e ∙ append-nil (says_to_others n me body)))
