-- A packet that is read is the packet that was written, what was written is read again, and each reason says what the
-- bytes are.
use Rattle.std.proofs.Common.{◌≡◌, ℕ, ◌+◌, ◌-◌, ◌≤◌, leb, eqb, ◌&&◌, List, ◌∷◌, ◌++◌, Some, Ok, refl, ap, ◌∙◌, append_assoc, arith}
use Rattle.std.proofs.lemmas.Bool.{and_parts, eqb-true, leb-true, le-leb}
use Rattle.rp_codec.specs.declared.packet.Party.{Party}
use Rattle.rp_codec.specs.declared.packet.Party.TheVariants.{Node, Task, Audit}
use Rattle.rp_codec.specs.declared.packet.Body.{Body}
use Rattle.rp_codec.specs.declared.packet.Body.TheVariants as bodies
use Rattle.rp_codec.specs.declared.kind.Kind.{Kind}
use Rattle.rp_codec.specs.Kind.{kind_of, number_of_kind, kind_of_body, Role, ANode, ATask, TheAudit, sender_role, receiver_role}
use Rattle.rp_codec.specs.declared.version.Version.{Version}
use Rattle.rp_codec.specs.Message.{Message, IsParty, IsNodeParty, IsTaskParty, IsAudit, MaySay, IsPacket}
use Rattle.rp_codec.specs.Text.{party_text, kind_number, body_text_at, text_at, HasText}
use Rattle.rp_codec.specs.Reading.{is_node, node_at, task_at, audit_at, role_at, said_at, packet_at}
use Rattle.rp_codec.proofs.RuleTests.{is_node_decides}
use Rattle.rp_codec.proofs.Steps.{IsBytes, Yields, Took, then, guarded}
use Rattle.rp_codec.proofs.FieldLaws.{TookByte, byte_took}
use Rattle.rp_codec.proofs.VersionLaws.{version_of_number}
use Rattle.rp_codec.proofs.BodyLaws.{HasRole, TookBody, body_took, body_again}

-- ---- parties

abbrev TookRole : Role → List ℕ → Party × List ℕ → Type 0
TookRole role bytes = Took party_text (λ party. IsParty party × HasRole role party) bytes

node_took : (bytes : List ℕ) → IsBytes bytes → Yields (TookRole ANode bytes) (node_at bytes)
unfolding node_at
node_took bytes h =
    then (TookByte bytes) (TookRole ANode bytes) _ _ (byte_took bytes h)
    (λ n t. guarded (TookRole ANode bytes) (is_node n.0) n _ (λ e. record { parts = t.parts; rest = t.rest; right = ((is_node_decides n.0).0 e, tt) }))

task_took : (bytes : List ℕ) → IsBytes bytes → Yields (TookRole ATask bytes) (task_at bytes)
unfolding task_at
task_took bytes h =
    then (TookByte bytes) (TookRole ATask bytes) _ _ (byte_took bytes h)
    (λ n t. guarded (TookRole ATask bytes) (leb 17 n.0 && leb n.0 24) n _
    (λ e.
    let ends = and_parts _ _ e in
    let low : 17 ≤ n.0 = leb-true _ _ ends.0 in
    let high : n.0 ≤ 24 = leb-true _ _ ends.1 in
    let back : n.0 ≡ 16 + (n.0 - 16) = omega arith in
    record { parts = t.parts ∙ ap (λ (b : ℕ). b ∷ n.1) back; rest = t.rest; right = ((omega arith, omega arith), tt) }))

audit_took : (bytes : List ℕ) → IsBytes bytes → Yields (TookRole TheAudit bytes) (audit_at bytes)
unfolding audit_at
audit_took bytes h =
    then (TookByte bytes) (TookRole TheAudit bytes) _ _ (byte_took bytes h)
    (λ n t. guarded (TookRole TheAudit bytes) (eqb n.0 32) n _
    (λ e. record { parts = t.parts ∙ ap (λ (b : ℕ). b ∷ n.1) (eqb-true _ _ e); rest = t.rest; right = (tt, tt) }))

role_took : (role : Role) (bytes : List ℕ) → IsBytes bytes → Yields (TookRole role bytes) (role_at role bytes)
unfolding role_at
role_took ANode bytes h = node_took bytes h
role_took ATask bytes h = task_took bytes h
role_took TheAudit bytes h = audit_took bytes h

node_again : (party : Party) (rest : List ℕ) → IsParty party → IsNodeParty party → node_at (party_text party ++ rest) ≡ Ok (party, rest)
unfolding node_at
node_again (Node n) rest range node = rw ((is_node_decides n).1 range) refl
node_again (Task t) rest range node = absurd node
node_again Audit rest range node = absurd node

task_again : (party : Party) (rest : List ℕ) → IsParty party → IsTaskParty party → task_at (party_text party ++ rest) ≡ Ok (party, rest)
unfolding task_at
task_again (Node n) rest range task = absurd task
task_again (Task t) rest range task =
    let back : 16 + t - 16 ≡ t = omega arith in
    rw (le-leb 17 (16 + t) (omega arith), le-leb (16 + t) 24 (omega arith), back) refl
task_again Audit rest range task = absurd task

audit_again : (party : Party) (rest : List ℕ) → IsAudit party → audit_at (party_text party ++ rest) ≡ Ok (party, rest)
unfolding audit_at
audit_again (Node n) rest audit = absurd audit
audit_again (Task t) rest audit = absurd audit
audit_again Audit rest audit = refl

role_again : (role : Role) (party : Party) (rest : List ℕ) → IsParty party → HasRole role party → role_at role (party_text party ++ rest) ≡ Ok (party, rest)
unfolding role_at
role_again ANode party rest range is = node_again party rest range is
role_again ATask party rest range is = task_again party rest range is
role_again TheAudit party rest range is = audit_again party rest is

-- ---- what is after the kind

abbrev pub said_text : Version → Message → List ℕ
said_text v m = party_text m.from ++ party_text m.to ++ body_text_at v m.body

abbrev pub IsPacketOf : Version → Kind → Message → Type 0
IsPacketOf v kind m = IsPacket m × HasText v m × (number_of_kind kind ≡ kind_number m.body)

abbrev pub TookSaid : Version → Kind → List ℕ → Message × List ℕ → Type 0
TookSaid v kind bytes = Took (said_text v) (IsPacketOf v kind) bytes

pub said_took : (v : Version) (kind : Kind) (bytes : List ℕ) → IsBytes bytes → Yields (TookSaid v kind bytes) (said_at v kind bytes)
unfolding said_at
said_took v kind bytes h =
    then (TookRole (sender_role kind) bytes) (TookSaid v kind bytes) _ _ (role_took (sender_role kind) bytes h)
    (λ from f. then (TookRole (receiver_role kind) from.1) (TookSaid v kind bytes) _ _ (role_took (receiver_role kind) from.1 f.rest)
    (λ to t. then (TookBody v kind from.0 to.1) (TookSaid v kind bytes) _ _ (body_took v kind from.0 to.1 t.rest)
    (λ body b. record {
      parts = rw (f.parts, t.parts, b.parts) (simp append_assoc);
      rest = b.rest;
      right = (
        record {
          ranges = record { from = f.right.0; to = t.right.0; body = b.right.ranges };
          rules = b.right.rules to.0 f.right.1 t.right.1;
        },
        b.right.has,
        b.right.number,
      );
    })))

-- a body's number names its kind, who may say the body may send that kind, and who may hear it may receive it
of_kind : (from to : Party) (body : Body) → MaySay from to body
    → (kind_of (kind_number body) ≡ Some (kind_of_body body)) × HasRole (sender_role (kind_of_body body)) from × HasRole (receiver_role (kind_of_body body)) to
of_kind from to (bodies.Promise position ballot last) rules = (refl, rules.0.0, rules.0.1)
of_kind from to (bodies.Accept position ballot action) rules = (refl, rules.0.0, rules.0.1)
of_kind from to (bodies.Accepted position ballot action) rules = (refl, rules.0.0, rules.0.1)
of_kind from to (bodies.Decided position action) rules = (refl, rules.0.0, rules.0.1)
of_kind from to (bodies.Nack position ballot bound) rules = (refl, rules.0.0, rules.0.1)
of_kind from to (bodies.PromiseRange range ballot votes) rules = (refl, rules.0.0, rules.0.1)
of_kind from to _ rules = (refl, rules.0, rules.1)

said_again : (v : Version) (m : Message) (rest : List ℕ) → IsPacket m → HasText v m → said_at v (kind_of_body m.body) (said_text v m ++ rest) ≡ Ok (m, rest)
unfolding said_at
said_again v m rest packet has =
    let kind : Kind = kind_of_body m.body in
    let parties = of_kind m.from m.to m.body packet.rules in
    let parts : said_text v m ++ rest ≡ party_text m.from ++ (party_text m.to ++ (body_text_at v m.body ++ rest)) = simp append_assoc in
    ap (said_at v kind) parts ∙ rw (role_again (sender_role kind) m.from (party_text m.to ++ (body_text_at v m.body ++ rest)) packet.ranges.from parties.1, role_again (receiver_role kind) m.to (body_text_at v m.body ++ rest) packet.ranges.to parties.2, body_again v m.from m.to m.body rest packet.ranges.body packet.rules has) refl

-- ---- whole packets

pub packet_again : (v : Version) (m : Message) (rest : List ℕ) → IsPacket m → HasText v m → packet_at (text_at v m ++ rest) ≡ Ok (m, rest)
unfolding packet_at
packet_again v m rest packet has =
    let of = of_kind m.from m.to m.body packet.rules in
    rw (version_of_number v, of.0) (said_again v m rest packet has)
