-- What a request in bytes asks for is within the ranges of its numbers, and its packet was sent.
use Rattle.std.proofs.Common.{◌≡◌, ℕ, ◌+◌, ◌<◌, Bool, true, false, cond, Option, Some, None, Result, Ok, Err, List, [], ◌∷◌, length, inl, inr, ◌⊎◌, refl, sym, ap, subst, ◌∙◌, arith}
use Rattle.std.specs.Prelude.{◌^◌, ◌==◌, ◌&&◌, nat_le, nat_lt, not, ℤ, FitsSigned}
use Rattle.std.specs.Int.{w16, w32, w64, from_be_bytes, cast_signed}
use Rattle.std.proofs.Math.Facts.{sfits_to_z}
use Rattle.std.proofs.lemmas.Bool.{eqb-true, leb-true, and_parts}
use Rattle.rp_base.specs.Action.{IsIndex, is_right_operation}
use Rattle.rp_base.specs.Number.{IsPosition, IsNode, in_range}
use Rattle.rp_base.specs.Ranges.{Range, range_of}
use Rattle.rp_base.specs.Sets.{Has}
use Rattle.rp_base.specs.declared.action.Operation.{Operation}
use Rattle.rp_base.specs.declared.fault.Fault.{Fault}
use Rattle.rp_base.specs.declared.fault.PacketReason.{PacketReason}
use Rattle.rp_model.specs.rp_codec.specs.Message.{Message, IsPacket}
use Rattle.rp_model.specs.rp_codec.specs.Reading.{all_of}
use Rattle.rp_model.specs.rp_codec.specs.Text.{text_of}
use Rattle.rp_model.specs.rp_codec.proofs.Decoded.{whole_again}
use Rattle.rp_model.specs.Effect as nodes
use Rattle.rp_model.specs.Effect.{NodeInput}
use Rattle.rp_world.specs.rp_rules.specs.Inputs.{packet_given}
use Rattle.rp_requests.specs.Requests.{Asked, Step, Applied, Image, LastAnswer, Left, Pending, Counted, Occurred, given, lead_asked, interrupt_asked, tick_asked, report_asked, range_if, range_asked, counted_asked, occurred_asked, question_asked, asked_of_kind, asked_of, ask_asked}
use Rattle.rp_requests.specs.TaskRequests.{TaskAsked, MakeCall, SendAgain, TakePacket, operation_numbered, is_party, arg_at, call_with, call_if, call_asked, again_asked, task_asked_by, task_asked_of}
use Rattle.rp_installations.specs.Pending.{MayCome}
use Rattle.rp_installations.specs.Moves.{AreBytes, WasHandedOn, node_receives_byte, task_receives_byte}

-- every packet that was handed on is the text of one that was sent
pub record AllTexts (handed : List (List ℕ)) (sent : List Message) : Type 0 where
  pub text : (packet : List ℕ) → Has packet handed → (m : Message) × Has m sent × (packet ≡ text_of m)
  pub packets : (m : Message) → Has m sent → IsPacket m

if_cases : {A : Type 0} (b : Bool) (x y z : A) → cond b x y ≡ z → ((b ≡ true) × (x ≡ z)) ⊎ ((b ≡ false) × (y ≡ z))
if_cases true x y z e = inl (refl, e)
if_cases false x y z e = inr (refl, e)

two_bytes : (a b : ℕ) → a < 2 ^ 8 → b < 2 ^ 8 → from_be_bytes w16 (a ∷ b ∷ []) < 2 ^ 16
two_bytes a b h k = omega (arith, h, k)

four_bytes : (a b c d : ℕ) → a < 2 ^ 8 → b < 2 ^ 8 → c < 2 ^ 8 → d < 2 ^ 8 → from_be_bytes w32 (a ∷ b ∷ c ∷ d ∷ []) < 2 ^ 32
four_bytes a b c d h k l m = omega (arith, h, k, l, m)

same_input : (x y : NodeInput) → given x ≡ Some (Step (Ok y)) → x ≡ y
same_input x y e = cc

-- what may come where this is asked for
abbrev ComesIf : List Message → Option Asked → Type 0
ComesIf sent asked = (input : NodeInput) → asked ≡ Some (Step (Ok input)) → MayCome sent input

module _ (sent : List Message) where
  given_comes : (x : NodeInput) → MayCome sent x → ComesIf sent (given x)
  given_comes x may input e = subst (MayCome sent) (same_input x input e) may

  none_comes : ComesIf sent None
  none_comes input e = absurd (cc)

  if_comes : (b : Bool) (x y : Option Asked) → (b ≡ true → ComesIf sent x) → (b ≡ false → ComesIf sent y) → ComesIf sent (cond b x y)
  if_comes true x y yes_so no_so = yes_so refl
  if_comes false x y yes_so no_so = no_so refl

  lead_comes : (operands : List ℕ) → AreBytes operands → ComesIf sent (lead_asked operands)
  lead_comes [] bytes = given_comes (nodes.Lead None) tt
  lead_comes (a ∷ []) bytes = none_comes
  lead_comes (a ∷ b ∷ []) bytes =
      let n = from_be_bytes w16 (a ∷ b ∷ []) in
      if_comes (nat_le 1 n) (given (nodes.Lead (Some n))) None (λ least. given_comes (nodes.Lead (Some n)) (leb-true 1 n least, two_bytes a b (bytes a (inl refl)) (bytes b (inr (inl refl))))) (λ _. none_comes)
  lead_comes (a ∷ b ∷ c ∷ rest) bytes = none_comes

  interrupt_comes : (operands : List ℕ) → AreBytes operands → ComesIf sent (interrupt_asked operands)
  interrupt_comes [] bytes = none_comes
  interrupt_comes (source ∷ []) bytes = none_comes
  interrupt_comes (source ∷ a ∷ []) bytes = none_comes
  interrupt_comes (source ∷ a ∷ b ∷ []) bytes = none_comes
  interrupt_comes (source ∷ a ∷ b ∷ c ∷ []) bytes = none_comes
  interrupt_comes (source ∷ a ∷ b ∷ c ∷ d ∷ []) bytes =
      let n = from_be_bytes w32 (a ∷ b ∷ c ∷ d ∷ []) in
      if_comes (nat_le 1 source && nat_le source 8 && nat_le 1 n) (given (nodes.Interrupt source n)) None
      (λ tests. let outer = and_parts (nat_le 1 source && nat_le source 8) (nat_le 1 n) tests in
      let inner = and_parts (nat_le 1 source) (nat_le source 8) outer.0 in
      given_comes (nodes.Interrupt source n) (
        (leb-true 1 source inner.0, leb-true source 8 inner.1),
        (leb-true 1 n outer.1, four_bytes a b c d (bytes a (inr (inl refl))) (bytes b (inr (inr (inl refl)))) (bytes c (inr (inr (inr (inl refl))))) (bytes d (inr (inr (inr (inr (inl refl))))))),
      ))
      (λ _. none_comes)
  interrupt_comes (source ∷ a ∷ b ∷ c ∷ d ∷ e ∷ rest) bytes = none_comes

  tick_comes : (operands : List ℕ) → AreBytes operands → ComesIf sent (tick_asked operands)
  tick_comes [] bytes = none_comes
  tick_comes (a ∷ []) bytes = none_comes
  tick_comes (a ∷ b ∷ []) bytes = none_comes
  tick_comes (a ∷ b ∷ c ∷ []) bytes = none_comes
  tick_comes (a ∷ b ∷ c ∷ d ∷ []) bytes =
      given_comes (nodes.Tick (from_be_bytes w32 (a ∷ b ∷ c ∷ d ∷ []))) (four_bytes a b c d (bytes a (inl refl)) (bytes b (inr (inl refl))) (bytes c (inr (inr (inl refl)))) (bytes d (inr (inr (inr (inl refl))))))
  tick_comes (a ∷ b ∷ c ∷ d ∷ e ∷ rest) bytes = none_comes

  report_comes : (operands : List ℕ) → AreBytes operands → ComesIf sent (report_asked operands)
  report_comes [] bytes = none_comes
  report_comes (a ∷ []) bytes = none_comes
  report_comes (a ∷ b ∷ []) bytes =
      let n = from_be_bytes w16 (a ∷ b ∷ []) in
      if_comes (nat_le 1 n) (given (nodes.Report n)) None (λ least. given_comes (nodes.Report n) (leb-true 1 n least, two_bytes a b (bytes a (inl refl)) (bytes b (inr (inl refl))))) (λ _. none_comes)
  report_comes (a ∷ b ∷ c ∷ rest) bytes = none_comes

  range_comes_if : (first count : ℕ) → IsPosition first → count < 2 ^ 8 → (made : Result Range Fault) → ((range : Range) → made ≡ Ok range → (range.first ≡ first) × (range.count ≡ count)) → ComesIf sent (range_if made)
  range_comes_if first count position few (Ok range) is =
      let same = is range refl in
      given_comes (nodes.LeadRange range.first range.count) (subst IsPosition (sym same.0) position, subst (λ (n : ℕ). n < 2 ^ 8) (sym same.1) few)
  range_comes_if first count position few (Err fault) is = none_comes

  range_is : (first count : ℕ) (range : Range) → range_of first count ≡ Ok range → (range.first ≡ first) × (range.count ≡ count)
  range_is first count range e =
      elim (if_cases (not (in_range 1 64 count)) (Err _) _ (Ok range) e) [
        | inl wrong ↦ absurd (cc)
        | inr fits ↦ elim (if_cases (nat_lt (2 ^ 16) (first + count)) (Err _) _ (Ok range) fits.1) [
          | inl above ↦ absurd (cc)
          | inr within ↦ let same : (let r : Range = record { first = first; count = count } in r) ≡ range = cc in (sym (ap (λ (r : Range). r.first) same), sym (ap (λ (r : Range). r.count) same))
        ]
      ]

  range_comes : (operands : List ℕ) → AreBytes operands → ComesIf sent (range_asked operands)
  range_comes [] bytes = none_comes
  range_comes (a ∷ []) bytes = none_comes
  range_comes (a ∷ b ∷ []) bytes = none_comes
  range_comes (a ∷ b ∷ count ∷ []) bytes =
      let n = from_be_bytes w16 (a ∷ b ∷ []) in
      if_comes (nat_le 1 n) (range_if (range_of n count)) None
      (λ least. range_comes_if n count (leb-true 1 n least, two_bytes a b (bytes a (inl refl)) (bytes b (inr (inl refl)))) (bytes count (inr (inr (inl refl)))) (range_of n count) (range_is n count))
      (λ _. none_comes)
  range_comes (a ∷ b ∷ c ∷ d ∷ rest) bytes = none_comes

  ask_comes : (operands : List ℕ) → AreBytes operands → ComesIf sent (ask_asked operands)
  ask_comes [] bytes = none_comes
  ask_comes (node ∷ []) bytes =
      if_comes (in_range 1 7 node) (given (nodes.Ask node)) None
      (λ tests. let both = and_parts (nat_le 1 node) (nat_le node 7) tests in given_comes (nodes.Ask node) (leb-true 1 node both.0, leb-true node 7 both.1)) (λ _. none_comes)
  ask_comes (a ∷ b ∷ rest) bytes = none_comes

  counted_comes : (operands : List ℕ) → ComesIf sent (counted_asked operands)
  counted_comes [] = none_comes
  counted_comes (task ∷ []) = if_comes (nat_le 1 task && nat_le task 8) (Some (Counted task)) None (λ _ input e. absurd (cc)) (λ _. none_comes)
  counted_comes (a ∷ b ∷ rest) = none_comes

  occurred_comes : (operands : List ℕ) → ComesIf sent (occurred_asked operands)
  occurred_comes [] = none_comes
  occurred_comes (source ∷ []) = if_comes (nat_le 1 source && nat_le source 8) (Some (Occurred source)) None (λ _ input e. absurd (cc)) (λ _. none_comes)
  occurred_comes (a ∷ b ∷ rest) = none_comes

  question_comes : (kind : ℕ) (operands : List ℕ) → ComesIf sent (question_asked kind operands)
  question_comes kind [] =
      if_comes (kind == 16) (Some Applied) _ (λ _. asks_none Applied (λ input e. cc))
      (λ _. if_comes (kind == 17) (Some Image) _ (λ _. asks_none Image (λ input e. cc))
      (λ _. if_comes (kind == 18) (Some LastAnswer) _ (λ _. asks_none LastAnswer (λ input e. cc))
      (λ _. if_comes (kind == 19) (Some Left) _ (λ _. asks_none Left (λ input e. cc))
      (λ _. if_comes (kind == 20) (Some Pending) None (λ _. asks_none Pending (λ input e. cc)) (λ _. none_comes)))))
    where
      asks_none : (asked : Asked) → ((input : NodeInput) → Some asked ≡ Some (Step (Ok input)) → ⊥) → ComesIf sent (Some asked)
      asks_none asked never input e = absurd (never input e)
  question_comes kind (a ∷ rest) = none_comes

  packet_comes : (read : Result Message PacketReason) → ((m : Message) → read ≡ Ok m → Has m sent) → ComesIf sent (Some (Step (packet_given read)))
  packet_comes (Ok m) is = given_comes (nodes.Receive m) (is m refl)
  packet_comes (Err reason) is = λ input e. absurd (cc)

-- a packet that arrives was sent
pub arrives_sent : (handed : List (List ℕ)) (sent : List Message) (operands : List ℕ) → AllTexts handed sent → Has operands handed → (m : Message) → all_of operands ≡ Ok m → Has m sent
arrives_sent handed sent operands all has m read =
    let found = all.text operands has in
    let again : all_of operands ≡ Ok found.0 = ap all_of found.2 ∙ whole_again found.0 (all.packets found.0 found.1) in
    let same : found.0 ≡ m = cc in
    subst (λ (x : Message). Has x sent) same found.1

pub may_come : (handed : List (List ℕ)) (sent : List Message) (request : List ℕ) → AllTexts handed sent → AreBytes request → WasHandedOn handed node_receives_byte request → ComesIf sent (asked_of request)
unfolding asked_of asked_of_kind
may_come handed sent [] all bytes arrived = none_comes sent
may_come handed sent (kind ∷ operands) all bytes arrived =
    let rest : AreBytes operands = λ byte has. bytes byte (inr has) in
    if_comes sent (kind == 1) _ _
    (λ is. packet_comes sent (all_of operands) (arrives_sent handed sent operands all (arrived operands (ap (λ (k : ℕ). k ∷ operands) (eqb-true kind 1 is)))))
    (λ _. if_comes sent (kind == 2) _ _ (λ _. lead_comes sent operands rest)
    (λ _. if_comes sent (kind == 3) _ _ (λ _. interrupt_comes sent operands rest)
    (λ _. if_comes sent (kind == 4) _ _ (λ _. tick_comes sent operands rest)
    (λ _. if_comes sent (kind == 5) _ _ (λ _. report_comes sent operands rest)
    (λ _. if_comes sent (kind == 6) _ _ (λ _. range_comes sent operands rest)
    (λ _. if_comes sent (kind == 7) _ _ (λ _. ask_comes sent operands rest)
    (λ _. if_comes sent (kind == 21) _ _ (λ _. counted_comes sent operands)
    (λ _. if_comes sent (kind == 22) _ _ (λ _. occurred_comes sent operands)
    (λ _. question_comes sent kind operands)))))))))

-- ---- tasks

-- what a request to a task asks for is within the ranges of its numbers, and its packet was sent
abbrev pub IsRightAsked : List Message → Option TaskAsked → Type 0
IsRightAsked sent (Some (MakeCall node object operation arg)) =
    IsNode node × IsIndex object × (in_range 1 8 object ≡ true) × (is_right_operation operation ≡ true) × FitsSigned w64 arg
IsRightAsked sent (Some (SendAgain node)) = IsNode node
IsRightAsked sent (Some (TakePacket packet)) = (m : Message) → all_of packet ≡ Ok m → Has m sent
IsRightAsked sent None = Unit {0}

module _ (sent : List Message) where
  if_right : (b : Bool) (x y : Option TaskAsked) → (b ≡ true → IsRightAsked sent x) → (b ≡ false → IsRightAsked sent y) → IsRightAsked sent (cond b x y)
  if_right true x y yes_so no_so = yes_so refl
  if_right false x y yes_so no_so = no_so refl

  is_node_if : (node : ℕ) → is_party node ≡ true → IsNode node
  is_node_if node e = let both = and_parts (nat_le 1 node) (nat_le node 7) e in (leb-true 1 node both.0, leb-true node 7 both.1)

  call_right_with : (node object : ℕ) (operation : Operation) (arg : Option ℤ) → IsNode node → ((z : ℤ) → arg ≡ Some z → FitsSigned w64 z) → IsRightAsked sent (call_with node object operation arg)
  call_right_with node object operation None is fits = tt
  call_right_with node object operation (Some arg) is fits =
      if_right (nat_le 1 object && nat_le object 8 && is_right_operation operation) (Some (MakeCall node object operation arg)) None
      (λ tests. let outer = and_parts (nat_le 1 object && nat_le object 8) (is_right_operation operation) tests in
      let inner = and_parts (nat_le 1 object) (nat_le object 8) outer.0 in
      (is, (leb-true 1 object inner.0, leb-true object 8 inner.1), outer.0, outer.1, fits arg refl))
      (λ _. tt)

  call_right_if : (node object : ℕ) (operation : Option Operation) (arg : Option ℤ) → IsNode node → ((z : ℤ) → arg ≡ Some z → FitsSigned w64 z) → IsRightAsked sent (call_if node object operation arg)
  call_right_if node object None arg is fits = tt
  call_right_if node object (Some operation) arg is fits = call_right_with node object operation arg is fits

  eight_bytes : (bytes : List ℕ) → length bytes ≡ 8 → AreBytes bytes → from_be_bytes w64 bytes < 2 ^ 64
  eight_bytes (a ∷ b ∷ c ∷ d ∷ e ∷ f ∷ g ∷ h ∷ []) long bytes =
      let p0 = bytes a (inl refl) in
      let p1 = bytes b (inr (inl refl)) in
      let p2 = bytes c (inr (inr (inl refl))) in
      let p3 = bytes d (inr (inr (inr (inl refl)))) in
      let p4 = bytes e (inr (inr (inr (inr (inl refl))))) in
      let p5 = bytes f (inr (inr (inr (inr (inr (inl refl)))))) in
      let p6 = bytes g (inr (inr (inr (inr (inr (inr (inl refl))))))) in
      let p7 = bytes h (inr (inr (inr (inr (inr (inr (inr (inl refl)))))))) in
      omega (arith, p0, p1, p2, p3, p4, p5, p6, p7)
  eight_bytes bytes long are = absurd (omega (arith, long))

  arg_fits : (bytes : List ℕ) → AreBytes bytes → (z : ℤ) → arg_at bytes ≡ Some z → FitsSigned w64 z
  arg_fits bytes are z e =
      elim (if_cases (length bytes == 8) (Some (cast_signed w64 (from_be_bytes w64 bytes))) None (Some z) e) [
        | inl eight ↦
            let same : cast_signed w64 (from_be_bytes w64 bytes) ≡ z = cc in
            subst (FitsSigned w64) same (sfits_to_z (record { fits = eight_bytes bytes (eqb-true (length bytes) 8 eight.0) are }))
        | inr other ↦ absurd (cc)
      ]

  call_right : (operands : List ℕ) → AreBytes operands → IsRightAsked sent (call_asked operands)
  call_right [] bytes = tt
  call_right (a ∷ []) bytes = tt
  call_right (a ∷ b ∷ []) bytes = tt
  call_right (a ∷ b ∷ c ∷ []) bytes = tt
  call_right (node ∷ object ∷ kind ∷ index ∷ arg) bytes =
      if_right (is_party node) (call_if node object (operation_numbered kind index) (arg_at arg)) None
      (λ party. call_right_if node object (operation_numbered kind index) (arg_at arg) (is_node_if node party) (arg_fits arg (λ byte has. bytes byte (inr (inr (inr (inr has)))))))
      (λ _. tt)

  again_right : (operands : List ℕ) → IsRightAsked sent (again_asked operands)
  again_right [] = tt
  again_right (node ∷ []) = if_right (is_party node) (Some (SendAgain node)) None (λ party. is_node_if node party) (λ _. tt)
  again_right (a ∷ b ∷ rest) = tt

pub right_asked : (handed : List (List ℕ)) (sent : List Message) (request : List ℕ) → AllTexts handed sent → AreBytes request → WasHandedOn handed task_receives_byte request → IsRightAsked sent (task_asked_of request)
unfolding task_asked_of task_asked_by
right_asked handed sent [] all bytes arrived = tt
right_asked handed sent (kind ∷ operands) all bytes arrived =
    let rest : AreBytes operands = λ byte has. bytes byte (inr has) in
    if_right sent (kind == 1) _ _ (λ _. call_right sent operands rest)
    (λ _. if_right sent (kind == 2) _ _ (λ _. again_right sent operands)
    (λ _. if_right sent (kind == 3) _ _ (λ is. arrives_sent handed sent operands all (arrived operands (ap (λ (k : ℕ). k ∷ operands) (eqb-true kind 3 is)))) (λ _. tt)))
