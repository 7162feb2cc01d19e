-- A list of actions that is read one after another.
use Rattle.std.proofs.Common.{◌≡◌, ℕ, suc, ◌+◌, ◌-◌, ◌<◌, ◌≤◌, List, [], ◌∷◌, ◌++◌, Ok, Err, refl, sym, ap, ◌∙◌, append_assoc, arith}
use Rattle.std.specs.Prelude.{IsOk}
use Rattle.std.specs.Int.{w16}
use Rattle.std.proofs.lemmas.Bool.{eq-eqb}
use Rattle.std.proofs.lemmas.List.{append-nil}
use Rattle.rp_base.specs.declared.fault.PacketReason.{PacketReason}
use Rattle.rp_base.specs.declared.action.Action.{Action}
use Rattle.rp_codec.specs.declared.version.Version.{Version}
use Rattle.rp_codec.specs.Message.{report_len}
use Rattle.rp_codec.specs.declared.packet.Body.TheVariants.{Report}
use Rattle.rp_codec.specs.Reading.{◌>>=◌, Read, byte_at, number_at, position_at, action_at, actions_at, report_at}

-- what is read after a list that was read
abbrev pub prefixed : {A : Type 0} → List A → Read (List A) → Read (List A)
prefixed front (Ok x) = Ok (front ++ x.0, x.1)
prefixed front (Err e) = Err e

-- n were read, and the others are where the rest begins
pub record HasRead (v : Version) (count : ℕ) (bytes : List ℕ) (done : ℕ) (front : List Action) (rest : List ℕ) : Type 0 where
  pub read : actions_at v count bytes ≡ prefixed front (actions_at v (count - done) rest)

pub prefixed_nil : {A : Type 0} (read : Read (List A)) → read ≡ prefixed [] read
prefixed_nil (Ok x) = refl
prefixed_nil (Err e) = refl

pub none_read : (v : Version) (count : ℕ) (bytes : List ℕ) → HasRead v count bytes 0 [] bytes
none_read v count bytes =
    let counted : count ≡ count - 0 = omega arith in
    record { read = prefixed_nil (actions_at v count bytes) ∙ ap (λ (k : ℕ). prefixed [] (actions_at v k bytes)) counted }

pub joined : {A : Type 0} (front : List A) (item : A) (others : Read (List A))
    → prefixed front (others >>= λ x. Ok (item ∷ x.0, x.1)) ≡ prefixed (front ++ item ∷ []) others
joined {A} front item (Ok x) = ap (λ (l : List A). Ok (l, x.1)) (sym (append_assoc front (item ∷ []) x.0))
joined {A} front item (Err e) = refl

read_step : (v : Version) (front : List Action) (left : ℕ) (rest : List ℕ) (action : Action) (after : List ℕ) → action_at v rest ≡ Ok (action, after)
    → prefixed front (actions_at v (suc left) rest) ≡ prefixed (front ++ action ∷ []) (actions_at v left after)
unfolding actions_at
read_step v front left rest action after e = rw e (joined front action (actions_at v left after))

pub one_more_read : (v : Version) (count : ℕ) (bytes : List ℕ) (done : ℕ) (front : List Action) (rest : List ℕ) (action : Action) (after : List ℕ)
    → HasRead v count bytes done front rest → done < count → action_at v rest ≡ Ok (action, after) → HasRead v count bytes (done + 1) (front ++ action ∷ []) after
one_more_read v count bytes done front rest action after h more e =
    let left : ℕ = count - (done + 1) in
    let counted : count - done ≡ suc left = omega arith in
    record { read = h.read ∙ ap (λ (k : ℕ). prefixed front (actions_at v k rest)) counted ∙ read_step v front left rest action after e }

fault_step : (v : Version) (front : List Action) (left : ℕ) (rest : List ℕ) (reason : PacketReason) → action_at v rest ≡ Err reason
    → prefixed front (actions_at v (suc left) rest) ≡ Err reason
unfolding actions_at
fault_step v front left rest reason e = rw e refl

pub fault_read : (v : Version) (count : ℕ) (bytes : List ℕ) (done : ℕ) (front : List Action) (rest : List ℕ) (reason : PacketReason)
    → HasRead v count bytes done front rest → done < count → action_at v rest ≡ Err reason → actions_at v count bytes ≡ Err reason
fault_read v count bytes done front rest reason h more e =
    let left : ℕ = count - (done + 1) in
    let counted : count - done ≡ suc left = omega arith in
    h.read ∙ ap (λ (k : ℕ). prefixed front (actions_at v k rest)) counted ∙ fault_step v front left rest reason e

last_step : (v : Version) (front : List Action) (rest : List ℕ) → prefixed front (actions_at v 0 rest) ≡ Ok (front, rest)
unfolding actions_at
last_step v front rest = ap (λ (l : List Action). Ok (l, rest)) (append-nil front)

pub all_read : (v : Version) (count : ℕ) (bytes : List ℕ) (done : ℕ) (front : List Action) (rest : List ℕ)
    → HasRead v count bytes done front rest → count ≤ done → actions_at v count bytes ≡ Ok (front, rest)
all_read v count bytes done front rest h whole =
    let counted : count - done ≡ 0 = omega arith in
    h.read ∙ ap (λ (k : ℕ). prefixed front (actions_at v k rest)) counted ∙ last_step v front rest

-- ---- what follows from a list that was read whole

pub no_fault : {A : Type 0} (read : Read (List A)) (reason : PacketReason) → read ≡ Err reason → IsOk read → ⊥
no_fault (Ok x) reason e ok = absurd cc
no_fault (Err other) reason e ok = absurd cc

pub same_list : {A : Type 0} (read : Read (List A)) (list : List A) (rest : List ℕ) → read ≡ Ok (list, rest) → (items : List A) (after : List ℕ) → read ≡ Ok (items, after) → list ≡ items
same_list {A} read list rest e items after f =
    let same : (list, rest) ≡ (items, after) = cc in
    ap (λ (p : List A × List ℕ). p.0) same

-- a report, field by field
pub report_found : (v : Version) (bytes after_first after_applied text stated after : List ℕ) (first applied count : ℕ) (actions : List Action)
    → position_at bytes ≡ Ok (first, after_first) → number_at w16 after_first ≡ Ok (applied, after_applied) → byte_at after_applied ≡ Ok (count, text)
    → count ≡ report_len first applied → stated ≡ text → actions_at v count text ≡ Ok (actions, after)
    → (actions_at v count stated ≡ Ok (actions, after)) × (report_at v bytes ≡ Ok (Report first applied actions, after))
unfolding report_at
report_found v bytes after_first after_applied text stated after first applied count actions e1 e2 e3 counted same e4 =
    (ap (actions_at v count) same ∙ e4, rw (e1, e2, e3, eq-eqb _ _ counted, e4) refl)
