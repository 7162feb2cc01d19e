-- One answer more, of which the call is pending or not.
use Rattle.std.proofs.Common.{◌≡◌, ℕ, ◌+◌, ◌<◌, Bool, true, false, List, [], ◌∷◌, ◌++◌, length, take, get_or, map, if◌then◌else◌, sym, ap, ◌∙◌}
use Rattle.std.proofs.lemmas.List.{append-nil, map-append, take_more}
use Rattle.std.proofs.lemmas.List.Elements.{filter-append}
use Rattle.std.specs.Prelude.{filter}
use Rattle.std.specs.List.{list_any}
use Rattle.rp_base.specs.declared.action.Action.{Action}
use Rattle.rp_base.specs.declared.reply.Answer.{Answer}
use Rattle.rp_codec.specs.Message.{Message}
use Rattle.rp_codec.specs.declared.packet.Body.TheVariants.{Reply}
use Rattle.rp_model.specs.Says.{says_to_task}
use Rattle.rp_model.specs.Pending.{is_answered_by, replies_to}

abbrev reply_of : ℕ → Answer → Message
reply_of me answer = says_to_task me (Reply answer.number answer.reply) answer.task

replies_more : (me : ℕ) (pending : List Action) (given : List Answer) (i : ℕ) (answer : Answer) (b : Bool) → i < length given → answer ≡ get_or given i answer
    → list_any (is_answered_by answer) pending ≡ b
    → replies_to me pending (take (i + 1) given) ≡ replies_to me pending (take i given) ++ map (reply_of me) (if b then answer ∷ [] else [])
replies_more me pending given i answer b lt read e =
    let test : Answer → Bool = λ other. list_any (is_answered_by other) pending in
    let before = take i given in
    let longer : take (i + 1) given ≡ before ++ answer ∷ [] = take_more given i answer lt ∙ ap (λ (y : Answer). before ++ y ∷ []) (sym read) in
    ap (replies_to me pending) longer
    ∙ ap (map (reply_of me)) (filter-append test before (answer ∷ []))
    ∙ map-append (reply_of me) (filter test before) (filter test (answer ∷ []))
    ∙ ap (λ (t : Bool). map (reply_of me) (filter test before) ++ map (reply_of me) (if t then answer ∷ [] else [])) e

-- the call is pending, so a reply comes after the others
pub replies_one_more : (me : ℕ) (pending : List Action) (given : List Answer) (i : ℕ) (answer : Answer) → i < length given → answer ≡ get_or given i answer
    → list_any (is_answered_by answer) pending ≡ true
    → replies_to me pending (take i given) ++ says_to_task me (Reply answer.number answer.reply) answer.task ∷ [] ≡ replies_to me pending (take (i + 1) given)
replies_one_more me pending given i answer lt read e = sym (replies_more me pending given i answer true lt read e)

-- it is not, so none comes
pub replies_no_more : (me : ℕ) (pending : List Action) (given : List Answer) (i : ℕ) (answer : Answer) → i < length given → answer ≡ get_or given i answer
    → list_any (is_answered_by answer) pending ≡ false
    → replies_to me pending (take i given) ≡ replies_to me pending (take (i + 1) given)
replies_no_more me pending given i answer lt read e =
    sym (replies_more me pending given i answer false lt read e ∙ append-nil (replies_to me pending (take i given)))
