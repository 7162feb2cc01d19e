-- The replies of a replay of right actions fit their type, as the machine's do.
use Rattle.std.proofs.Common.{◌≡◌, Bool, true, false, List, [], ◌∷◌, ◌++◌, if◌then◌else◌, refl, inl, inr}
use Rattle.rp_base.specs.Sets.{Has}
use Rattle.rp_base.specs.Action.{IsRight}
use Rattle.rp_base.specs.Right.{IsReply}
use Rattle.rp_base.specs.declared.action.Action.{Action}
use Rattle.rp_base.specs.declared.reply.Answer.{Answer}
use Rattle.rp_base.proofs.Members.{has_split}
use Rattle.rp_machine.specs.Calls.{CallName, MayApply, AccountsFor}
use Rattle.rp_machine.specs.Replay.{counts, Replayed, unmoved, replay_step, replay_from, replay_of}
use Rattle.rp_machine.proofs.Applying.{AllRight, IsAccounted, taken, may_apply, accounted_start, accounted_if}

-- each of these replies fits
abbrev pub AreReplies : List Answer → Type 0
AreReplies given = (answer : Answer) → Has answer given → IsReply answer.reply

both_fit : (xs ys : List Answer) → AreReplies xs → AreReplies ys → AreReplies (xs ++ ys)
both_fit xs ys left right answer h = elim (has_split answer xs ys h) [ inl before ↦ left answer before | inr following ↦ right answer following ]

module _ {S P : Type 0} (next : S → Action → S) (answers : S → Action → List Answer) (waiting : S → List CallName) (begin : P → S) (runs : P → S → Type 0)
    (none_waits : (program : P) → waiting (begin program) ≡ [])
    (starts : (program : P) → runs program (begin program))
    (keeps : (program : P) (s : S) (action : Action) → runs program s → IsRight action → MayApply (waiting s) action → runs program (next s action))
    (accounts : (program : P) (s : S) (action : Action) → runs program s → IsRight action → MayApply (waiting s) action → AccountsFor (waiting s) action (answers s action) (waiting (next s action)))
    (replies : (program : P) (s : S) (action : Action) → runs program s → IsRight action → MayApply (waiting s) action → AreReplies (answers s action))
  where
    abbrev IsFine : P → Replayed S → Type 0
    IsFine program r = IsAccounted next answers waiting begin runs none_waits starts keeps accounts program r

    fit_if : (program : P) (r : Replayed S) (action : Action) (b : Bool) → counts r.kept r.given action ≡ b → IsFine program r → IsRight action → AreReplies r.given
        → AreReplies (let after : Replayed S = if b then taken next answers waiting begin runs none_waits starts keeps accounts r action else r in after.given)
    fit_if program r action true e fine right old =
        both_fit r.given (answers r.state action) old
        (replies program r.state action fine.inside right (may_apply next answers waiting begin runs none_waits starts keeps accounts program r action fine e))
    fit_if program r action false e fine right old = old

    fit_from : (program : P) (r : Replayed S) (rest : List Action) → IsFine program r → AllRight rest → AreReplies r.given → AreReplies (replay_from next answers r rest).given
    fit_from program r [] fine right old = old
    fit_from program r (action ∷ rest) fine right old =
        fit_from program (replay_step next answers r action) rest
        (accounted_if next answers waiting begin runs none_waits starts keeps accounts program r action (counts r.kept r.given action) refl fine (right action (inl refl)))
        (λ other h. right other (inr h))
        (fit_if program r action (counts r.kept r.given action) refl fine (right action (inl refl)) old)

    pub replies_fit : (program : P) (actions : List Action) → AllRight actions → AreReplies (replay_of next answers (begin program) actions).given
    replies_fit program actions right =
        fit_from program (unmoved (begin program)) actions (accounted_start next answers waiting begin runs none_waits starts keeps accounts program) right (λ answer h. absurd h)
