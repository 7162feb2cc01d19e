-- A call that is answered at once, so that no call waits.
use Rattle.std.proofs.Common.{◌≡◌, List, [], ◌∷◌, ◌++◌, sym, subst}
use Rattle.rp_base.specs.Sets.{Has}
use Rattle.rp_base.specs.declared.action.Action.{Action}
use Rattle.rp_base.specs.declared.reply.Answer.{Answer}
use Rattle.rp_machine.specs.Calls.{CallName, calls_of, call_of, AccountsFor}

-- an action that is no call has no answer
pub none_answered : (action : Action) → calls_of action ≡ [] → AccountsFor [] action [] []
none_answered action is =
    record {
      distinct = tt;
      known = λ call h. absurd h;
      waits = λ call. (
        λ h. absurd h,
        λ h. subst (λ (calls : List CallName). Has call (calls ++ [])) is h.0,
      );
    }

-- the answer of a call is its own
pub own_answered : (action : Action) (answer : Answer) → calls_of action ≡ call_of answer ∷ []
    → AccountsFor [] action (answer ∷ []) []
own_answered action answer is =
    record {
      distinct = (λ h. h, tt);
      known = λ call h. subst (λ (calls : List CallName). Has call (calls ++ [])) (sym is) h;
      waits = λ call. (
        λ h. absurd h,
        λ h. absurd (h.1 (subst (λ (calls : List CallName). Has call (calls ++ [])) is h.0)),
      );
    }
