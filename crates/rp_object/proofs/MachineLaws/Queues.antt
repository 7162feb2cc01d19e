-- What an action does to the queues of its object.
use Rattle.std.proofs.Common.{◌≡◌, ◌<◌, ◌-◌, List, [], ◌∷◌, ◌++◌, length, set, Option, inl, inr}
use Rattle.std.proofs.Common.{refl, sym, ◌∙◌, ap, subst, arith, length-set}
use Rattle.std.specs.List.{AllZip}
use Rattle.rp_base.specs.Sets.{Has}
use Rattle.rp_base.specs.declared.reply.Answer.{Answer}
use Rattle.rp_entry.specs.declared.operations.Operations.{Operations}
use Rattle.rp_entry.specs.declared.state.Waiting.{Waiting}
use Rattle.rp_entry.specs.declared.state.CallOutcome.{CallOutcome}
use Rattle.rp_entry.specs.Queue.{State, IsServiced, queue_at, all_calls}
use Rattle.rp_entry.specs.Protected.{IsShort}
use Rattle.rp_entry.specs.Servicing.{Services, ends, goes_on}
use Rattle.rp_entry.specs.Actions.{Request, Acts, calls_function, calls_procedure, calls_entry}
use Rattle.rp_entry.specs.Actions.{event, function, procedure, open_entry, closed_entry, full_queue}
use Rattle.rp_entry.specs.Actions.{handler, no_function, no_procedure, no_entry, no_handler}
use Rattle.rp_entry.proofs.Permuting.{has_permuted, back}
use Rattle.rp_entry.proofs.Chains.{is_serviced}
use Rattle.rp_entry.proofs.Queues.{taken, joined, index_there, short_taken, short_grown}
use Rattle.rp_entry.proofs.Joining.{serviced_joined}
use Rattle.rp_object.specs.Reached.{IsCall}

-- ---- as many queues

services_many : {operations : Operations} {before after : State} {replied : List Answer}
    → Services operations before replied after → length after.queues ≡ length before.queues
services_many (ends serviced) = refl
services_many (goes_on {before = before} step rest) =
    services_many rest ∙ ap length step.left ∙ length-set before.queues step.place step.ready.rest

pub acts_many : {operations : Operations} {before after : State} {request : Request}
    {caller : Option CallOutcome}
    {replied : List Answer}
    → Acts operations before request caller replied after
    → length after.queues ≡ length before.queues
acts_many (function there) = refl
acts_many (procedure there ran) = services_many ran.serviced
acts_many (open_entry there up ran) = services_many ran.serviced
acts_many {before = before} (closed_entry {index = index} {call = call} there shut room) =
    length-set before.queues (index - 1) (queue_at before.queues (index - 1) ++ call ∷ [])
acts_many (full_queue there shut full) = refl
acts_many (handler there ran) = services_many ran.serviced
acts_many (no_function none) = refl
acts_many (no_procedure none) = refl
acts_many (no_entry none) = refl
acts_many (no_handler none) = refl

-- ---- none too long

abbrev AreShort : Operations → State → Type 0
AreShort operations state = AllZip IsShort operations.entries.items state.queues

module _ {operations : Operations} where
  services_short : {before after : State} {replied : List Answer}
      → Services operations before replied after
      → AreShort operations before → AreShort operations after
  services_short (ends serviced) short = short
  services_short (goes_on {before = before} step rest) short =
      services_short rest
      (subst (λ (l : List (List Waiting)). AllZip IsShort operations.entries.items l)
      (sym step.left) (short_taken operations.entries.items before.queues step.place step.ready.call
      step.ready.rest
      short step.ready.waits))

  pub acts_short : {before after : State} {request : Request} {caller : Option CallOutcome}
      {replied : List Answer}
      → Acts operations before request caller replied after → AreShort operations before
      → AreShort operations after
  acts_short (function there) short = short
  acts_short (procedure there ran) short = services_short ran.serviced short
  acts_short (open_entry there up ran) short = services_short ran.serviced short
  acts_short {before = before}
      (closed_entry {index = index} {call = call} {entry = entry} there shut room) short =
      short_grown operations.entries.items before.queues index call entry short there room
  acts_short (full_queue there shut full) short = short
  acts_short (handler there ran) short = services_short ran.serviced short
  acts_short (no_function none) short = short
  acts_short (no_procedure none) short = short
  acts_short (no_entry none) short = short
  acts_short (no_handler none) short = short

-- ---- no calls but those that waited and the request's own

-- the numbers of a request fit their types
abbrev pub IsRightRequest : Request → Type 0
IsRightRequest (calls_function index arg) = Unit {0}
IsRightRequest (calls_procedure index arg) = Unit {0}
IsRightRequest (calls_entry index call) = IsCall call
IsRightRequest (event index) = Unit {0}

abbrev AreCalls : State → Type 0
AreCalls state = (call : Waiting) → Has call (all_calls state.queues) → IsCall call

services_calls : {operations : Operations} {before after : State} {replied : List Answer}
    → Services operations before replied after → AreCalls before → AreCalls after
services_calls (ends serviced) calls = calls
services_calls (goes_on {before = before} {between = between} step rest) calls =
    services_calls rest (λ call has.
    let left : Has call (all_calls (set before.queues step.place step.ready.rest)) =
    subst (λ (l : List (List Waiting)). Has call (all_calls l)) step.left has in
    calls call (has_permuted call
    (back (taken before.queues step.place step.ready.call step.ready.rest step.ready.waits))
    (inr left)))

pub acts_calls : {operations : Operations} {before after : State} {request : Request}
    {caller : Option CallOutcome}
    {replied : List Answer}
    → length before.queues ≡ length operations.entries.items
    → Acts operations before request caller replied after
    → IsRightRequest request → AreCalls before → AreCalls after
acts_calls each (function there) right calls = calls
acts_calls each (procedure there ran) right calls = services_calls ran.serviced calls
acts_calls each (open_entry there up ran) right calls = services_calls ran.serviced calls
acts_calls {operations = operations} {before = before} each
    (closed_entry {index = index} {call = own} {entry = entry} there shut room) right calls =
    let within = index_there operations.entries.items index entry there in
    let below : index - 1 < length before.queues = omega (arith, within.0, within.1, each) in
    λ call has. elim (has_permuted call (back (joined before.queues (index - 1) own below)) has)
    [ inl is ↦ subst IsCall (sym is) right | inr was ↦ calls call was ]
acts_calls each (full_queue there shut full) right calls = calls
acts_calls each (handler there ran) right calls = services_calls ran.serviced calls
acts_calls each (no_function none) right calls = calls
acts_calls each (no_procedure none) right calls = calls
acts_calls each (no_entry none) right calls = calls
acts_calls each (no_handler none) right calls = calls

-- ---- nobody waits at an open barrier

pub acts_serviced : {operations : Operations} {before after : State} {request : Request}
    {caller : Option CallOutcome}
    {replied : List Answer}
    → Acts operations before request caller replied after → IsServiced operations before
    → IsServiced operations after
acts_serviced (function there) serviced = serviced
acts_serviced (procedure there ran) serviced = is_serviced ran.serviced
acts_serviced (open_entry there up ran) serviced = is_serviced ran.serviced
acts_serviced {operations = operations}
    (closed_entry {index = index} {call = call} {entry = entry} there shut room) serviced =
    serviced_joined operations index call entry there shut serviced
acts_serviced (full_queue there shut full) serviced = serviced
acts_serviced (handler there ran) serviced = is_serviced ran.serviced
acts_serviced (no_function none) serviced = serviced
acts_serviced (no_procedure none) serviced = serviced
acts_serviced (no_entry none) serviced = serviced
acts_serviced (no_handler none) serviced = serviced
