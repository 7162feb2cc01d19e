use Rattle.std.proofs.Common.{◌≡◌, ◌+◌, ◌≤◌, [], ◌∷◌, ◌++◌, length, ap, ◌∙◌, arith}
use Rattle.std.specs.List.{slice_get}
use Rattle.std.specs.Option.{option_map}
use Rattle.rp_log.specs.Contents.{Contents, ready_of}
use Rattle.rp_log.proofs.Views.{ready_front, takes_ready, ready_within}
use Rattle.rp_log.proofs.log.Log.take.Goals as goal

pub overflow_add-self : goal.overflow_add-self
overflow_add-self c =
    let front = c.self.inside.front.items in
    let taken = c.self.inside.taken in
    let fits = c.self.invariant in
    let ready : slice_get front taken ≡ ready_of c.args.self.now = ready_front front c.self.inside.next_reserved c.self.inside.ahead.entries taken fits.taken_within fits.gap ∙ ap ready_of c.self.view_is in
    let within = ready_within front taken (ready_of c.args.self.now) ready c.requires in
    omega (arith, within, fits.bound)

pub invariant_of-self : goal.invariant_of-self
invariant_of-self c =
    let front = c.self.inside.front.items in
    let taken = c.self.inside.taken in
    let fits = c.self.invariant in
    let ready : slice_get front taken ≡ ready_of c.args.self.now = ready_front front c.self.inside.next_reserved c.self.inside.ahead.entries taken fits.taken_within fits.gap ∙ ap ready_of c.self.view_is in
    let within : taken + 1 ≤ length front = omega (arith, ready_within front taken (ready_of c.args.self.now) ready c.requires) in
    record {
      bound = fits.bound;
      following = fits.following;
      next_once = fits.next_once;
      next_bound = fits.next_bound;
      gap = fits.gap;
      room = fits.room;
      taken_within = within;
      top_bound = fits.top_bound;
      top_learned = fits.top_learned;
      none_above = fits.none_above;
    }

pub returns-clause-taken : goal.returns-clause-taken
returns-clause-taken c =
    let front = c.self.inside.front.items in
    let taken = c.self.inside.taken in
    let fits = c.self.invariant in
    let ready : slice_get front taken ≡ ready_of c.args.self.now = ready_front front c.self.inside.next_reserved c.self.inside.ahead.entries taken fits.taken_within fits.gap ∙ ap ready_of c.self.view_is in
    takes_ready front taken (ready_of c.args.self.now) ready c.requires
    ∙ ap (λ (log : Contents). option_map (λ action. log.taken ++ action ∷ []) (ready_of c.args.self.now)) c.self.view_is
