-- The object's protected action is the program's.
use Rattle.std.proofs.Common.{List, [], Some, sym, ◌∙◌, ap, w64}
use Rattle.std.proofs.lemmas.Int.{to_z-of_z}
use Rattle.rp_base.specs.declared.reply.Answer.{Answer}
use Rattle.rp_entry.specs.declared.state.CallOutcome.TheVariants.{Reply}
use Rattle.rp_entry.specs.Actions.{calls_function}
use Rattle.rp_object.proofs.Asking.{asks_still}
use Rattle.rp_object.proofs.objects.Objects.function.Goals as goal

pub returns : goal.returns
returns c = record {
  action =
      asks_still c.self.view_is c.from.ensures (ap (calls_function c.args.index) (to_z-of_z w64 c.args.arg c.ranges.arg)) c.index.result.now _ [] c.requires.there c.requires.declared c.index.ensures c.function-reply.ensures.action
      ∙ ap (λ (replied : List Answer). record { caller = Some (Reply c.function-reply.result); replied = replied; after = c.args.self.now.state }) (sym c.new.ensures);
}
