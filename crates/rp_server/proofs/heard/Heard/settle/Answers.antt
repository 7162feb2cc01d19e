use Rattle.std.proofs.Common.{List, ap, ◌∙◌}
use Rattle.rp_base.specs.Promises.{HeardVote}
use Rattle.rp_server.specs.declared.heard.Note.TheVariants.{Settled}
use Rattle.rp_server.specs.Notes.{noted, heard_of}
use Rattle.rp_server.proofs.Noting.{heard_then}
use Rattle.rp_server.proofs.heard.Heard.settle.Goals as goal

pub returns : goal.returns
returns c =
    let note = Settled c.args.position c.args.action in
    ap heard_of c.push.ensures ∙ heard_then c.self.inside.notes note ∙ ap (λ (xs : List HeardVote). noted xs note) c.self.view_is
