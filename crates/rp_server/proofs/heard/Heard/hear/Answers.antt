use Rattle.std.proofs.Common.{ap, ◌∙◌}
use Rattle.rp_base.specs.Promises.{HeardVote}
use Rattle.std.proofs.Common.{List}
use Rattle.rp_server.specs.declared.heard.Note.TheVariants.{Heard}
use Rattle.rp_server.specs.Notes.{noted, heard_of}
use Rattle.rp_server.proofs.Noting.{heard_then}
use Rattle.rp_server.proofs.heard.Heard.hear.Goals as goal

pub returns : goal.returns
returns c =
    let note = Heard c.args.from c.args.position c.args.vote.ballot c.args.vote.action in
    ap heard_of c.push.ensures ∙ heard_then c.self.inside.notes note ∙ ap (λ (xs : List HeardVote). noted xs note) c.self.view_is
