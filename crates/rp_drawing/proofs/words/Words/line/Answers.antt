use Rattle.std.proofs.Common.{◌∙◌, string_bytes}
use Rattle.rp_drawing.proofs.LineLemmas.{line_is}
use Rattle.rp_drawing.proofs.words.Words.line.Goals as goal

pub returns : goal.returns
returns c =
    c.in_ok-words.ensures
    ∙ line_is (string_bytes c.args.self.now.text) c.as_bytes-bytes.result.now c.args.number c.min-count.result c.as_bytes-bytes.ensures.value c.args.self.now.plain c.min-count.ensures
