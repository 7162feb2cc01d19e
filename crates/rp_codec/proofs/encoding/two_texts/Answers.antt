use Rattle.rp_codec.proofs.Decoded.{same_text}
use Rattle.rp_codec.proofs.VersionLaws.{text_same}
use Rattle.rp_codec.proofs.encoding.two_texts.Goals as goal

pub returns-clause-apart : goal.returns-clause-apart
returns-clause-apart c = same_text

pub returns-clause-len : goal.returns-clause-len
returns-clause-len c = text_same
