use Rattle.rp_codec.proofs.RecordLaws.{same_text, record_long_at}
use Rattle.rp_codec.proofs.record_text.two_record_texts.Goals as goal

pub returns-clause-apart : goal.returns-clause-apart
returns-clause-apart c = same_text

pub returns-clause-len : goal.returns-clause-len
returns-clause-len c = record_long_at
