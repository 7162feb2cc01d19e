use Rattle.rp_codec.proofs.RecordLaws.{same_latest}
use Rattle.rp_codec.proofs.record_text.one_record_text.Goals as goal

pub returns : goal.returns
returns c = same_latest
