use Rattle.rp_patience.proofs.Turns.{ends}
use Rattle.rp_patience.proofs.waiting.waiting_ends.Goals as goal

pub returns : goal.returns
returns c = λ situation patience before turns node missing uncounted none left same few over. ends situation missing uncounted none left node before turns patience same few over
