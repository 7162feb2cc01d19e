-- By the cases of the action.
use Rattle.rp_manual.proofs.Acting.{entry_runs, entry_waits, entry_refuses}
use Rattle.rp_manual.proofs.objects.barriers_admit_or_queue.Goals as goal

pub returns : goal.returns
returns c = record {
  open_runs = λ operations before after index entry call caller replied declared up acts. entry_runs entry declared up acts;
  closed_waits = λ operations before after index entry call caller replied each declared down room acts. entry_waits entry each declared down room acts;
  full_refuses = λ operations before after index entry call caller replied declared down full acts. entry_refuses entry declared down full acts;
}
