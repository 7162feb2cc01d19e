-- By the handler that is declared.
use Rattle.std.proofs.Common.{ap, refl}
use Rattle.rp_object.specs.Program.{interrupt_handler}
use Rattle.rp_object.specs.Step.{Result, handled}
use Rattle.rp_manual.proofs.Calling.{is_interrupt_of}
use Rattle.rp_manual.proofs.programs.interrupts_run_their_handlers.Goals as goal

pub returns : goal.returns
returns c = record {
  handled = λ running source occurrence by object is there. is_interrupt_of running (interrupt_handler running.program source) by object is there;
  unhandled = λ running source occurrence none.
      let does = ap (handled running.state) none in
      (ap (λ (r : Result). record running { state = r.after }) does, ap (λ (r : Result). r.replied) does);
  nothing = λ running. (refl, refl);
}
