-- What is printed is of the bytes that were read.
use Rattle.std.proofs.Common.{◌≡◌, ◌≤◌, List, ℕ, Option, inr, refl, subst, string_bytes, length}
use Rattle.std.specs.Io.KnownBytes.{Appends}
use Rattle.std.specs.Prelude.{IfSome}
use Rattle.rp_bind.specs.Binds.{BindsText, declared_in}
use Rattle.rp_bind.specs.declared.deck_binding.Binding.{Binding}
use Rattle.rp_bind.specs.declared.deck_binding.Binding.TheVariants.{Packages, Refused}
use Rattle.rp_bind.specs.declared.lines.Language.{Language}
use Rattle.rp_bind_run.specs.Prints.{BindsBytes, FailsBinding}
use Rattle.rp_script.specs.rp_output.specs.Stream.{Begins}
use Rattle.rp_script.specs.rp_output.proofs.Writing.{appends_kept, begins_all}
use Rattle.rp_script.proofs.Failing.{on_err}
use Rattle.rp_script.specs.Given.{most_bytes}
use Rattle.rp_bind.specs.rp_words.specs.LineFaults.{Refuses}
use Rattle.rp_bind_run.proofs.Failing.{ends_run, fails_deck, fails_run, faulted}
use Rattle.rp_bind_run.proofs.given.bind_deck.Goals as goal

binds : (language : Language) (given : Option (List ℕ)) (bytes read : List ℕ) (found binding : Binding)
    → IfSome given (λ whole. bytes ≡ whole) → length bytes ≤ most_bytes → read ≡ bytes → BindsText language read found → found ≡ binding → BindsBytes language given binding
binds language given bytes read found binding all short same is found_is = record {
  bytes = bytes;
  are_given = record { all = all; short = short };
  binds = subst (λ (b : List ℕ). BindsText language b binding) same (subst (λ (b : Binding). BindsText language read b) found_is is);
}

pub returns-in_err-binding-clause-fault : goal.returns-in_err-binding-clause-fault
returns-in_err-binding-clause-fault g c =
    let given = g.R.Read.remaining c.args.reader.now in
    let output = g.W.Write.contents c.args.writer.now in
    let fault = c.in_err-binding.field-0.0 in
    let bytes = c.in_ok-text.text.items in
    let refused : Refuses fault (declared_in bytes) = subst (λ (b : List ℕ). Refuses fault (declared_in b)) c.deref.ensures.value c.in_err-binding.ensures.fault in
    faulted (FailsBinding given output output) fault c.from_residual-in_err-binding.result c.from_residual-in_err-binding.ensures.1
    (fails_deck given output bytes fault (record { all = c.in_ok-text.ensures.whole; short = c.in_ok-text.ensures.size }) refused c.in_err-binding.ensures.known)

pub returns-in_err-write_whole-in-Packages-clause-fault : goal.returns-in_err-write_whole-in-Packages-clause-fault
returns-in_err-write_whole-in-Packages-clause-fault g c =
    let given = g.R.Read.remaining c.args.reader.now in
    let old = g.W.Write.contents c.args.writer.now in
    let new = g.W.Write.contents c.write_whole.new.writer in
    let fault = c.in_err-write_whole-in-Packages.field-0.0 in
    faulted (FailsBinding given old new) fault c.from_residual-in_err-write_whole-in-Packages.result c.from_residual-in_err-write_whole-in-Packages.ensures.1
    (fails_run given old new fault (ends_run fault c.in_err-write_whole-in-Packages.ensures.fault))

pub returns-in_err-write_out-in-Packages-clause-fault : goal.returns-in_err-write_out-in-Packages-clause-fault
returns-in_err-write_out-in-Packages-clause-fault g c =
    let given = g.R.Read.remaining c.args.reader.now in
    let old = g.W.Write.contents c.args.writer.now in
    let new = g.W.Write.contents c.write_out.new.writer in
    let fault = c.in_err-write_out-in-Packages.field-0.0 in
    faulted (FailsBinding given old new) fault c.from_residual-in_err-write_out-in-Packages.result c.from_residual-in_err-write_out-in-Packages.ensures.1 (fails_run given old new fault c.in_err-write_out-in-Packages.ensures.fault)

pub returns-in_err-write_whole-in-Packages-clause-begun : goal.returns-in_err-write_whole-in-Packages-clause-begun
returns-in_err-write_whole-in-Packages-clause-begun g c =
    let given = g.R.Read.remaining c.args.reader.now in
    let old = g.W.Write.contents c.args.writer.now in
    let new = g.W.Write.contents c.write_whole.new.writer in
    let text = c.in-Packages.packages in
    let bound = binds c.args.language given c.in_ok-text.text.items c.deref.result.now c.in_ok-binding.binding (Packages text) c.in_ok-text.ensures.whole c.in_ok-text.ensures.size c.deref.ensures.value c.in_ok-binding.ensures.bound c.in-Packages.is in
    on_err c.from_residual-in_err-write_whole-in-Packages.result _
    (inr (text, bound, subst (λ (b : List ℕ). Begins old new b) c.as_bytes.ensures.value c.in_err-write_whole-in-Packages.ensures.written))

pub returns-in_err-write_out-in-Packages-clause-begun : goal.returns-in_err-write_out-in-Packages-clause-begun
returns-in_err-write_out-in-Packages-clause-begun g c =
    let given = g.R.Read.remaining c.args.reader.now in
    let old = g.W.Write.contents c.args.writer.now in
    let written = g.W.Write.contents c.write_whole.new.writer in
    let new = g.W.Write.contents c.write_out.new.writer in
    let text = c.in-Packages.packages in
    let bound = binds c.args.language given c.in_ok-text.text.items c.deref.result.now c.in_ok-binding.binding (Packages text) c.in_ok-text.ensures.whole c.in_ok-text.ensures.size c.deref.ensures.value c.in_ok-binding.ensures.bound c.in-Packages.is in
    let wrote = subst (λ (b : List ℕ). Appends old written b) c.as_bytes.ensures.value c.in_ok-write_whole-in-Packages.ensures.written in
    on_err c.from_residual-in_err-write_out-in-Packages.result _ (inr (text, bound, begins_all old new (string_bytes text) (appends_kept old written new (string_bytes text) wrote c.in_err-write_out-in-Packages.ensures.kept)))

pub returns-in-Packages-clause-bound : goal.returns-in-Packages-clause-bound
returns-in-Packages-clause-bound g c =
    let given = g.R.Read.remaining c.args.reader.now in
    let old = g.W.Write.contents c.args.writer.now in
    let written = g.W.Write.contents c.write_whole.new.writer in
    let new = g.W.Write.contents c.write_out.new.writer in
    let text = c.in-Packages.packages in
    let bound = binds c.args.language given c.in_ok-text.text.items c.deref.result.now c.in_ok-binding.binding (Packages text) c.in_ok-text.ensures.whole c.in_ok-text.ensures.size c.deref.ensures.value c.in_ok-binding.ensures.bound c.in-Packages.is in
    let wrote = subst (λ (b : List ℕ). Appends old written b) c.as_bytes.ensures.value c.in_ok-write_whole-in-Packages.ensures.written in
    (text, appends_kept old written new (string_bytes text) wrote c.in_ok-write_out-in-Packages.ensures.kept, bound)

pub returns-clause-bound : goal.returns-clause-bound
returns-clause-bound g c =
    let given = g.R.Read.remaining c.args.reader.now in
    (refl, binds c.args.language given c.in_ok-text.text.items c.deref.result.now c.in_ok-binding.binding (Refused c.in-Refused.line) c.in_ok-text.ensures.whole c.in_ok-text.ensures.size c.deref.ensures.value c.in_ok-binding.ensures.bound c.in-Refused.is)
