-- All that was put is stable, so a stop leaves it, and contents are read in one way.
use Rattle.std.proofs.Common.{◌≡◌, ℕ, ◌+◌, List, [], ◌∷◌, ◌++◌, length, take, sym, ap, ◌∙◌, arith}
use Rattle.std.proofs.lemmas.List.{take_all}
use Rattle.rp_codec.specs.Record.{record_text}
use Rattle.rp_store.specs.Disk.{Disk, stopped}
use Rattle.rp_store.proofs.ReadAgain.{reads}
use Rattle.rp_store.proofs.openings.what_is_put_is_read_again.Goals as goal

pub returns : goal.returns
returns g c = λ before found rec old new opened kept cut_bytes are right put is.
    let disk = g.D.Device.disk in
    let text = record_text rec in
    let contents = (disk old.device).contents in
    let after = c.stop_inside_put.ensures.after contents before rec (length text) are right (omega arith) in
    let all : List ℕ = contents ++ text in
    let left : (stopped kept (disk new.device)).contents ≡ all = ap (λ (d : Disk). (stopped kept d).contents) put.disk_is ∙ take_all (length all + kept) all (omega arith) in
    let same = left ∙ ap (λ (l : List ℕ). contents ++ l) (sym (take_all (length text) text (omega arith))) in
    reads c.one_reading.ensures (stopped kept (disk new.device)) opened (contents ++ take (length text) text) [] (before ++ rec ∷ []) found cut_bytes same after is
