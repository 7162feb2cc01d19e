-- What was stable is left, with the first bytes of the record, and contents are read in one way.
use Rattle.std.proofs.Common.{[], ◌∷◌, ◌++◌, take, ap, ◌∙◌, arith, length-take}
use Rattle.rp_codec.specs.Record.{record_text}
use Rattle.rp_store.specs.Disk.{Disk}
use Rattle.rp_store.proofs.ReadAgain.{reads, take_more}
use Rattle.rp_store.proofs.openings.what_is_torn_is_cut_off.Goals as goal

pub returns-clause-torn : goal.returns-clause-torn
returns-clause-torn g c = λ before found rec old device opened kept cut_bytes are right stable torn is less.
    let disk = g.D.Device.disk in
    let text = record_text rec in
    let contents = (disk old.device).contents in
    let same = ap (λ (d : Disk). d.contents) torn.disk_is ∙ take_more contents text (disk old.device).stable kept stable in
    let both = reads c.one_reading.ensures (disk device) opened (contents ++ take kept text) (take kept text) before found cut_bytes same
    (c.stop_inside_put.ensures.before contents before rec kept are right less) is in
    (both.0, omega (arith, both.1, length-take kept text, less))

pub returns-clause-whole : goal.returns-clause-whole
returns-clause-whole g c = λ before found rec old device opened kept cut_bytes are right stable torn is all.
    let disk = g.D.Device.disk in
    let text = record_text rec in
    let contents = (disk old.device).contents in
    let same = ap (λ (d : Disk). d.contents) torn.disk_is ∙ take_more contents text (disk old.device).stable kept stable in
    reads c.one_reading.ensures (disk device) opened (contents ++ take kept text) [] (before ++ rec ∷ []) found cut_bytes same
    (c.stop_inside_put.ensures.after contents before rec kept are right all) is
