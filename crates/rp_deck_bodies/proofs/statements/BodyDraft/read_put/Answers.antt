use Rattle.rp_words.specs.indexmap.specs.IndexMap.{values}
use Rattle.std.specs.Prelude.{IsTrue}
use Rattle.rp_body.specs.Check.{stmt_fits}
use Rattle.rp_body.specs.declared.statement.Stmt.{Stmt}
use Rattle.rp_body.specs.declared.statement.Stmt.TheVariants.{Put}
use Rattle.rp_deck_bodies.specs.Counted.{WhereCounted}
use Rattle.rp_deck_bodies.proofs.LimitsLemmas.{put_is_one, put_fits, body_adds}
use Rattle.rp_deck_bodies.proofs.statements.BodyDraft.read_put.Goals as goal

pub returns-clause-limits : goal.returns-clause-limits
returns-clause-limits c =
    let declared = values c.args.names.now in
    let s : Stmt = Put c.in_ok-place.place c.in_ok-value.value in
    let fits : WhereCounted declared (λ limits. IsTrue (stmt_fits limits s)) =
    λ limits counted. put_fits limits c.in_ok-place.place c.in_ok-value.value (c.in_ok-place.ensures.counted limits counted) (c.in_ok-value.ensures.fits limits counted) in
    body_adds declared c.args.self.now c.add.new.self s c.requires c.in_ok-add.ensures.items c.in_ok-add.ensures.same (put_is_one c.in_ok-place.place c.in_ok-value.value) fits
