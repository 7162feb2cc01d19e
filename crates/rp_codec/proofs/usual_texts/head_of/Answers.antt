use Rattle.std.proofs.Common.{rules, ◌≡◌, sym}
use denote.Enum.Bare.{differs_false}
use Rattle.rp_codec.specs.contracts.kind.Kind.{the_type}
use Rattle.rp_codec.specs.declared.version.Version.TheVariants.{V2}
use Rattle.rp_codec.proofs.UsualLaws.{version_known, head_read}
use Rattle.rp_codec.proofs.usual_texts.head_of.Goals as goal

pub returns : goal.returns
returns c =
    let same : c.in_ok-found.found ≡ c.args.kind = differs_false the_type (search rules) _ _ (sym c.if-ne-2.ensures) in
    let second : c.in_ok-version.version ≡ V2 = search rules in
    let version = version_known c.args.bytes.now _ _ _ c.new-body.ensures c.in_ok-version.ensures second in
    head_read c.args.bytes.now _ _ _ _ c.args.kind _ _ version (rw (sym same) c.in_ok-found.ensures) c.in_ok-from.ensures c.in_ok-to.ensures
