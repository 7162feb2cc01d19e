use Rattle.rp_deck_declarations.specs.DraftViews.{draft_text}
use Rattle.rp_deck_declarations.specs.Drafts.{profile_of}
use Rattle.rp_deck_declarations.proofs.program.finish.Given as goal

abbrev pub ghost-make : goal.ghost-make
ghost-make a = profile_of (draft_text a.draft.now)
