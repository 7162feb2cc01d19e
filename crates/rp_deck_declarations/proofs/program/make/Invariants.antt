use Rattle.rp_deck_declarations.proofs.program.make.Given as goal

abbrev pub ghost-object_declarations : goal.ghost-object_declarations
ghost-object_declarations g a = g.profile
