use Rattle.std.specs.Arc.{arc_value}
use Rattle.rp_deck_laws.proofs.Replays.{decks_alike, kept_alike, given_alike, shown_alike}
use Rattle.rp_deck_laws.proofs.readings.decks_of_one_meaning_behave_alike.Goals as goal

pub returns-clause-kept : goal.returns-clause-kept
returns-clause-kept c = λ one other program same text is other_is log. kept_alike (arc_value program.declarations) (arc_value same.declarations) (decks_alike one other program same text is other_is) log

pub returns-clause-given : goal.returns-clause-given
returns-clause-given c = λ one other program same text is other_is log. given_alike (arc_value program.declarations) (arc_value same.declarations) (decks_alike one other program same text is other_is) log

pub returns-clause-shown : goal.returns-clause-shown
returns-clause-shown c = λ one other program same text is other_is log. shown_alike (arc_value program.declarations) (arc_value same.declarations) (decks_alike one other program same text is other_is) log
