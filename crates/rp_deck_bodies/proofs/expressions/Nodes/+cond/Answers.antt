-- Two parts are read by one call, whatever is made of them: each answer says what is.
use Rattle.std.proofs.Common.{rules}
use Rattle.std.proofs.lemmas.Bool.{lt-ltb}
use Rattle.rp_deck_bodies.specs.Expressions.{Less, LessOrEqual, Equal, And, Or, cond_of}
use Rattle.rp_deck_bodies.proofs.expressions.Nodes.+cond.Goals as goal

pub cond_of-returns-in_ok-bool_named-in-None-clause-counted : goal.cond_of-returns-in_ok-bool_named-in-None-clause-counted
cond_of-returns-in_ok-bool_named-in-None-clause-counted t c =
    λ limits counted. lt-ltb c.in_ok-bool_named-in-None.field-0 limits.bools (c.in_ok-bool_named-in-None.ensures.counted limits counted)

pub cond_of-returns-in_ok-first-in-Some-Less-clause-read : goal.cond_of-returns-in_ok-first-in-Some-Less-clause-read
unfolding cond_of
cond_of-returns-in_ok-first-in-Some-Less-clause-read t c = let h = c.in_ok-first-in-Some-Less.ensures.read Less in search rules

pub cond_of-returns-in_err-first-in-Some-Less-clause-read : goal.cond_of-returns-in_err-first-in-Some-Less-clause-read
unfolding cond_of
cond_of-returns-in_err-first-in-Some-Less-clause-read t c = let h = c.in_err-first-in-Some-Less.ensures.read Less in search rules

pub cond_of-returns-in_ok-first-in-Some-LessOrEqual-clause-read : goal.cond_of-returns-in_ok-first-in-Some-LessOrEqual-clause-read
unfolding cond_of
cond_of-returns-in_ok-first-in-Some-LessOrEqual-clause-read t c = let h = c.in_ok-first-in-Some-LessOrEqual.ensures.read LessOrEqual in search rules

pub cond_of-returns-in_err-first-in-Some-LessOrEqual-clause-read : goal.cond_of-returns-in_err-first-in-Some-LessOrEqual-clause-read
unfolding cond_of
cond_of-returns-in_err-first-in-Some-LessOrEqual-clause-read t c = let h = c.in_err-first-in-Some-LessOrEqual.ensures.read LessOrEqual in search rules

pub cond_of-returns-in_ok-first-in-Some-Equal-clause-read : goal.cond_of-returns-in_ok-first-in-Some-Equal-clause-read
unfolding cond_of
cond_of-returns-in_ok-first-in-Some-Equal-clause-read t c = let h = c.in_ok-first-in-Some-Equal.ensures.read Equal in search rules

pub cond_of-returns-in_err-first-in-Some-Equal-clause-read : goal.cond_of-returns-in_err-first-in-Some-Equal-clause-read
unfolding cond_of
cond_of-returns-in_err-first-in-Some-Equal-clause-read t c = let h = c.in_err-first-in-Some-Equal.ensures.read Equal in search rules

pub cond_of-returns-in_ok-first-in-Some-And-clause-read : goal.cond_of-returns-in_ok-first-in-Some-And-clause-read
unfolding cond_of
cond_of-returns-in_ok-first-in-Some-And-clause-read t c = let h = c.in_ok-first-in-Some-And.ensures.read And in search rules

pub cond_of-returns-in_err-first-in-Some-And-clause-read : goal.cond_of-returns-in_err-first-in-Some-And-clause-read
unfolding cond_of
cond_of-returns-in_err-first-in-Some-And-clause-read t c = let h = c.in_err-first-in-Some-And.ensures.read And in search rules

pub cond_of-returns-in_ok-first-in-Some-Or-clause-read : goal.cond_of-returns-in_ok-first-in-Some-Or-clause-read
unfolding cond_of
cond_of-returns-in_ok-first-in-Some-Or-clause-read t c = let h = c.in_ok-first-in-Some-Or.ensures.read Or in search rules

pub cond_of-returns-in_err-first-in-Some-Or-clause-read : goal.cond_of-returns-in_err-first-in-Some-Or-clause-read
unfolding cond_of
cond_of-returns-in_err-first-in-Some-Or-clause-read t c = let h = c.in_err-first-in-Some-Or.ensures.read Or in search rules
