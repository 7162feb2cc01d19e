-- Two expressions are read by one call, whatever is made of them: each answer says what is.
use Rattle.std.proofs.Common.{rules}
use Rattle.std.proofs.lemmas.Bool.{lt-ltb}
use Rattle.rp_deck_bodies.specs.Expressions.{Add, Sub}
use Rattle.rp_deck_bodies.specs.NodeReads.{expr_of}
use Rattle.rp_deck_bodies.proofs.expressions.Nodes.+expr.Goals as goal

pub expr_of-returns-in_ok-int_named-in-None-2-clause-counted : goal.expr_of-returns-in_ok-int_named-in-None-2-clause-counted
expr_of-returns-in_ok-int_named-in-None-2-clause-counted t c =
    λ limits counted. lt-ltb c.in_ok-int_named-in-None-2.field-0 limits.ints (c.in_ok-int_named-in-None-2.ensures.counted limits counted)

pub expr_of-returns-in_ok-first-in-Some-Add-clause-read : goal.expr_of-returns-in_ok-first-in-Some-Add-clause-read
unfolding expr_of
expr_of-returns-in_ok-first-in-Some-Add-clause-read t c = let h = c.in_ok-first-in-Some-Add.ensures.read Add in search rules

pub expr_of-returns-in_err-first-in-Some-Add-clause-read : goal.expr_of-returns-in_err-first-in-Some-Add-clause-read
unfolding expr_of
expr_of-returns-in_err-first-in-Some-Add-clause-read t c = let h = c.in_err-first-in-Some-Add.ensures.read Add in search rules

pub expr_of-returns-in_ok-first-in-Some-Sub-clause-read : goal.expr_of-returns-in_ok-first-in-Some-Sub-clause-read
unfolding expr_of
expr_of-returns-in_ok-first-in-Some-Sub-clause-read t c = let h = c.in_ok-first-in-Some-Sub.ensures.read Sub in search rules

pub expr_of-returns-in_err-first-in-Some-Sub-clause-read : goal.expr_of-returns-in_err-first-in-Some-Sub-clause-read
unfolding expr_of
expr_of-returns-in_err-first-in-Some-Sub-clause-read t c = let h = c.in_err-first-in-Some-Sub.ensures.read Sub in search rules
