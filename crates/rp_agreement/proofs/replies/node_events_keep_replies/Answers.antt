-- Each is a sound step, and replies what its node's applied list leads to.
use Rattle.rp_model.specs.Effect.{goes_on_as, untorn_part, node_effect, cut_effect, stop_effect, restart_part}
use Rattle.rp_agreement.proofs.NodeEffects.{below_eight, if_done, done_keeps, input_sound, cut_sound, stop_sound, restart_sound, untorn_sound}
use Rattle.rp_agreement.proofs.NodeReplies.{node_keeps, effect_answers, cut_answers, stop_answers, restart_answers}
use Rattle.rp_agreement.proofs.replies.node_events_keep_replies.Goals as goal

pub returns-clause-input : goal.returns-clause-input
returns-clause-input g c = λ s x input done node after task sent later right member kept is resulted moves.
    let d = if_done s.config.nodes x (node x) sent (node_effect s x (node x) input) done (input_sound s x node sent input (below_eight s.config x right member) kept.sound is) resulted in
    node_keeps s x done node task sent after later kept (done_keeps s.config.nodes x done node sent after later member kept.sound d moves) d (effect_answers s x (node x) input done resulted) moves

pub returns-clause-cut : goal.returns-clause-cut
returns-clause-cut g c = λ s x bytes input done node after task sent later right member kept is resulted moves.
    let d = if_done s.config.nodes x (node x) sent (cut_effect s x (node x) input bytes) done (cut_sound s x bytes node sent input (below_eight s.config x right member) kept.sound is) resulted in
    node_keeps s x done node task sent after later kept (done_keeps s.config.nodes x done node sent after later member kept.sound d moves) d (cut_answers s x bytes (node x) input done resulted) moves

pub returns-clause-stop : goal.returns-clause-stop
returns-clause-stop g c = λ s x done node after task sent later member kept resulted moves.
    let d = if_done s.config.nodes x (node x) sent (stop_effect (node x)) done (stop_sound s.config.nodes x (node x) sent) resulted in
    node_keeps s x done node task sent after later kept (done_keeps s.config.nodes x done node sent after later member kept.sound d moves) d (stop_answers s (node x) done resulted) moves

pub returns-clause-restart : goal.returns-clause-restart
returns-clause-restart g c = λ s x node after task sent later member kept moves.
    let d = restart_sound s.config.nodes x node sent kept.sound in
    node_keeps s x (restart_part (node x)) node task sent after later kept
    (done_keeps s.config.nodes x (restart_part (node x)) node sent after later member kept.sound d moves) d (restart_answers s (node x)) moves

pub returns-clause-untorn : goal.returns-clause-untorn
returns-clause-untorn g c = λ s x left node after task sent later member kept moves.
    let d = untorn_sound s.config.nodes x left node sent kept.sound in
    node_keeps s x (goes_on_as (untorn_part left (node x))) node task sent after later kept
    (done_keeps s.config.nodes x (goes_on_as (untorn_part left (node x))) node sent after later member kept.sound d moves) d (λ m h. absurd h) moves
