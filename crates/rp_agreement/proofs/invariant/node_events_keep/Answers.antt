-- Each is a sound step.
use Rattle.rp_model.specs.Effect.{goes_on_as, untorn_part, restart_part}
use Rattle.rp_agreement.proofs.NodeEffects.{below_eight, if_done, done_keeps, input_sound, cut_sound, stop_sound, restart_sound, untorn_sound}
use Rattle.rp_agreement.proofs.invariant.node_events_keep.Goals as goal

pub returns-clause-input : goal.returns-clause-input
returns-clause-input g c = λ setting x input done node after sent later right member sound is resulted moves.
    done_keeps setting.config.nodes x done node sent after later member sound
    (if_done setting.config.nodes x (node x) sent _ done (input_sound setting x node sent input (below_eight setting.config x right member) sound is) resulted) moves

pub returns-clause-cut : goal.returns-clause-cut
returns-clause-cut g c = λ setting x kept input done node after sent later right member sound is resulted moves.
    done_keeps setting.config.nodes x done node sent after later member sound
    (if_done setting.config.nodes x (node x) sent _ done (cut_sound setting x kept node sent input (below_eight setting.config x right member) sound is) resulted) moves

pub returns-clause-stop : goal.returns-clause-stop
returns-clause-stop g c = λ nodes x done node after sent later member sound resulted moves.
    done_keeps nodes x done node sent after later member sound (if_done nodes x (node x) sent _ done (stop_sound nodes x (node x) sent) resulted) moves

pub returns-clause-restart : goal.returns-clause-restart
returns-clause-restart g c = λ nodes x node after sent later member sound moves.
    done_keeps nodes x (restart_part (node x)) node sent after later member sound (restart_sound nodes x node sent sound) moves

pub returns-clause-untorn : goal.returns-clause-untorn
returns-clause-untorn g c = λ nodes x kept node after sent later member sound moves.
    done_keeps nodes x (goes_on_as (untorn_part kept (node x))) node sent after later member sound (untorn_sound nodes x kept node sent sound) moves
