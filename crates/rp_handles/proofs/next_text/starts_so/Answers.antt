-- The deck that was read starts so.
use Rattle.rp_handles.proofs.next_text.starts_so.Goals as goal

pub returns-clause-so : goal.returns-clause-so
returns-clause-so c = λ is.
    let shows = c.in_ok-starts.ensures.shows is in
    record {
      deck = c.in-Ok.deck;
      meaning = c.in-Ok.ensures.meaning;
      right = c.in-Ok.ensures.deck;
      same = c.in_ok-starts.ensures.same is;
      program = shows.0;
      objects = shows.1;
      now = shows.2.0;
      shows = shows.2.1;
    }
