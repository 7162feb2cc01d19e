use Rattle.std.proofs.Common.{◌↔◌, IsTrue, MatchBool}
use Rattle.rp_explore.specs.Searched.{Extends, AllReached, SomeMissing, AreQuiet, IsLayered, AreNear, AreGivenBefore}
use Rattle.rp_explore.proofs.search.Search.try_all.Given as goal

-- the clauses, for the actions so far
abbrev pub invariant-loop-action : goal.invariant-loop-action
invariant-loop-action g l =
    let m = g.M.Machine in record {
      extends : Extends l.fn.self l.self;
      whole : MatchBool l.tried.is_whole (AllReached m.next m.answers l.self l.visited.place l.action) (SomeMissing m.next m.answers l.self l.visited.place l.action);
      quiet : IsTrue l.tried.is_quiet ↔ AreQuiet m.next m.answers l.self l.visited.place l.action;
      layered : IsLayered l.self l.visited.place;
      near : AreNear m.next m.answers l.self l.visited.place l.action;
      given : AreGivenBefore m.next m.answers l.self l.visited.place l.action l.given.replies.keys l.given.givers.items;
    }
