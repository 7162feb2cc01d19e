-- What memory holds of what is found.
use Rattle.rp_explore.specs.Searched.{Found}
use Rattle.rp_explore.specs.declared.findings.Findings.{Findings}

-- what was found so far, as a search says it
abbrev pub found_of : Findings → Found
found_of findings = record {
  is_whole = findings.is_whole;
  replies = findings.given.replies.keys;
  givers = findings.given.givers.items;
  finals = findings.finals.items;
  stuck = findings.stuck;
  depth = findings.depth;
}
