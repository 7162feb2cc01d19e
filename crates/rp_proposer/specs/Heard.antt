-- The set of the promises that came, of all that were heard.
use Rattle.std.specs.Prelude.{List, []}
use Rattle.rp_base.specs.Sets.{with_members}
use Rattle.rp_base.specs.Promises.{Promise, same_promise}

-- the promises, each once
abbrev pub set_of : List Promise → List Promise
set_of heard = with_members same_promise [] heard
