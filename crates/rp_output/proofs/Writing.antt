-- Texts that are written one after another, and beginnings of them.
use Rattle.std.proofs.Common.{◌≡◌, ℕ, Option, Some, None, Result, Ok, Err, List, [], ◌++◌, take, drop, take-append-drop, IsErr, refl, sym, ap, ◌∙◌, append_assoc, append-nil, subst}
use Rattle.std.specs.Io.KnownBytes.{Appends, Keeps}
use Rattle.std.proofs.KnownBytes.{Appends-nil, Appends-trans}
use Rattle.rp_model.specs.rp_base.specs.declared.fault.Fault.{Fault}
use Rattle.rp_output.specs.Stream.{WroteBefore, Begins, Writes}

-- nothing is written yet
pub begins_nothing : (a : Option (List ℕ)) (text : List ℕ) → Begins a a text
begins_nothing a text = (text, record { front = []; parts = refl; written = Appends-nil a })

pub begins_part : (a b : Option (List ℕ)) (front rest text : List ℕ) → text ≡ front ++ rest → Appends a b front → Begins a b text
begins_part a b front rest text parts written = (rest, record { front = front; parts = parts; written = written })

-- a beginning of the text is one of what is longer
pub begins_longer : (a b : Option (List ℕ)) (x y : List ℕ) → Begins a b x → Begins a b (x ++ y)
begins_longer a b x y begun = (
  begun.0 ++ y,
  record {
    front = begun.1.front;
    parts = ap (λ l. l ++ y) begun.1.parts ∙ append_assoc begun.1.front begun.0 y;
    written = begun.1.written;
  },
)

-- the text, and a beginning of what follows it
pub begins_after : (a b c : Option (List ℕ)) (x y : List ℕ) → Appends a b x → Begins b c y → Begins a c (x ++ y)
begins_after a b c x y first begun = (
  begun.0,
  record {
    front = x ++ begun.1.front;
    parts = ap (λ l. x ++ l) begun.1.parts ∙ sym (append_assoc x begun.1.front begun.0);
    written = Appends-trans a b c x begun.1.front first begun.1.written;
  },
)

-- the text, and then another
pub writes_after : (a b c : Option (List ℕ)) (x y : List ℕ) (answer : Result Unit Fault) → Appends a b x → Writes b c y answer → Writes a c (x ++ y) answer
writes_after a b c x y (Ok done) first next = Appends-trans a b c x y first next
writes_after a b c x y (Err fault) first next = begins_after a b c x y first next

-- a failure after the text
pub begins_whole : (a b : Option (List ℕ)) (x y : List ℕ) → Appends a b x → Begins a b (x ++ y)
begins_whole a b x y written = begins_part a b x y (x ++ y) refl written

-- what was kept after the text
pub appends_kept : (a b c : Option (List ℕ)) (x : List ℕ) → Appends a b x → Keeps b c → Appends a c x
appends_kept None b c x first kept = tt
appends_kept (Some l) None c x first kept = absurd first
appends_kept (Some l) (Some m) None x first kept = absurd kept
appends_kept (Some l) (Some m) (Some n) x first kept = kept ∙ first

-- the whole text is one of its beginnings
pub begins_all : (a b : Option (List ℕ)) (x : List ℕ) → Appends a b x → Begins a b x
begins_all a b x written = begins_part a b x [] x (sym (append-nil x)) written

-- the text was written and kept, whatever became of what was done after it
pub writes_kept : (a b c : Option (List ℕ)) (x : List ℕ) (answer : Result Unit Fault) → Appends a b x → Keeps b c → Writes a c x answer
writes_kept a b c x (Ok done) first kept = appends_kept a b c x first kept
writes_kept a b c x (Err fault) first kept = begins_all a c x (appends_kept a b c x first kept)

-- some first bytes, and a write that failed after them
pub begins_taking : (a b : Option (List ℕ)) (bytes : List ℕ) (n : ℕ) → Appends a b (take n bytes) → Begins a b bytes
begins_taking a b bytes n taken = begins_part a b (take n bytes) (drop n bytes) bytes (sym (take-append-drop n bytes)) taken

pub begins_failing : (a b c : Option (List ℕ)) (bytes : List ℕ) (n : ℕ) → Appends a b (take n bytes) → Keeps b c → Begins a c bytes
begins_failing a b c bytes n first kept = begins_taking a c bytes n (appends_kept a b c (take n bytes) first kept)

-- a failure, by what was written before it
pub writes_failed : (a b : Option (List ℕ)) (text : List ℕ) (answer : Result Unit Fault) → IsErr answer → Begins a b text → Writes a b text answer
writes_failed a b text (Ok done) failed begun = absurd (cc)
writes_failed a b text (Err fault) failed begun = begun

-- a failure before anything was written
pub writes_nothing : (a : Option (List ℕ)) (text : List ℕ) (answer : Result Unit Fault) → IsErr answer → Writes a a text answer
writes_nothing a text answer failed = writes_failed a a text answer failed (begins_nothing a text)

-- the last part, whatever becomes of it, after nothing
pub writes_same : (a b : Option (List ℕ)) (x y : List ℕ) (answer : Result Unit Fault) → x ≡ y → Writes a b x answer → Writes a b y answer
writes_same a b x y answer same written = subst (λ l. Writes a b l answer) same written

-- ---- a text of which some is written and the rest is not

pub wrote_nothing : (a : Option (List ℕ)) (text : List ℕ) → WroteBefore a a text text
wrote_nothing a text = record { front = []; parts = refl; written = Appends-nil a }

module _ (a b c : Option (List ℕ)) (rest whole : List ℕ) (so_far : WroteBefore a b rest whole) where
  pub wrote_more : (x y : List ℕ) → rest ≡ x ++ y → Appends b c x → WroteBefore a c y whole
  wrote_more x y is more = record {
    front = so_far.front ++ x;
    parts = so_far.parts ∙ ap (λ l. so_far.front ++ l) is ∙ sym (append_assoc so_far.front x y);
    written = Appends-trans a b c so_far.front x so_far.written more;
  }

  pub wrote_some : (x y : List ℕ) → rest ≡ x ++ y → Begins b c x → Begins a c whole
  wrote_some x y is begun =
      let longer = begins_after a b c so_far.front (x ++ y) so_far.written (begins_longer b c x y begun) in
      subst (λ l. Begins a c l) (sym (so_far.parts ∙ ap (λ l. so_far.front ++ l) is)) longer

  pub wrote_all : Appends b c rest → Appends a c whole
  wrote_all more = subst (λ l. Appends a c l) (sym so_far.parts) (Appends-trans a b c so_far.front rest so_far.written more)
