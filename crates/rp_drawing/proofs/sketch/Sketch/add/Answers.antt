use Rattle.std.proofs.Common.{◌≡◌, ◌∙◌, ◌++◌, [], ◌∷◌, ◌+◌, ◌<◌, ℕ, true, List, length, ap, sym, subst, arith, rules}
use Rattle.std.specs.List.{list_any}
use Rattle.rp_drawing.specs.Ways.{is_end_drawn, AreWays, AreDown, IsEndingWithin}
use Rattle.rp_drawing.specs.declared.sketch.Row.{Row}
use Rattle.rp_drawing.specs.declared.sketch.Sending.{Sending}
use Rattle.rp_drawing.specs.declared.sketch.Way.{Way}
use Rattle.rp_drawing.proofs.WayLemmas.{length_now, ways_by, second_of, third_of, ways_now, down_now}
use Rattle.rp_drawing.proofs.sketch.Sketch.add.Goals as goal

pub returns-clause-ways : goal.returns-clause-ways
returns-clause-ways c =
    let place : c.len-place.result ≡ length c.args.self.now.rows.items = search rules in
    let ways_are = ways_by c.args.self.now.ways.items c.end-ended.new.self.ways.items c.send.new.self.ways.items c.args.moment.ending c.deref.result.now c.args.moment.sends.items
    c.len-place.result (length c.args.self.now.rows.items) c.args.self.now.lines c.end-ended.ensures.ways c.in_ok-sent.ensures.ways c.deref.ensures.value place in
    let rows = c.args.self.now.rows.items in
    let ways = c.args.self.now.ways.items in
    let line = c.args.self.now.lines in
    let row : Row = record { moment = c.args.moment; line = line; is_drawn = c.is_one-is_drawn.result; label = c.args.label } in
    let rows_are : c.push.new.self.items ≡ rows ++ row ∷ [] =
    c.in_ok-push.ensures.items ∙ ap (λ v. v.items ++ row ∷ []) (c.in_ok-sent.ensures.rows ∙ c.end-ended.ensures.rows) in
    let within = subst (λ (n : ℕ). IsEndingWithin n c.args.moment.ending) c.requires.before c.requires.ending in
    let count = length_now ways c.args.moment.ending c.args.moment.sends.items (length rows) line in
    subst (λ (r : List Row). AreWays r c.send.new.self.ways.items) (sym rows_are)
    (subst (λ (w : List Way). AreWays (rows ++ row ∷ []) w) (sym ways_are)
    (ways_now rows row ways c.requires.before c.requires.ways (omega (arith, count)) within))

pub returns-clause-down : goal.returns-clause-down
returns-clause-down c =
    let place : c.len-place.result ≡ length c.args.self.now.rows.items = search rules in
    let ways_are = ways_by c.args.self.now.ways.items c.end-ended.new.self.ways.items c.send.new.self.ways.items c.args.moment.ending c.deref.result.now c.args.moment.sends.items
    c.len-place.result (length c.args.self.now.rows.items) c.args.self.now.lines c.end-ended.ensures.ways c.in_ok-sent.ensures.ways c.deref.ensures.value place in
    let rows = c.args.self.now.rows.items in
    let ways = c.args.self.now.ways.items in
    let line = c.args.self.now.lines in
    let sends = c.args.moment.sends.items in
    let after = c.lines_after-self.ensures in
    let ends_next : is_end_drawn ways c.args.moment.ending ≡ true → line < c.lines_after-self.result =
    λ drawn. after.drawn (c.is_one-is_drawn.ensures ∙ second_of _ _ _ (c.end-ended.ensures.drawn ∙ drawn)) in
    let sends_next : list_any (λ s. s.is_drawn) sends ≡ true → line < c.lines_after-self.result =
    λ drawn. after.drawn (c.is_one-is_drawn.ensures ∙ third_of _ _ _
    (c.in_ok-sent.ensures.drawn ∙ ap (λ (l : List Sending). list_any (λ s. s.is_drawn) l) c.deref.ensures.value ∙ drawn)) in
    subst (λ (w : List Way). AreDown c.lines_after-self.result w) (sym ways_are)
    (down_now line c.lines_after-self.result (length rows) ways sends after.grows c.requires.down c.args.moment.ending ends_next sends_next)

pub returns-clause-count : goal.returns-clause-count
returns-clause-count c =
    let place : c.len-place.result ≡ length c.args.self.now.rows.items = search rules in
    let ways_are = ways_by c.args.self.now.ways.items c.end-ended.new.self.ways.items c.send.new.self.ways.items c.args.moment.ending c.deref.result.now c.args.moment.sends.items
    c.len-place.result (length c.args.self.now.rows.items) c.args.self.now.lines c.end-ended.ensures.ways c.in_ok-sent.ensures.ways c.deref.ensures.value place in
    ap (λ (l : List Way). length l) ways_are
    ∙ length_now c.args.self.now.ways.items c.args.moment.ending c.args.moment.sends.items (length c.args.self.now.rows.items) c.args.self.now.lines
    ∙ ap (λ (n : ℕ). n + length c.args.moment.sends.items) (sym c.requires.before)
