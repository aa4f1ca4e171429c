-- The glyph that was read is the cursor's; what isn't full has room. Assumes nothing.
use Rattle.std.proofs.Common.{arith, sym, ◌∙◌}
use Rattle.text.specs.Laws.{sizes}
use Rattle.run_act.specs.Laws.{many_off, many_full, many_on_lem}
use Rattle.run_act.proofs.act_many.Goals as goal

pub read-g-requires : goal.read-g-requires
read-g-requires c =
    let f = sizes c.args.done.now c.args.coming.now c.args.s.place c.requires.0 in
    omega arith

pub returns-then-g-from : goal.returns-then-g-from
returns-then-g-from c =
    let a = c.args in
    let g = c.read-g in
    many_off a.done.now a.coming.now a.s c.requires.0 g.result g.ensures a.from a.ids.now c.if-g-from.true

pub returns-then-is_full : goal.returns-then-is_full
returns-then-is_full c =
    let a = c.args in
    let g = c.read-g in
    let full = sym c.is_full.ensures ∙ c.if-is_full.true in
    rw c.ended.ensures
    (many_full a.done.now a.coming.now a.s c.requires.0 g.result g.ensures a.from a.ids.now c.if-g-from.false full)

pub returns : goal.returns
returns c =
    let a = c.args in
    let g = c.read-g in
    let room = sym c.is_full.ensures ∙ c.if-is_full.false in
    rw c.parted.ensures
    (many_on_lem a.done.now a.coming.now a.s c.requires.0 g.result g.ensures a.from a.ids.now _ _ c.if-g-from.false room
    c.replace_many-place.ensures)
