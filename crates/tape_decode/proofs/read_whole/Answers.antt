-- A whole frame's lists are read as its head counts them, and each is stored. Assumes nothing.
use Rattle.std.proofs.Common.{Some, Bool, ap, arith, cond, sym, true, ◌∙◌, ◌≡◌, ◌≤◌}
use Rattle.tape_frame.specs.Frame.{a_frame, not_frame, most_glyphs, done_count, is_whole, frame_in, whole_frame}
use Rattle.tape_frame.specs.Decoding.{Bounded}
use Rattle.tape_frame.specs.DecodingLaws.{head_bounded, decodes_none, count_done, rows_values, rows_done, rows_coming}
use Rattle.tape_frame.specs.Put.{put}
use Rattle.tape_decode.proofs.read_whole.Goals as goal
use Rattle.tape_decode.proofs.read_whole.Goals.{After-head_of-head}

whole_told : (c : After-head_of-head) → is_whole c.args.b.now ≡ true
whole_told c = sym c.is_whole.ensures ∙ c.if-not-is_whole.false

known : (c : After-head_of-head) → Bounded c.head_of-head.result
known c =
    let a = c.args in
    rw c.head_of-head.ensures (head_bounded a.table a.b.now (whole_told c))

few_done : (c : After-head_of-head) → done_count c.args.b.now ≤ most_glyphs
few_done c =
    let a = c.args in
    omega (arith, (known c).done, count_done a.table a.b.now c.head_of-head.result c.head_of-head.ensures)

pub returns-then-not-is_whole : goal.returns-then-not-is_whole
returns-then-not-is_whole c = let a = c.args in
    decodes_none (whole_frame a.table a.b.now) a.lists.now
    (ap (λ (t : Bool). cond t (a_frame (frame_in a.table a.b.now)) not_frame)
    (sym c.is_whole.ensures ∙ c.if-not-is_whole.true))

pub fill-requires : goal.fill-requires
fill-requires c = let k = known (goal.at.fill-requires c).After-head_of-head in omega arith

pub overflow_mul-d : goal.overflow_mul-d
overflow_mul-d c = let k = known (goal.at.overflow_mul-d c).After-head_of-head in omega arith

pub fill-requires-2 : goal.fill-requires-2
fill-requires-2 c = let k = known (goal.at.fill-requires-2 c).After-head_of-head in
    let at = c.done_at.ensures in
    omega arith

pub overflow_mul-c : goal.overflow_mul-c
overflow_mul-c c = let k = known (goal.at.overflow_mul-c c).After-head_of-head in omega arith

pub fill-requires-3 : goal.fill-requires-3
fill-requires-3 c =
    let k = known (goal.at.fill-requires-3 c).After-head_of-head in
    let at = c.coming_at.ensures in
    omega (arith, few_done (goal.at.fill-requires-3 c).After-head_of-head)

pub returns : goal.returns
returns c =
    let a = c.args in
    let b = a.b.now in
    let h = c.head_of-head.result in
    let e = c.head_of-head.ensures in
    let from = c.done_at.ensures.0 in
    let on = c.coming_at.ensures.0 in
    rw (whole_told (goal.at.returns c).After-head_of-head)
    record {
      answers = ap Some e;
      values = c.fill.ensures ∙ ap (put a.lists.now.values 0) (rows_values a.table b h e);
      done = rw from at c.fill-2.ensures ∙ ap (put a.lists.now.done 0) (rows_done a.table b h e);
      coming = rw on at c.fill-3.ensures ∙ ap (put a.lists.now.coming 0) (rows_coming a.table b h e);
    }
