-- Both cases are the definition's. Assumes nothing.
use Rattle.std.proofs.Common.{arith, get_or, List, rules, take, ℕ, ◌+◌, ◌<◌, ◌≡◌}
use Rattle.matching.specs.Answers.{slotted}
use Rattle.run.specs.Repair.{with_gain}
use Rattle.run_positions.specs.Laws.{filled_few, gain_few, gain_long}
use Rattle.run_positions.specs.Repairs.{grown_fits, grown_stops}
use Rattle.run_positions.proofs.Own.grown.Goals as goal

pub returns-then-self-n-le-SLOTS : goal.returns-then-self-n-le-SLOTS
returns-then-self-n-le-SLOTS c =
    let o = c.args.self.now in
    let lv = o.lv.now in
    let n = c.args.n in
    let L : List ℕ = with_gain o.i n (take lv.count lv.at) in
    let long = gain_long lv.at lv.count o.i n o.placed o.inside in
    let held : (k : ℕ) → k < lv.count + n → get_or c.filled-at.result k 0 ≡ get_or L k 0 = λ k b. search (rules, c.filled-at.ensures.held k b) in
    let e : c.filled-at.result ≡ slotted L =
    filled_few c.filled-at.result L (lv.count + n) c.filled-at.ensures.long (omega (arith, long))
    (gain_few lv.at lv.count o.i n o.placed o.inside c.if-self-n-le-SLOTS.true) held c.filled-at.ensures.rest in
    rw e (grown_fits lv o.i n o.placed o.inside c.if-self-n-le-SLOTS.true)

pub returns : goal.returns
returns c =
    let o = c.args.self.now in
    grown_stops o.lv.now o.i c.args.n o.placed o.inside c.requires.1 c.if-self-n-le-SLOTS.false
