-- How far the end comes back and how many positions go are the definition's. Assumes nothing.
use Rattle.std.proofs.Common.{arith, get_or, List, rules, take, ℕ, ◌+◌, ◌-◌, ◌<◌, ◌≡◌, ◌≤◌}
use Rattle.matching.specs.Answers.{slotted}
use Rattle.run.specs.Repair.{with_loss}
use Rattle.run_positions.specs.Laws.{filled_few, loss_few, loss_long}
use Rattle.run_positions.specs.Repairs.{shrunk_is}
use Rattle.run_positions.proofs.Own.shrunk.Goals as goal

pub returns : goal.returns
returns c =
    let o = c.args.self.now in
    let lv = o.lv.now in
    let n : ℕ = c.min-gone.result in
    let L : List ℕ = with_loss o.i n (take lv.count lv.at) in
    let few : n ≤ lv.count - (o.i + 1) = omega (arith, c.min-gone.ensures) in
    let long = loss_long lv.at lv.count o.i n o.placed o.inside few in
    let held : (k : ℕ) → k < lv.count - n → get_or c.filled-at.result k 0 ≡ get_or L k 0 = λ k b. search (rules, c.filled-at.ensures.held k b) in
    let e : c.filled-at.result ≡ slotted L =
    filled_few c.filled-at.result L (lv.count - n) c.filled-at.ensures.long (omega (arith, long))
    (loss_few lv.at lv.count o.i n o.placed o.inside few) held c.filled-at.ensures.rest in
    rw e (shrunk_is lv o.i c.args.n o.placed o.inside c.min-back.result n c.min-back.ensures c.min-gone.ensures)
