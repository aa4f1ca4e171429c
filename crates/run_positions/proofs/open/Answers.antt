-- The slots hold the places, moved to the text. Assumes nothing.
use Rattle.std.proofs.Common.{arith, rules, map, take, get_or, length, List, ℕ, ◌≡◌, ◌<◌, ◌∙◌}
use Rattle.matching.specs.Answers.{slotted}
use Rattle.run.specs.Run.{from_done}
use Rattle.run_positions.specs.Laws.{filled_few, open_at, open_many}
use Rattle.run_positions.specs.Repairs.{opened_is}
use Rattle.run_positions.proofs.open.Goals as goal

pub returns : goal.returns
returns c =
    let a = c.args in
    let L : List ℕ = map (from_done a.idx a.d) (take a.count a.places.now) in
    let all : length a.places.now ≡ 64 = search rules in
    let m = open_many a.idx a.d a.places.now a.count all c.requires.0 in
    let at : (k : ℕ) → k < a.count → get_or c.filled-at.result k 0 ≡ from_done a.idx a.d (get_or a.places.now k 0) =
    λ k b. search (rules, c.filled-at.ensures.held k b) in
    let e : c.filled-at.result ≡ slotted L =
    filled_few c.filled-at.result L a.count c.filled-at.ensures.long (omega (arith, m)) (omega (arith, m))
    (λ k b. at k b ∙ open_at a.idx a.d a.places.now a.count all c.requires.0 k b) c.filled-at.ensures.rest in
    opened_is a.idx a.d a.places.now a.count a.end c.filled-at.result m e
