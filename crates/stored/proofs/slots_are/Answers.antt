-- The closure is asked of each position with its number. Assumes nothing.
use Rattle.std.proofs.Common.{◌≡◌, ℕ, ◌+◌, ◌%◌, ◌^◌, Bool, true, false, cond, ltb, get_or, rules, tests, ◌==◌}
use Rattle.std.proofs.lemmas.Iterator.{cases_from_all, YieldsList-from_slice}
use Rattle.std.proofs.lemmas.Iterator.Consumers.{YieldsList-from_enumerate}
use Rattle.stored.proofs.Numbered.{every_numbered}
use Rattle.stored.proofs.slots_are.Goals as goal

pub returns : goal.returns
returns c =
    let a = c.args in
    let passes : ℕ → ℕ → Bool = λ k v. cond (ltb k a.count) (get_or a.words.now ((a.from + k) % 2 ^ 64) 0) 0 == v in
    every_numbered passes a.positions.now 64 c.told-positions c.all.result
    (cases_from_all _ _ _ (λ x. passes x.0 x.1 ≡ true) (λ x. passes x.0 x.1 ≡ false) c.all.ensures.ran
    (YieldsList-from_enumerate (YieldsList-from_slice a.positions.now cc) cc) (λ x q k. search (rules, tests)) (λ x q k. search (rules, tests)))
