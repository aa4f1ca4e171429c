-- The starred bench cards, and K14, in one list (01, "Bench cards").
use Rattle.std.specs.Prelude.{List, [], ◌∷◌}
use Rattle.cards.specs.Card.{Card}
use Rattle.cards.specs.Matches.{k1, k2, k3, k4, k5, k5_matched, k6}
use Rattle.cards.specs.Sums.{k7, k8, k10}
use Rattle.cards.specs.Runs.{k11, k12, k13, k14, k14_too}

abbrev pub cards : List Card
cards = k1 ∷ k2 ∷ k3 ∷ k4 ∷ k5 ∷ k5_matched ∷ k6 ∷ k7 ∷ k8 ∷ k10 ∷ k11 ∷ k12 ∷ k13 ∷ k14 ∷ k14_too ∷ []
