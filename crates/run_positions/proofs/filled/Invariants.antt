use Rattle.std.proofs.Common.{get_or, length, ℕ, ◌<◌, ◌≡◌, ◌≤◌}
use Rattle.run_positions.proofs.filled.Given as goal

-- each turn fills a slot; the slots past these are 0 from the beginning
abbrev pub invariant-loop-j : goal.invariant-loop-j
invariant-loop-j g l = record {
  long : length l.out ≡ 64;
  held : (k : ℕ) → k < l.j → goal.F-post g l.slot k (get_or l.out k 0);
  rest : (k : ℕ) → l.j ≤ k → get_or l.out k 0 ≡ 0;
}
