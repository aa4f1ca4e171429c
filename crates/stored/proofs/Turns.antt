-- One turn more in front of the turns that are left; and no line where the list is at its end. Assumes nothing.
use Rattle.std.proofs.Common.{◌≡◌, ℕ, zero, suc, ◌+◌, ◌-◌, ◌<◌, ◌≤◌, List, refl, arith}
use Rattle.stored.specs.Replay.{ReplayedTo}

module _ {T : Type 0} (L : T → List ℕ → ℕ → ℕ → T → Type 0) (words : List ℕ) (count : ℕ) where
  pub none_left : (turns : ℕ) (tally : T) (at : ℕ) → count ≤ at → ReplayedTo L words count turns tally at tally
  none_left zero tally at h = refl
  none_left (suc turns) tally at h = (λ _. refl, λ l. absurd (omega arith))

  pub one_more : (k turns : ℕ) (tally : T) (at : ℕ) (after : T) (next : ℕ) (last : T) → k < turns → at < count → L tally words at next after
      → ReplayedTo L words count (turns - (k + 1)) after next last → ReplayedTo L words count (turns - k) tally at last
  one_more k turns tally at after next last h l g rest =
      let left : turns - k ≡ suc (turns - (k + 1)) = omega arith in
      rw left (λ past. absurd (omega arith), λ _. (after, next, g, rest))
