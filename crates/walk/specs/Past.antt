-- The code's side: a walk goes on after what it passes over.
use Rattle.std.specs.Prelude.{ℕ, zero, suc, ◌+◌, ◌-◌, ◌≤◌, max, List, ◌≡◌, get_or}
use Rattle.std.proofs.Common.{ap, ◌∙◌, arith}
use Rattle.glyph.specs.declared.Glyph.{Glyph}
use Rattle.glyph.specs.Glyph.{blank}
use Rattle.verdict.specs.declared.Matcher.{Matcher}
use Rattle.verdict.specs.declared.Verdict.{Verdict}
use Rattle.verdict.specs.declared.Verdict.TheVariants.{Skip}
use Rattle.verdict.specs.Verdict.{Asked, skip_yes, judge_at}
use Rattle.verdict.specs.Laws.{verdict_yes}
use Rattle.walk_stretch.specs.Stretch.{yes_at, AllYes}
use Rattle.walk.specs.Walk.{walk_from, walk_back}
use Rattle.walk.specs.Steps.{walk_on_by, back_on_by}
use Rattle.walk.specs.Means.{Passed}

module _ (v : ℕ → Verdict) where
  past : (n len next : ℕ) → n ≤ len - next → Passed v next (next + n) → walk_from v len next ≡ walk_from v len (next + n)
  past zero len next l h = let s : next ≡ next + 0 = omega arith in ap (walk_from v len) s
  past (suc n) len next l h =
      let s : next + 1 + n ≡ next + suc n = omega arith in
      walk_on_by v len next (omega arith) Skip (h next (omega arith) (omega arith))
      ∙ past n len (next + 1) (omega arith) (λ k i j. h k (omega arith) (omega arith))
      ∙ ap (walk_from v len) s

  pub walk_past : (len next later : ℕ) → next ≤ later → later ≤ max len next → Passed v next later
      → walk_from v len next ≡ walk_from v len later
  walk_past len next later l w h =
      let s : next + (later - next) ≡ later = omega arith in
      past (later - next) len next (omega arith) (λ k i j. h k i (omega arith)) ∙ ap (walk_from v len) s

  past_back : (n place : ℕ) → n ≤ place → Passed v (place - n) place → walk_back v place ≡ walk_back v (place - n)
  past_back zero place l h = let s : place ≡ place - 0 = omega arith in ap (walk_back v) s
  past_back (suc n) place l h =
      let s : place - 1 - n ≡ place - suc n = omega arith in
      back_on_by v place (place - 1) (omega arith) Skip (h (place - 1) (omega arith) (omega arith))
      ∙ past_back n (place - 1) (omega arith) (λ k i j. h k (omega arith) (omega arith))
      ∙ ap (walk_back v) s

  pub walk_past_back : (place earlier : ℕ) → earlier ≤ place → Passed v earlier place → walk_back v place ≡ walk_back v earlier
  walk_past_back place earlier l h =
      let s : place - (place - earlier) ≡ earlier = omega arith in
      past_back (place - earlier) place (omega arith) (λ k i j. h k (omega arith) j) ∙ ap (walk_back v) s

-- a stretch of places that are skip Yes is passed over
pub stretch_passed : (m : Matcher) (asked : Asked) (syllable : ℕ) (sets : List ℕ) (gs : List Glyph) (a b : ℕ) → AllYes (yes_at m.props sets gs) a b
    → Passed (judge_at m asked syllable sets gs) a b
unfolding skip_yes
stretch_passed m asked syllable sets gs a b h i l g = verdict_yes m asked syllable sets (get_or gs i blank) (h i l g)
