-- The verdict in two parts: skip Yes is passed over, and the rest is told without the mark sets.
use Rattle.std.specs.Prelude.{ℕ, List, ◌≡◌, refl, Bool, true, false, cond, get_or}
use Rattle.std.proofs.Common.{sym, ◌∙◌}
use Rattle.glyph.specs.declared.Glyph.{Glyph}
use Rattle.glyph.specs.Glyph.{blank}
use Rattle.verdict.specs.declared.Matcher.{Matcher}
use Rattle.verdict.specs.declared.MaySkip.{MaySkip}
use Rattle.verdict.specs.declared.MayMatch.{MayMatch}
use Rattle.verdict.specs.declared.Verdict.{Verdict}
use Rattle.verdict.specs.declared.Verdict.TheVariants.{Match, NotMatch, Skip}
use Rattle.verdict.specs.Verdict.{Asked, skip_yes, skip_of, verdict, verdict_of, judge_at}
use Rattle.verdict.specs.Rest.{rest_of}

module _ (m : Matcher) (asked : Asked) (syllable : ℕ) (sets : List ℕ) (g : Glyph) where
  pub verdict_yes : skip_yes m sets g ≡ true → verdict m asked syllable sets g ≡ Skip
  unfolding verdict skip_of
  verdict_yes e = rw e

  pub verdict_rest : skip_yes m sets g ≡ false → verdict m asked syllable sets g ≡ rest_of m asked syllable g
  unfolding verdict skip_of rest_of
  verdict_rest e = rw e

-- the verdict on place p, from the glyph read there and what the code was told of it
module _ (m : Matcher) (asked : Asked) (syllable : ℕ) (sets : List ℕ) (gs : List Glyph) (p : ℕ) where
  pub judged_yes : (g : Glyph) (b : Bool) → g ≡ get_or gs p blank → b ≡ skip_yes m sets g → b ≡ true
      → judge_at m asked syllable sets gs p ≡ Skip
  judged_yes g b read told e = rw (← read) (verdict_yes m asked syllable sets g (sym told ∙ e))

  pub judged_rest : (g : Glyph) (b : Bool) (r : Verdict) → g ≡ get_or gs p blank → b ≡ skip_yes m sets g → b ≡ false
      → r ≡ rest_of m asked syllable g → judge_at m asked syllable sets gs p ≡ r
  judged_rest g b r read told e rest = rw (← read) (verdict_rest m asked syllable sets g (sym told ∙ e) ∙ sym rest)

-- the verdict by may match, where skip is Maybe or No
pub weighed_no : (s : Bool) → cond s Skip NotMatch ≡ verdict_of (cond s MaySkip.Maybe MaySkip.No) MayMatch.No
weighed_no true = refl
weighed_no false = refl

pub weighed_yes : (s : Bool) → Match ≡ verdict_of (cond s MaySkip.Maybe MaySkip.No) MayMatch.Yes
weighed_yes true = refl
weighed_yes false = refl

pub weighed_maybe : (s : Bool) → cond s Skip Match ≡ verdict_of (cond s MaySkip.Maybe MaySkip.No) MayMatch.Maybe
weighed_maybe true = refl
weighed_maybe false = refl
