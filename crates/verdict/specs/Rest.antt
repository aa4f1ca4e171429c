-- The code's side: the verdict where skip Yes is decided first, from two words, and the rest only then.
use Rattle.std.specs.Prelude.{ℕ, cond}
use Rattle.glyph.specs.declared.Glyph.{Glyph}
use Rattle.verdict.specs.declared.Matcher.{Matcher}
use Rattle.verdict.specs.declared.MaySkip.{MaySkip}
use Rattle.verdict.specs.declared.Verdict.{Verdict}
use Rattle.verdict.specs.Verdict.{Asked, ignorable, match_of, verdict_of}

-- the verdict on a glyph that isn't skip Yes
unfoldable pub rest_of : Matcher → Asked → ℕ → Glyph → Verdict
rest_of m asked syllable g = verdict_of (cond (ignorable m g) MaySkip.Maybe MaySkip.No) (match_of m asked syllable g)
