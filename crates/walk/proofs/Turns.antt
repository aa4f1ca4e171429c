-- What a turn of the code's loops does, by the verdict that it was told, and what the calls stand on.
use Rattle.std.specs.Prelude.{◌≡◌, ℕ, ◌+◌, ◌-◌, ◌<◌, List, get_or, true, false, max}
use Rattle.std.proofs.Common.{◌∙◌, arith}
use Rattle.glyph.specs.declared.Glyph.{Glyph}
use Rattle.glyph.specs.Glyph.{blank}
use Rattle.glyph.specs.Laws.{length-glyphs_of}
use Rattle.verdict.specs.declared.Matcher.{Matcher}
use Rattle.verdict.specs.declared.Verdict.{Verdict}
use Rattle.verdict.specs.declared.Verdict.TheVariants.{Match, NotMatch, Skip}
use Rattle.verdict.specs.Verdict.{Asked, verdict, skip_yes, judge_at}
use Rattle.verdict.specs.Rest.{rest_of}
use Rattle.verdict.specs.Laws.{verdict_yes, verdict_rest}
use Rattle.walk.specs.declared.Walked.TheVariants.{Found, Stopped}
use Rattle.walk.specs.Walk.{on_verdict_back, walk_from, walk_back}
use Rattle.walk.specs.Accepted.{good_walk}
use Rattle.walk.specs.Past.{walk_past, walk_past_back, stretch_passed}
use Rattle.walk.specs.Steps.{walk_on_by, walk_end, back_on_by, back_end}

module _ (v : ℕ → Verdict) (len next : ℕ) (h : next < len) where
  pub walk_match : v next ≡ Match → walk_from v len next ≡ Found next
  walk_match e = walk_on_by v len next h Match e

  pub walk_differs : v next ≡ NotMatch → walk_from v len next ≡ Stopped (next + 1)
  walk_differs e = walk_on_by v len next h NotMatch e

  pub walk_skips : v next ≡ Skip → walk_from v len next ≡ walk_from v len (next + 1)
  walk_skips e = walk_on_by v len next h Skip e

-- backward in two parts: skip Yes, and the rest
module _ (m : Matcher) (asked : Asked) (syllable : ℕ) (sets : List ℕ) (gs : List Glyph) (place : ℕ) (h : 0 < place) where
  abbrev pub before : Glyph
  before = get_or gs (place - 1) blank

  on_by : (r : Verdict) → verdict m asked syllable sets before ≡ r
      → let v = judge_at m asked syllable sets gs in walk_back v place ≡ on_verdict_back r (place - 1) (walk_back v (place - 1))
  on_by r e = back_on_by (judge_at m asked syllable sets gs) place (place - 1) (omega arith) r e

  pub back_yes : skip_yes m sets before ≡ true
      → walk_back (judge_at m asked syllable sets gs) place ≡ walk_back (judge_at m asked syllable sets gs) (place - 1)
  back_yes y = on_by Skip (verdict_yes m asked syllable sets before y)

  pub back_skips : skip_yes m sets before ≡ false → rest_of m asked syllable before ≡ Skip
      → walk_back (judge_at m asked syllable sets gs) place ≡ walk_back (judge_at m asked syllable sets gs) (place - 1)
  back_skips y e = on_by Skip (verdict_rest m asked syllable sets before y ∙ e)

  pub back_match : skip_yes m sets before ≡ false → rest_of m asked syllable before ≡ Match
      → walk_back (judge_at m asked syllable sets gs) place ≡ Found (place - 1)
  back_match y e = on_by Match (verdict_rest m asked syllable sets before y ∙ e)

  pub back_differs : skip_yes m sets before ≡ false → rest_of m asked syllable before ≡ NotMatch
      → walk_back (judge_at m asked syllable sets gs) place ≡ Stopped (max (place - 1) 1 - 1)
  back_differs y e = on_by NotMatch (verdict_rest m asked syllable sets before y ∙ e)

pub ruleset turns_ahead = (walk_match, walk_differs, walk_skips, walk_end)

pub ruleset turns_back = (back_yes, back_skips, back_match, back_differs, back_end)

-- where a call isn't refused, its places are in the row, and it passes over the stretch that was crossed
pub ruleset call_ahead = (good_walk, walk_past, stretch_passed, length-glyphs_of)

pub ruleset call_back = (good_walk, walk_past_back, stretch_passed)
