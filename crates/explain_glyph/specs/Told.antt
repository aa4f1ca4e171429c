-- What is told of a later glyph, from the definitions of `verdict` and `ligature`, and what it makes of the match (01, port orders 3 and 5).
use Rattle.std.specs.Prelude.{ℕ, List, [], Bool, cond}
use Rattle.glyph.specs.declared.Glyph.{Glyph}
use Rattle.verdict.specs.declared.Matcher.{Matcher}
use Rattle.verdict.specs.declared.Sign.{Sign}
use Rattle.verdict.specs.declared.Verdict.{Verdict}
use Rattle.verdict.specs.declared.Verdict.TheVariants.{Match, NotMatch, Skip}
use Rattle.verdict.specs.Verdict.{value_of, skip_of, match_of, verdict}
use Rattle.ligature.specs.declared.Ligbase.{Ligbase}
use Rattle.ligature.specs.Ligature.{may_join, base_skips}
use Rattle.explain_glyph.specs.declared.Seen.{Seen}
use Rattle.explain_glyph.specs.declared.Joined.{Joined}
use Rattle.explain_glyph.specs.declared.Turn.{Turn}
use Rattle.explain_glyph.specs.declared.Told.{Told}
use Rattle.explain_glyph.specs.Reason.{skip_reason, match_reason}
use Rattle.ligature.specs.Search.{base_needed, looked}

abbrev pub seen_of : Matcher → Sign → ℕ → List ℕ → Glyph → Seen
seen_of m sign syllable sets g = record {
  skip = skip_of m sets g;
  why = skip_reason m sets g;
  may = match_of m (value_of sign []) syllable g;
  how = match_reason m sign syllable g;
  verdict = verdict m (value_of sign []) syllable sets g;
}

-- `base` is what a search made for this glyph would know, `joins` the rule itself
abbrev pub joined_of : Glyph → Glyph → List Glyph → Matcher → List ℕ → Joined
joined_of first this searched m sets =
    let skips = base_skips m sets first.lig searched in
    record {
      base = looked Ligbase.NotChecked (base_needed first this) skips;
      joins = may_join first this skips;
    }

abbrev pub turn_by : Verdict → Bool → Turn
turn_by Match joins = cond joins Turn.Taken Turn.Unlike
turn_by NotMatch joins = Turn.Stopped
turn_by Skip joins = Turn.Passed

-- the starting syllable is the first glyph's
abbrev pub told_of : Matcher → List ℕ → Sign → Glyph → Glyph → List Glyph → Told
told_of m sets sign first this searched = record {
  seen = seen_of m sign first.syllable sets this;
  joined = joined_of first this searched m sets;
  turn = turn_by (verdict m (value_of sign []) first.syllable sets this) (may_join first this (base_skips m sets first.lig searched));
}
