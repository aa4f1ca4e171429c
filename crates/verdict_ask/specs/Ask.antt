-- The two questions and the verdict where a user is offered them: on a row and a place, answered or refused by 1 (01, port order 3; that a place past
-- the row is 1 is our reading of its table).
-- 01 gives the answers no numbers: 0 with the answer's place in its list (No, Yes, Maybe; Match, NotMatch, Skip) is our choice.
use Rattle.std.specs.Prelude.{ℕ, List, [], ◌∷◌, Bool, cond, ◌||◌, leb, length, get_or, Result, Ok, Err}
use Rattle.glyph.specs.declared.IllShaped.{IllShaped}
use Rattle.glyph.specs.Glyph.{glyphs_of, blank, ill_shaped}
use Rattle.glyph.specs.Sets.{odd_sets}
use Rattle.glyph.specs.Reply.{Reply, replies}
use Rattle.verdict.specs.declared.Matcher.{Matcher}
use Rattle.verdict.specs.declared.MaySkip.{MaySkip}
use Rattle.verdict.specs.declared.MayMatch.{MayMatch}
use Rattle.verdict.specs.declared.Verdict.{Verdict}
use Rattle.verdict.specs.Verdict.{Asked, skip_of, match_of, verdict}

-- refusal 1: a row not whole glyphs or over the limit, a place at or past its glyphs
unfoldable pub bad_place : List ℕ → ℕ → Bool
bad_place row place = ill_shaped row || leb (length (glyphs_of row)) place

-- an answer, or refusal 1
abbrev pub unless_refused : {A : Type 0} → Bool → A → Result A IllShaped
unless_refused refused answer = cond refused (Err (record {})) (Ok answer)

unfoldable pub ask_skip : List ℕ → ℕ → Matcher → List ℕ → Result MaySkip IllShaped
ask_skip row place m sets = unless_refused (bad_place row place || odd_sets sets) (skip_of m sets (get_or (glyphs_of row) place blank))

unfoldable pub ask_match : List ℕ → ℕ → Matcher → Asked → ℕ → Result MayMatch IllShaped
ask_match row place m sign syllable = unless_refused (bad_place row place) (match_of m sign syllable (get_or (glyphs_of row) place blank))

unfoldable pub ask_verdict : List ℕ → ℕ → Matcher → Asked → ℕ → List ℕ → Result Verdict IllShaped
ask_verdict row place m sign syllable sets =
    unless_refused (bad_place row place || odd_sets sets) (verdict m sign syllable sets (get_or (glyphs_of row) place blank))

-- ---- number and values of each case

abbrev refused_by1 : Reply
refused_by1 = replies 1 []

abbrev answered : ℕ → Reply
answered k = replies 0 (k ∷ [])

abbrev pub skip_reply : Result MaySkip IllShaped → Reply
skip_reply (Err why) = refused_by1
skip_reply (Ok MaySkip.No) = answered 0
skip_reply (Ok MaySkip.Yes) = answered 1
skip_reply (Ok MaySkip.Maybe) = answered 2

abbrev pub match_reply : Result MayMatch IllShaped → Reply
match_reply (Err why) = refused_by1
match_reply (Ok MayMatch.No) = answered 0
match_reply (Ok MayMatch.Yes) = answered 1
match_reply (Ok MayMatch.Maybe) = answered 2

abbrev pub verdict_reply : Result Verdict IllShaped → Reply
verdict_reply (Err why) = refused_by1
verdict_reply (Ok Verdict.Match) = answered 0
verdict_reply (Ok Verdict.NotMatch) = answered 1
verdict_reply (Ok Verdict.Skip) = answered 2
