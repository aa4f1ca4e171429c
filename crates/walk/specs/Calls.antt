-- The two walks that a user calls: on a row of words and a place, answered or refused by 1 (01, port order 4, and its table of refusals).
use Rattle.std.specs.Prelude.{ℕ, ◌+◌, List, [], ◌∷◌, Bool, cond, ◌||◌, ltb, length, Result, Ok, Err}
use Rattle.glyph.specs.declared.IllShaped.{IllShaped}
use Rattle.glyph.specs.Glyph.{glyphs_of, ill_shaped}
use Rattle.glyph.specs.Sets.{odd_sets}
use Rattle.glyph.specs.Reply.{Reply, replies}
use Rattle.verdict.specs.declared.Matcher.{Matcher}
use Rattle.verdict.specs.Verdict.{Asked, judge_at}
use Rattle.walk.specs.declared.Walked.{Walked}
use Rattle.walk.specs.declared.Walked.TheVariants.{Found, Stopped, RanOut}
use Rattle.walk.specs.Walk.{walk_from, walk_back}

-- refusal 1: a row not whole glyphs or over the limit, len past its row, a walk's place past len, odd mark sets
unfoldable pub bad_walk : List ℕ → ℕ → ℕ → List ℕ → Bool
bad_walk row len place sets = ((ill_shaped row || ltb (length (glyphs_of row)) len) || ltb len place) || odd_sets sets

-- forward from a place, the next glyph tested is one later
unfoldable pub forward_of : List ℕ → ℕ → ℕ → Matcher → Asked → ℕ → List ℕ → Result Walked IllShaped
forward_of row len place m asked syllable sets =
    cond (bad_walk row len place sets) (Err (record {})) (Ok (walk_from (judge_at m asked syllable sets (glyphs_of row)) len (place + 1)))

-- backward, every glyph of the row counts
unfoldable pub backward_of : List ℕ → ℕ → Matcher → Asked → ℕ → List ℕ → Result Walked IllShaped
backward_of row place m asked syllable sets =
    cond (bad_walk row (length (glyphs_of row)) place sets) (Err (record {})) (Ok (walk_back (judge_at m asked syllable sets (glyphs_of row)) place))

-- number and values of each case; 01 gives found no number, 0 is our choice
abbrev pub walk_reply : Result Walked IllShaped → Reply
walk_reply (Ok (Found p)) = replies 0 (p ∷ [])
walk_reply (Ok (Stopped extent)) = replies 4 (extent ∷ [])
walk_reply (Ok (RanOut extent)) = replies 4 (extent ∷ [])
walk_reply (Err e) = replies 1 []
