-- For C, a layout of our own: what goes into the questions and the walks as numbers, and what comes back: number and value of each answer, as the
-- rooms' replies have them.
use Rattle.std.specs.Prelude.{Bool, true, false, get_or, Result, Ok, Err}
use Rattle.glyph.specs.declared.IllShaped.{IllShaped}
use Rattle.glyph.specs.Reply.{Reply}
use Rattle.verdict.specs.declared.Settings.{Settings}
use Rattle.verdict.specs.declared.Matcher.{Matcher}
use Rattle.verdict.specs.declared.Sign.{Sign}
use Rattle.verdict.specs.Matcher.{matcher_of}
use Rattle.walk.specs.Calls.{walk_reply}
use Rattle.walk.specs.declared.Walked.{Walked}
use Rattle.walk.specs.declared.Walked.TheVariants.{Found, Stopped, RanOut}
use Rattle.verdict.specs.Numbers.{table_of, test_of}
use Rattle.desk.specs.declared.walks.Lookup.{Lookup}
use Rattle.desk.specs.declared.walks.Sought.{Sought}
use Rattle.desk.specs.declared.walks.Said.{Said}
use Rattle.desk.specs.declared.walks.Step.{Step}

abbrev pub settings_for : Lookup → Settings
settings_for l = record { table = table_of l.gpos; zwnj = l.zwnj; zwj = l.zwj; syllables = l.syllables }

-- the input matcher of a lookup, or its context matcher
abbrev pub matcher_for : Lookup → Bool → Matcher
matcher_for l context = matcher_of (settings_for l) context l.mask l.props

abbrev pub sign_of : Sought → Sign
sign_of s = record { test = test_of s.test; value = s.value }

-- no more glyphs were left
abbrev pub ran_out : Result Walked IllShaped → Bool
ran_out (Ok (Found p)) = false
ran_out (Ok (Stopped e)) = false
ran_out (Ok (RanOut e)) = true
ran_out (Err why) = false

-- a reply's number, and its one value, 0 where it has none
abbrev pub said_of : Reply → Said
said_of a = record { number = a.number; said = get_or a.values 0 0 }

abbrev pub step_of : Result Walked IllShaped → Step
step_of w = let a = walk_reply w in record { number = a.number; ranout = ran_out w; place = get_or a.values 0 0 }
