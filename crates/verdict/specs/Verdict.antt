-- Whether a glyph may be skipped, whether it may match, and the verdict on it (01, port order 3).
use Rattle.std.specs.Prelude.{ℕ, ◌/◌, ◌%◌, List, Bool, true, false, not, cond, ◌&&◌, ◌||◌, eqb, get_or}
use Rattle.std.specs.Int.Bits.{bit_and}
use Rattle.bits.specs.Bits.{bit}
use Rattle.glyph.specs.declared.Glyph.{Glyph}
use Rattle.glyph.specs.Glyph.{blank}
use Rattle.glyph.specs.Sets.{in_set}
use Rattle.verdict.specs.declared.Matcher.{Matcher}
use Rattle.verdict.specs.declared.MaySkip.{MaySkip}
use Rattle.verdict.specs.declared.MayMatch.{MayMatch}
use Rattle.verdict.specs.declared.Test.{Test}
use Rattle.verdict.specs.declared.Test.TheVariants.{Equal, Any, Nothing}
use Rattle.verdict.specs.declared.Sign.{Sign}
use Rattle.verdict.specs.declared.Verdict.{Verdict}
use Rattle.verdict.specs.declared.Verdict.TheVariants.{Match, NotMatch, Skip}

-- ---- may skip

-- OpenType, chapter GDEF, glyph class definitions: the classes base, ligature and mark (1, 2, 3 there) are the bits 2, 4 and 8 of 01's props.
-- OpenType, chapter "OpenType Layout common table formats", LookupFlag: 2, 4, 8 of the lookup's props ignore those classes.
abbrev pub ignored_class : ℕ → ℕ → Bool
ignored_class asked props = ((bit 1 props && bit 1 asked) || (bit 2 props && bit 2 asked)) || (bit 3 props && bit 3 asked)

abbrev pub is_mark : ℕ → Bool
is_mark props = bit 3 props

-- LookupFlag, 0x0010: the lookup uses a mark filtering set; 01's props name it in their high half
abbrev pub uses_set : ℕ → Bool
uses_set asked = bit 4 asked

abbrev pub set_named : ℕ → ℕ
set_named asked = asked / 65536

-- LookupFlag, 0xFF00: the mark attachment class that the lookup asks
abbrev pub class_asked : ℕ → ℕ
class_asked asked = asked / 256 % 256

-- chapter GDEF, mark attachment classes: 01 has a glyph's in the high byte of its props
abbrev pub class_of : ℕ → ℕ
class_of props = props / 256

-- LookupFlag, a filtering set goes before an attachment class:
-- a mark outside the named set, or, with flag 0x10 clear and a nonzero class asked, a mark of another class
abbrev pub other_mark : ℕ → List ℕ → ℕ → ℕ → Bool
other_mark asked sets props id =
    is_mark props
    && cond (uses_set asked)
    (not (in_set sets (set_named asked) id))
    (not (eqb (class_asked asked) 0) && not (eqb (class_asked asked) (class_of props)))

-- skip Yes: an ignored class, else a mark that the lookup passes over
unfoldable pub skip_yes : Matcher → List ℕ → Glyph → Bool
skip_yes m sets g = ignored_class m.props g.props || other_mark m.props sets g.props g.id

-- flags 1 default ignorable, 2 ZWNJ, 4 ZWJ, 8 hidden:
-- default ignorable, and neither a ZWNJ, ZWJ nor hidden glyph that isn't ignored
abbrev pub ignorable_by : Bool → Bool → Bool → ℕ → Bool
ignorable_by zwnj zwj hidden flags =
    ((bit 0 flags && (zwnj || not (bit 1 flags))) && (zwj || not (bit 2 flags))) && (hidden || not (bit 3 flags))

unfoldable pub ignorable : Matcher → Glyph → Bool
ignorable m g = ignorable_by m.zwnj m.zwj m.hidden g.flags

unfoldable pub skip_of : Matcher → List ℕ → Glyph → MaySkip
skip_of m sets g = cond (skip_yes m sets g) MaySkip.Yes (cond (ignorable m g) MaySkip.Maybe MaySkip.No)

-- ---- may match

-- mask AND matcher mask is 0, or syllables are tested and the starting syllable is nonzero and differs
unfoldable pub ruled_out : Matcher → ℕ → Glyph → Bool
ruled_out m syllable g =
    eqb (bit_and g.mask m.mask) 0
    || ((m.syllabic && not (eqb syllable 0)) && not (eqb syllable g.syllable))

abbrev pub yes_if : Bool → MayMatch
yes_if b = cond b MayMatch.Yes MayMatch.No

-- what is asked of a glyph, beside the mask and the syllable: any test of it
abbrev pub Asked : Type 0
Asked = Glyph → MayMatch

-- the id is the value
abbrev pub equal_to : ℕ → Asked
equal_to value g = yes_if (eqb g.id value)

-- Yes or No by the value (equal id, or any), or Maybe where no test is set. The lists are words lent beside the values; no test of today looks at
-- them
unfoldable pub value_by : Test → List ℕ → ℕ → Asked
value_by Equal lists value g = equal_to value g
value_by Any lists value g = MayMatch.Yes
value_by Nothing lists value g = MayMatch.Maybe

abbrev pub value_of : Sign → List ℕ → Asked
value_of sign lists = value_by sign.test lists sign.value

abbrev pub is_yes : MayMatch → Bool
is_yes MayMatch.Yes = true
is_yes MayMatch.No = false
is_yes MayMatch.Maybe = false

unfoldable pub match_of : Matcher → Asked → ℕ → Glyph → MayMatch
match_of m asked syllable g = cond (ruled_out m syllable g) MayMatch.No (asked g)

-- ---- the verdict

-- skip Yes is passed over; else Yes matches, and Maybe matches under skip No; else skip No stops and Maybe is passed over
abbrev pub verdict_of : MaySkip → MayMatch → Verdict
verdict_of MaySkip.Yes m = Skip
verdict_of MaySkip.No MayMatch.Yes = Match
verdict_of MaySkip.Maybe MayMatch.Yes = Match
verdict_of MaySkip.No MayMatch.Maybe = Match
verdict_of MaySkip.No MayMatch.No = NotMatch
verdict_of MaySkip.Maybe MayMatch.No = Skip
verdict_of MaySkip.Maybe MayMatch.Maybe = Skip

unfoldable pub verdict : Matcher → Asked → ℕ → List ℕ → Glyph → Verdict
verdict m asked syllable sets g = verdict_of (skip_of m sets g) (match_of m asked syllable g)

-- the judge of the places of a list of glyphs
abbrev pub judge_at : Matcher → Asked → ℕ → List ℕ → List Glyph → ℕ → Verdict
judge_at m asked syllable sets gs i = verdict m asked syllable sets (get_or gs i blank)
