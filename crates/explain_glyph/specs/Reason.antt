-- Which rule decides may skip and may match (01, port order 3): the clauses of `Verdict`'s definitions, in their order.
use Rattle.std.specs.Prelude.{ℕ, List, not, cond, ◌&&◌, eqb}
use Rattle.std.specs.Int.Bits.{bit_and}
use Rattle.bits.specs.Bits.{bit}
use Rattle.glyph.specs.declared.Glyph.{Glyph}
use Rattle.verdict.specs.declared.Matcher.{Matcher}
use Rattle.verdict.specs.declared.MaySkip.{MaySkip}
use Rattle.verdict.specs.declared.MayMatch.{MayMatch}
use Rattle.verdict.specs.declared.Test.{Test}
use Rattle.verdict.specs.declared.Test.TheVariants.{Equal, Any, Nothing}
use Rattle.verdict.specs.declared.Sign.{Sign}
use Rattle.verdict.specs.Verdict.{uses_set, skip_yes, ignorable}
use Rattle.explain_glyph.specs.declared.SkipReason.{SkipReason}
use Rattle.explain_glyph.specs.declared.SkipReason.TheVariants.{IgnoredBase, IgnoredLigature, IgnoredMark, OutsideSet, OtherClass}
use Rattle.explain_glyph.specs.declared.SkipReason.TheVariants.{DefaultIgnorable, KeptZwnj, KeptZwj, KeptHidden, NotIgnorable}
use Rattle.explain_glyph.specs.declared.MatchReason.{MatchReason}
use Rattle.explain_glyph.specs.declared.MatchReason.TheVariants.{NoMask, OtherSyllable, OtherId, EqualId, AnyId, NoTest}

-- ---- may skip

-- skip Yes: an ignored class, base before ligature before mark; else a mark, by the set where one is named, else by its class
unfoldable pub yes_reason : ℕ → ℕ → SkipReason
yes_reason asked props =
    cond (bit 1 props && bit 1 asked) IgnoredBase
    (cond (bit 2 props && bit 2 asked) IgnoredLigature
    (cond (bit 3 props && bit 3 asked) IgnoredMark
    (cond (uses_set asked) OutsideSet OtherClass)))

-- skip No: no default ignorable; else a ZWNJ, ZWJ or hidden glyph that isn't ignored
unfoldable pub no_reason : Matcher → ℕ → SkipReason
no_reason m flags =
    cond (bit 0 flags)
    (cond (bit 1 flags && not m.zwnj) KeptZwnj (cond (bit 2 flags && not m.zwj) KeptZwj KeptHidden))
    NotIgnorable

unfoldable pub skip_reason : Matcher → List ℕ → Glyph → SkipReason
skip_reason m sets g =
    cond (skip_yes m sets g) (yes_reason m.props g.props) (cond (ignorable m g) DefaultIgnorable (no_reason m g.flags))

-- what each reason is a reason for
abbrev pub skip_for : SkipReason → MaySkip
skip_for IgnoredBase = MaySkip.Yes
skip_for IgnoredLigature = MaySkip.Yes
skip_for IgnoredMark = MaySkip.Yes
skip_for OutsideSet = MaySkip.Yes
skip_for OtherClass = MaySkip.Yes
skip_for DefaultIgnorable = MaySkip.Maybe
skip_for KeptZwnj = MaySkip.No
skip_for KeptZwj = MaySkip.No
skip_for KeptHidden = MaySkip.No
skip_for NotIgnorable = MaySkip.No

-- ---- may match

abbrev pub value_reason : Test → ℕ → ℕ → MatchReason
value_reason Equal value id = cond (eqb id value) EqualId OtherId
value_reason Any value id = AnyId
value_reason Nothing value id = NoTest

-- the mask, else the syllable, else the value
unfoldable pub match_reason : Matcher → Sign → ℕ → Glyph → MatchReason
match_reason m sign syllable g =
    cond (eqb (bit_and g.mask m.mask) 0) NoMask
    (cond ((m.syllabic && not (eqb syllable 0)) && not (eqb syllable g.syllable)) OtherSyllable
    (value_reason sign.test sign.value g.id))

abbrev pub match_for : MatchReason → MayMatch
match_for NoMask = MayMatch.No
match_for OtherSyllable = MayMatch.No
match_for OtherId = MayMatch.No
match_for EqualId = MayMatch.Yes
match_for AnyId = MayMatch.Yes
match_for NoTest = MayMatch.Maybe
