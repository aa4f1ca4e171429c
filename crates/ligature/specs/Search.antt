-- The code's side: the search for the base made once, when it is needed, and what is then known of the base. Not a rule of 01; Laws.antt shows that
-- it serves the rule.
use Rattle.std.specs.Prelude.{Bool, true, false, not, cond, ◌&&◌}
use Rattle.glyph.specs.declared.Glyph.{Glyph}
use Rattle.ligature.specs.declared.Ligbase.{Ligbase}
use Rattle.ligature.specs.declared.Ligbase.TheVariants.{NotChecked, MayNotSkip, MaySkip}
use Rattle.ligature.specs.Ligature.{attached, together}

-- only then does the base count
unfoldable pub base_needed : Glyph → Glyph → Bool
base_needed first this = attached first && not (together first this)

abbrev pub may_skip : Ligbase → Bool
may_skip NotChecked = false
may_skip MayNotSkip = false
may_skip MaySkip = true

-- what is known of the base, where the search would say `skips`
abbrev pub looked : Ligbase → Bool → Bool → Ligbase
looked NotChecked needed skips = cond needed (cond skips MaySkip MayNotSkip) NotChecked
looked MayNotSkip needed skips = MayNotSkip
looked MaySkip needed skips = MaySkip
