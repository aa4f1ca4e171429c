-- The two matchers that settings, a lookup mask and lookup props make (01, port order 3, its second part).
use Rattle.std.specs.Prelude.{ℕ, Bool, true, false, not, cond, ◌&&◌, ◌||◌}
use Rattle.verdict.specs.declared.Table.{Table}
use Rattle.verdict.specs.declared.Table.TheVariants.{Gsub, Gpos}
use Rattle.verdict.specs.declared.Settings.{Settings}
use Rattle.verdict.specs.declared.Matcher.{Matcher}

abbrev pub is_gpos : Table → Bool
is_gpos Gsub = false
is_gpos Gpos = true

abbrev pub all_bits : ℕ
all_bits = 0xffff_ffff

-- syllables are tested only under GSUB when asked
abbrev pub tests_syllables : Settings → Bool
tests_syllables s = not (is_gpos s.table) && s.syllables

-- input: the lookup mask; ZWNJ ignored under GPOS; ZWJ if auto-ZWJ; hidden under GPOS
unfoldable pub input_matcher : Settings → ℕ → ℕ → Matcher
input_matcher s lookup_mask lookup_props = record {
  props = lookup_props;
  mask = lookup_mask;
  zwnj = is_gpos s.table;
  zwj = s.zwj;
  hidden = is_gpos s.table;
  syllabic = tests_syllables s;
}

-- context: all mask bits; ZWNJ ignored under GPOS or auto-ZWNJ; ZWJ always; hidden under GPOS
unfoldable pub context_matcher : Settings → ℕ → Matcher
context_matcher s lookup_props = record {
  props = lookup_props;
  mask = all_bits;
  zwnj = is_gpos s.table || s.zwnj;
  zwj = true;
  hidden = is_gpos s.table;
  syllabic = tests_syllables s;
}

unfoldable pub matcher_of : Settings → Bool → ℕ → ℕ → Matcher
matcher_of s context lookup_mask lookup_props = cond context (context_matcher s lookup_props) (input_matcher s lookup_mask lookup_props)
