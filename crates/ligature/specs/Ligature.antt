-- The ligature rule of input matching, tested after each glyph taken (01, port order 5).
use Rattle.std.specs.Prelude.{ℕ, zero, suc, List, Bool, false, not, cond, ◌&&◌, ◌||◌, eqb, length, get_or, Option, Some, None}
use Rattle.glyph.specs.declared.Glyph.{Glyph}
use Rattle.glyph.specs.Glyph.{blank}
use Rattle.verdict.specs.declared.Matcher.{Matcher}
use Rattle.verdict.specs.Verdict.{skip_yes}

-- nonzero id and component
abbrev pub attached : Glyph → Bool
attached g = not (eqb g.lig 0) && not (eqb g.comp 0)

-- both equal
abbrev pub together : Glyph → Glyph → Bool
together first this = eqb this.lig first.lig && eqb this.comp first.comp

-- if the first is attached, each later one needs both equal, unless an ignorable base is found;
-- if it isn't, a later one that is attached must share its id
unfoldable pub may_join : Glyph → Glyph → Bool → Bool
may_join first this base =
    cond (attached first) (together first this || base) (not (attached this) || eqb this.lig first.lig)

-- the search back over the first n of the glyphs ends at the first glyph of another id, or at component 0, which is the base found
unfoldable pub base_before : ℕ → List Glyph → ℕ → Option ℕ
base_before id gs zero = None
base_before id gs (suc j) =
    let g = get_or gs j blank in
    let back = base_before id gs j in
    cond (eqb g.lig id) (cond (eqb g.comp 0) (Some j) back) None

abbrev pub skips_at : Matcher → List ℕ → List Glyph → Option ℕ → Bool
skips_at m sets gs (Some j) = skip_yes m sets (get_or gs j blank)
skips_at m sets gs None = false

-- a base is found, and it is skip Yes
unfoldable pub base_skips : Matcher → List ℕ → ℕ → List Glyph → Bool
base_skips m sets id gs = skips_at m sets gs (base_before id gs (length gs))
