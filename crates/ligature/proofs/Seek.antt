-- What the glyph before place j makes of the search back from j, in the code's numbers. Assumes nothing.
use Rattle.std.proofs.Common.{ℕ, ◌<◌, ◌-◌, ◌≡◌, ◌∙◌, refl, List, get_or, Some, None, arith}
use borrow.Author.Tests.{eq-eqb, ne_eqb}
use Rattle.glyph.specs.declared.Glyph.{Glyph}
use Rattle.glyph.specs.Glyph.{blank}
use Rattle.ligature.specs.Ligature.{base_before}
use Rattle.ligature.specs.Laws.{seek_on, seek_end, base_found}

pub seek_base : (id : ℕ) (gs : List Glyph) (j : ℕ) → 0 < j → (get_or gs (j - 1) blank).lig ≡ id → (get_or gs (j - 1) blank).comp ≡ 0
    → base_before id gs j ≡ Some (j - 1)
seek_base id gs j turn same whole =
    seek_on id gs j (j - 1) (get_or gs (j - 1) blank) (omega arith) refl ∙ rw (eq-eqb _ _ same, eq-eqb _ _ whole)

pub seek_part : (id : ℕ) (gs : List Glyph) (j : ℕ) → 0 < j → (get_or gs (j - 1) blank).lig ≡ id
    → ((get_or gs (j - 1) blank).comp ≡ 0 → ⊥) → base_before id gs j ≡ base_before id gs (j - 1)
seek_part id gs j turn same part =
    seek_on id gs j (j - 1) (get_or gs (j - 1) blank) (omega arith) refl ∙ rw (eq-eqb _ _ same, ne_eqb _ _ part)

pub seek_other : (id : ℕ) (gs : List Glyph) (j : ℕ) → 0 < j → ((get_or gs (j - 1) blank).lig ≡ id → ⊥) → base_before id gs j ≡ None
seek_other id gs j turn other =
    seek_on id gs j (j - 1) (get_or gs (j - 1) blank) (omega arith) refl ∙ rw (ne_eqb _ _ other)

-- the base found stands in the row
pub base_inside : (id : ℕ) (gs : List Glyph) (n j : ℕ) → base_before id gs n ≡ Some j → j < n
base_inside id gs n j e = ((base_found id gs n j).0 e).inside

pub ruleset seeking = (seek_base, seek_part, seek_other, seek_end)
