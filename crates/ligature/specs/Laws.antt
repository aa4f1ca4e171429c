-- The search for the base a glyph at a time; what base it finds; and that one search, made when it is needed, serves the rule.
use Prim.Native.Nat.{ℕ, zero, suc, ◌≤◌, ◌<◌}
use Rattle.std.proofs.Math.Path.{◌≡◌, refl, ap}
use Rattle.std.proofs.Common.{sym, ◌∙◌, subst, true≢false, eq-or-lt_of_le}
use Rattle.std.specs.Prelude.{List, ◌↔◌, Bool, true, false, not, cond, ◌&&◌, ◌||◌, eqb, length, get_or, Option, Some, None}
use Rattle.std.proofs.Math.Logic.{⊎_elim}
use native.Mathlib.Omega.{arith}
use borrow.Author.Tests.{eq-eqb, ne_eqb, eqb-true}
use Rattle.glyph.specs.declared.Glyph.{Glyph}
use Rattle.glyph.specs.Glyph.{blank}
use Rattle.verdict.specs.declared.Matcher.{Matcher}
use Rattle.verdict.specs.Verdict.{skip_yes}
use Rattle.ligature.specs.declared.Ligbase.{Ligbase}
use Rattle.ligature.specs.declared.Ligbase.TheVariants.{NotChecked, MayNotSkip, MaySkip}
use Rattle.ligature.specs.Ligature.{attached, together, may_join, base_before, skips_at, base_skips}
use Rattle.ligature.specs.Search.{base_needed, may_skip, looked}

-- what the glyph at place k makes of the search from after it
abbrev pub seen : Glyph → ℕ → ℕ → Option ℕ → Option ℕ
seen g id k back = cond (eqb g.lig id) (cond (eqb g.comp 0) (Some k) back) None

pub seek_on : (id : ℕ) (gs : List Glyph) (j k : ℕ) (g : Glyph) → j ≡ suc k → g ≡ get_or gs k blank
    → base_before id gs j ≡ seen g id k (base_before id gs k)
unfolding base_before
seek_on id gs j k g e eg = rw (e, eg)

pub seek_end : (id : ℕ) (gs : List Glyph) (j : ℕ) → j ≡ 0 → base_before id gs j ≡ None
unfolding base_before
seek_end id gs j e = rw e

-- ---- the base found

-- the glyph with component 0 nearest the end of the first n glyphs, with no glyph of another id after it
pub record IsBase (id : ℕ) (gs : List Glyph) (n j : ℕ) : Type 0 where
  pub inside : j < n
  pub same : (get_or gs j blank).lig ≡ id
  pub whole : (get_or gs j blank).comp ≡ 0
  pub after_same : (k : ℕ) → j < k → k < n → (get_or gs k blank).lig ≡ id
  pub after_part : (k : ℕ) → j < k → k < n → (get_or gs k blank).comp ≡ 0 → ⊥

module _ (id : ℕ) (gs : List Glyph) where
  -- one more glyph at the end, of the id and with a component
  more : (n j : ℕ) → (get_or gs n blank).lig ≡ id → ((get_or gs n blank).comp ≡ 0 → ⊥) → IsBase id gs n j → IsBase id gs (suc n) j
  more n j e d b = record {
    inside = let h = b.inside in omega arith;
    same = b.same;
    whole = b.whole;
    after_same = λ k l u.
        let u' : k ≤ n = omega arith in
        ⊎_elim (λ s. subst (λ (i : ℕ). (get_or gs i blank).lig ≡ id) (sym s) e) (λ h. b.after_same k l h) (eq-or-lt_of_le u');
    after_part = λ k l u z.
        let u' : k ≤ n = omega arith in
        ⊎_elim (λ s. d (subst (λ (i : ℕ). (get_or gs i blank).comp ≡ 0) s z)) (λ h. b.after_part k l h z) (eq-or-lt_of_le u');
  }

  sound_by : (n j : ℕ) (b c : Bool) → eqb (get_or gs n blank).lig id ≡ b → eqb (get_or gs n blank).comp 0 ≡ c
      → (base_before id gs n ≡ Some j → IsBase id gs n j)
      → cond b (cond c (Some n) (base_before id gs n)) None ≡ Some j → IsBase id gs (suc n) j
  sound_by n j true true eb ec ih e =
      let z : n ≡ j = cc in
      subst (IsBase id gs (suc n)) z
      (record {
        inside = omega arith;
        same = eqb-true (get_or gs n blank).lig id eb;
        whole = eqb-true (get_or gs n blank).comp 0 ec;
        after_same = λ k l u. absurd (omega arith);
        after_part = λ k l u. absurd (omega arith);
      })
  sound_by n j true false eb ec ih e =
      more n j (eqb-true (get_or gs n blank).lig id eb) (λ z. true≢false (sym (eq-eqb (get_or gs n blank).comp 0 z) ∙ ec)) (ih e)
  sound_by n j false c eb ec ih e = let z : ◌≡◌ {A = ℕ} 0 1 = cc in absurd (omega arith)

  sound : (n j : ℕ) → base_before id gs n ≡ Some j → IsBase id gs n j
  unfolding base_before
  sound zero j e = let z : ◌≡◌ {A = ℕ} 0 1 = cc in absurd (omega arith)
  sound (suc n) j e = sound_by n j (eqb (get_or gs n blank).lig id) (eqb (get_or gs n blank).comp 0) refl refl (sound n j) e

  complete : (n j : ℕ) → IsBase id gs n j → base_before id gs n ≡ Some j
  unfolding base_before
  complete zero j b = let h = b.inside in absurd (omega arith)
  complete (suc n) j b =
      let le : j ≤ n = let h = b.inside in omega arith in
      ⊎_elim
      (λ s.
      rw (
        eq-eqb (get_or gs n blank).lig id (subst (λ (i : ℕ). (get_or gs i blank).lig ≡ id) s b.same),
        eq-eqb (get_or gs n blank).comp 0 (subst (λ (i : ℕ). (get_or gs i blank).comp ≡ 0) s b.whole),
      )
      (ap Some (sym s)))
      (λ l.
      rw (
        eq-eqb (get_or gs n blank).lig id (b.after_same n l (omega arith)),
        ne_eqb (get_or gs n blank).comp 0 (b.after_part n l (omega arith)),
      )
      (complete n j
      (record {
        inside = l;
        same = b.same;
        whole = b.whole;
        after_same = λ k g h. b.after_same k g (omega arith);
        after_part = λ k g h. b.after_part k g (omega arith);
      })))
      (eq-or-lt_of_le le)

  pub base_found : (n j : ℕ) → (base_before id gs n ≡ Some j) ↔ IsBase id gs n j
  base_found n j = (sound n j, complete n j)

  -- nothing is found exactly when there is no base
  pub no_base : (n : ℕ) → (base_before id gs n ≡ None) ↔ ((j : ℕ) → IsBase id gs n j → ⊥)
  no_base n = (
    λ e j b. let f = complete n j b in let z : ◌≡◌ {A = ℕ} 0 1 = cc in omega arith,
    none (base_before id gs n) refl,
  )
    where
      none : (b : Option ℕ) → base_before id gs n ≡ b → ((j : ℕ) → IsBase id gs n j → ⊥) → base_before id gs n ≡ None
      none (Some j) e h = absurd (h j (sound n j e))
      none None e h = e

-- a base that the matcher ignores
pub record IgnoredBase (m : Matcher) (sets : List ℕ) (id : ℕ) (gs : List Glyph) : Type 0 where
  pub place : ℕ
  pub base : IsBase id gs (length gs) place
  pub ignored : skip_yes m sets (get_or gs place blank) ≡ true

module _ (m : Matcher) (sets : List ℕ) (id : ℕ) (gs : List Glyph) where
  by_base : (b : Option ℕ) → base_before id gs (length gs) ≡ b → skips_at m sets gs b ≡ true → IgnoredBase m sets id gs
  by_base (Some j) e y = record { place = j; base = (base_found id gs (length gs) j).0 e; ignored = y }
  by_base None e y = absurd (true≢false (sym y))

  pub base_skips_lem : (base_skips m sets id gs ≡ true) ↔ IgnoredBase m sets id gs
  unfolding base_skips
  base_skips_lem = (
    by_base (base_before id gs (length gs)) refl,
    λ b. ap (skips_at m sets gs) ((base_found id gs (length gs) b.place).1 b.base) ∙ b.ignored,
  )

-- ---- one search

-- what is known is so
abbrev pub Known : Ligbase → Bool → Type 0
Known NotChecked skips = Unit {0}
Known MayNotSkip skips = skips ≡ false
Known MaySkip skips = skips ≡ true

pub looked_known : (known : Ligbase) (needed skips : Bool) → Known known skips → Known (looked known needed skips) skips
looked_known NotChecked true true h = refl
looked_known NotChecked true false h = refl
looked_known NotChecked false skips h = tt
looked_known MayNotSkip needed skips h = h
looked_known MaySkip needed skips h = h

pub looked_serves : (known : Ligbase) (first this : Glyph) (skips : Bool) → Known known skips
    → may_join first this (may_skip (looked known (base_needed first this) skips)) ≡ may_join first this skips
unfolding may_join base_needed
looked_serves known first this skips h =
    by_case known (attached first) (together first this) skips (not (attached this) || eqb this.lig first.lig) h where
      by_case : (known : Ligbase) (a t skips other : Bool) → Known known skips
          → cond a (t || may_skip (looked known (a && not t) skips)) other ≡ cond a (t || skips) other
      by_case known false t skips other h = refl
      by_case known true true skips other h = refl
      by_case NotChecked true false true other h = refl
      by_case NotChecked true false false other h = refl
      by_case MayNotSkip true false skips other h = sym h
      by_case MaySkip true false skips other h = sym h
