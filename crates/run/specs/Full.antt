-- What Full means (01, "Records over a text"): a lookup of kind 2 that was tried, at its id, would have passed the limit; and no other lookup ends a
-- run so.
use Rattle.std.specs.Prelude.{◌≡◌, refl, Bool, List, ◌↔◌, ℕ, length}
use Rattle.std.proofs.Common.{sym, ap, arith}
use Rattle.std.proofs.Math.Bool.{true, false, cond}
use Rattle.glyph.specs.declared.Glyph.{Glyph}
use Rattle.text.specs.Text.{Text, replaced_by, is_full}
use Rattle.verdict.specs.Verdict.{Asked}
use Rattle.book.specs.Book.{Record, Chain, Lookup, Kind1, Kind2, Kind3, Found, Is, None}
use Rattle.run.specs.declared.Ending.TheVariants.{Full}
use Rattle.run.specs.Repair.{Repairing}
use Rattle.run.specs.Run.{PastLimit, Into, Halts, Match, Deed, Acts, Chains, Rules, Stage, opened, begun, run_on}
use Rattle.run.specs.Deeds.{is_at, renamed_by, deed_by, rules_by}
use Rattle.run.specs.Stops.{MetReason, Halting, stopped_exactly}

-- kind 2 at its id, with more ids than there is room for
abbrev pub Overfills : Found → Text → Type 0
Overfills (Is (Kind1 props from to)) t = ⊥
Overfills (Is (Kind2 props from ids)) t = (is_at from t ≡ true) × (is_full (length t.glyphs) (length ids) ≡ true)
Overfills (Is (Kind3 props chain)) t = ⊥
Overfills None t = ⊥

-- at a due record of the level, or of a level below it
abbrev pub MetLimit : Rules → List Lookup → ℕ → List Record → Stage → Type 0
MetLimit = MetReason Overfills

-- ---- so it is with 01's lookups

goes_on : {t : Text} → Into t ≡ Halts PastLimit → ⊥
goes_on e = let z : ◌≡◌ {A = ℕ} 0 1 = cc in omega arith

abbrev HaltsAt : Deed → Text → Type 0
HaltsAt (Acts act) t = act t ≡ Halts PastLimit
HaltsAt (Chains match records) t = ⊥

module _ (match : ℕ → Chain Asked → Text → Match) (write : ℕ → Glyph → Glyph) where
  limit_at : (found : Found) (t : Text) → HaltsAt (deed_by match write found) t ↔ Overfills found t
  unfolding deed_by
  limit_at (Is (Kind1 props from to)) t = (by (is_at from t), λ z. absurd z)
    where
      by : (b : Bool) → cond b (renamed_by write to t) (Into t) ≡ Halts PastLimit → ⊥
      by true e = goes_on e
      by false e = goes_on e
  limit_at (Is (Kind2 props from ids)) t = (by (is_at from t) (is_full (length t.glyphs) (length ids)), λ h. rw (h.0, h.1))
    where
      by : (b c : Bool) → cond b (cond c (Halts PastLimit) (Into (replaced_by write ids t))) (Into t) ≡ Halts PastLimit → (b ≡ true) × (c ≡ true)
      by true true e = (refl, refl)
      by true false e = absurd (goes_on e)
      by false c e = absurd (goes_on e)
  limit_at (Is (Kind3 props chain)) t = (λ z. z, λ z. z)
  limit_at None t = (λ e. goes_on e, λ z. absurd z)

  module _ (repair : Found → Repairing) where
    limit_told : Halting (rules_by match write repair) PastLimit Overfills
    limit_told found act e t =
        let l = limit_at found t in
        let same : HaltsAt (deed_by match write found) t ≡ HaltsAt (Acts act) t = ap (λ (d : Deed). HaltsAt d t) e in
        (λ h. l.0 (rw same h), λ o. rw (sym same) (l.1 o))

    -- however chains match, glyphs are written and levels are repaired
    pub full_exactly : (book : List Lookup) (records : List Record) (positions : List ℕ) (end : ℕ) (t : Text) (d a : ℕ)
        → ((run_on (rules_by match write repair) book d records positions end a t).run.tally.ending ≡ Full)
        ↔ MetLimit (rules_by match write repair) book d records (opened positions end (begun a t))
    full_exactly book records positions end t =
        stopped_exactly (rules_by match write repair) book records positions end t PastLimit Overfills limit_told
