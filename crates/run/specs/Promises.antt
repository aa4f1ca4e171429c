-- Demand 3 and its companions, of any run over a text: whatever the book, the records, the match
-- and the rules, by which a lookup acts and a level is repaired (01, "Nailing an answer down").
use Rattle.std.specs.Prelude.{◌≡◌, refl, true, List, ◌↔◌, ℕ, ◌<◌, ◌≤◌, ◌+◌, ◌-◌, length}
use Rattle.std.proofs.Common.{ap, ◌∙◌, ⊎_elim, le_refl, add-zero, arith}
use Rattle.text.specs.Text.{Text}
use Rattle.book.specs.Book.{Record, Lookup}
use Rattle.run.specs.declared.Ending.TheVariants.{Finished, Short}
use Rattle.run.specs.Run.{Stage, Rules, opened, begun, run_on}
use Rattle.run.specs.Kept.{Fair, Good, chain_good}
use Rattle.run.specs.Spending.{refilled_of, chain_core}
use Rattle.run.specs.Tries.{chain_adds, chain_told}
use Rattle.run.specs.Repair.{Sound}
use Rattle.run.specs.Met.{Met}

-- two runs that end Finished with the same text, cursor, positions and number spent
pub record Alike (v w : Stage) : Type 0 where
  pub finished : (v.run.tally.ending ≡ Finished) × (w.run.tally.ending ≡ Finished)
  pub glyphs : v.run.text.glyphs ≡ w.run.text.glyphs
  pub cursor : v.run.text.cursor ≡ w.run.text.cursor
  pub positions : v.level.positions ≡ w.level.positions
  pub spent : v.run.tally.spent ≡ w.run.tally.spent

module _ (rules : Rules) (book : List Lookup) (records : List Record) (positions : List ℕ) (end : ℕ) (t : Text) where
  -- the run at a depth, with an allowance
  abbrev run : ℕ → ℕ → Stage
  run depth allowance = run_on rules book depth records positions end allowance t

  -- the number spent is the number of tries, which the allowance fell by
  pub spent_is_tries : (d a : ℕ) → (run d a).run.tally.left + (run d a).run.tally.spent ≡ a
  spent_is_tries d a = chain_adds rules book d records (opened positions end (begun a t)) ∙ add-zero a

  pub spent_within : (d a : ℕ) → (run d a).run.tally.spent ≤ a
  spent_within d a = omega (arith, spent_is_tries d a)

  -- Short exactly when a due record met allowance 0
  pub short_exactly : (d a : ℕ) → ((run d a).run.tally.ending ≡ Short)
      ↔ Met rules book d records (opened positions end (begun a t))
  short_exactly d a = (
    λ e. ⊎_elim (λ h. let z : ◌≡◌ {A = ℕ} 0 1 = cc in absurd (omega arith)) (λ m. m)
        ((chain_told rules book d records).only (opened positions end (begun a t)) e),
    λ m. ((chain_told rules book d records).so (opened positions end (begun a t)) m).0,
  )

  -- at least the allowance and the depth of a run that ended Finished
  pub more_is_same : (d d' a a' : ℕ) → d ≤ d' → a ≤ a' → (run d a).run.tally.ending ≡ Finished → Alike (run d' a') (run d a)
  more_is_same d d' a a' deeper more e =
      let s : ℕ = (run d a).run.tally.spent in
      let sum : (run d a).run.tally.left + s ≡ a = spent_is_tries d a in
      let i : a' ≡ a' - s + s = omega arith in
      let q : run d' a' ≡ refilled_of (a' - s) (run d a) =
      ap (λ (n : ℕ). run d' n) i
      ∙ (chain_core rules book d d' deeper records).0.enough (opened positions end (begun a t)) s (a' - s) e sum in
      record {
        finished = (ap (λ (v : Stage). v.run.tally.ending) q ∙ e, e);
        glyphs = ap (λ (v : Stage). v.run.text.glyphs) q;
        cursor = ap (λ (v : Stage). v.run.text.cursor) q;
        positions = ap (λ (v : Stage). v.level.positions) q;
        spent = ap (λ (v : Stage). v.run.tally.spent) q;
      }

  -- any allowance below what a Finished run spent; so one less, where it spent any
  pub less_is_short : (d a a' : ℕ) → (run d a).run.tally.ending ≡ Finished → a' < (run d a).run.tally.spent → (run d a').run.tally.ending ≡ Short
  less_is_short d a a' e lt =
      ((chain_core rules book d d (le_refl d) records).0.short (opened positions end (begun a t))
      (run d a).run.tally.spent a' e (spent_is_tries d a) lt).0

  pub one_less_is_short : (d a : ℕ) → (run d a).run.tally.ending ≡ Finished → 1 ≤ (run d a).run.tally.spent
      → (run d ((run d a).run.tally.spent - 1)).run.tally.ending ≡ Short
  one_less_is_short d a e some = less_is_short d a ((run d a).run.tally.spent - 1) e (omega arith)

  -- a match in the text, from the cursor on: its level stays sound, and no glyph before the cursor is touched
  pub run_good : Fair rules book → (d a : ℕ) → Sound t.cursor (length t.glyphs) (record { live = true; positions = positions; end = end })
      → t.cursor ≤ length t.glyphs
      → Good t.cursor (begun a t) (run d a)
  run_good fair d a s h =
      chain_good rules book fair d records t.cursor (begun a t)
      (opened positions end (begun a t))
      (record { level = s; kept = record { before = refl; long = h } })
