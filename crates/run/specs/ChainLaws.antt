-- A chain of at most 63 input values matches in the text, from the cursor on: at most 64 positions that rise, with the end after the last and in the
-- text.
-- The cursor is the first position and the others are the places that the input took, one for each of at most 63 values.
use Rattle.std.specs.Prelude.{◌≡◌, Bool, cond, ◌&&◌, List, ◌∷◌, ℕ, ◌+◌, ◌≤◌, ◌<◌, length, get_or}
use Rattle.std.proofs.Math.Path.{refl}
use Rattle.std.proofs.Common.{arith}
use Rattle.std.proofs.Math.Bool.{true, false}
use Rattle.glyph.specs.Glyph.{blank}
use Rattle.text.specs.Text.{Text}
use Rattle.verdict.specs.Verdict.{Asked, is_yes}
use Rattle.verdict.specs.declared.Verdict.{Verdict}
use Rattle.matching.specs.declared.Terms.{Terms}
use Rattle.matching.specs.Take.{ahead, Outcome, taken, lost, unlike, reached}
use Rattle.matching.specs.Matchers.{input_on, input_by}
use Rattle.matching.specs.Demand2.{Accepts, no_value, more}
use Rattle.matching.specs.Demand2Laws.{demand_2}
use Rattle.matching.specs.Rising.{as_many, end_inside}
use Rattle.book.specs.Book.{Chain, most_input}
use Rattle.run.specs.Run.{Matched, Unmatched}
use Rattle.run.specs.Repair as rises
use Rattle.run.specs.Repair.{Rises, Sound}
use Rattle.run.specs.Kept.{Fitting}
use Rattle.run.specs.Chain.{input_at, ahead_at, back_at, end_after, is_taken, context_matched, after_input, chain_match}

-- accepted places rise to the end
module _ {X : Type 0} {v : X → ℕ → Verdict} {ok : ℕ → Bool} where
  places_rise : {len p : ℕ} {values : List X} {places : List ℕ} → Accepts (ahead len) v ok p values places
      → Rises p (reached (ahead len) p places) places
  unfolding reached
  places_rise no_value = rises.no_position
  places_rise {len} (more {q = q} {qs = qs} t k a) =
      let i = t.inside in
      let e = end_inside (omega arith) a in
      let n : q ≤ reached (ahead len) (q + 1) qs = omega (arith, e.0) in
      rises.next q t.later n (places_rise a)

module _ (q : Terms) (sets : List ℕ) (t : Text) (h : t.cursor < length t.glyphs) where
  input_fitting : (values : List Asked) (places : List ℕ) → length values ≤ most_input → input_at q sets t values ≡ taken places
      → Fitting t (Matched (t.cursor ∷ places) (end_after q sets t places))
  unfolding input_on input_by
  input_fitting values places few e =
      let a = ((demand_2 _ _ _ _ values).accepted places).0 e in
      let n = as_many a in
      let i = end_inside (omega arith) a in
      record {
        few = omega arith;
        rises = rises.next {low = t.cursor} {end = end_after q sets t places} t.cursor (omega arith) (omega (arith, i.0)) (places_rise a);
        begins = omega (arith, i.0);
        within = i.1;
      }

  context_fitting : (c : Chain Asked) (places : List ℕ) → Fitting t (Matched (t.cursor ∷ places) (end_after q sets t places))
      → Fitting t (context_matched q sets t c places)
  context_fitting c places f = by (is_taken (ahead_at q sets t (end_after q sets t places) c.lookahead) && is_taken (back_at q sets t c.backtrack))
    where
      by : (b : Bool) → Fitting t (cond b (Matched (t.cursor ∷ places) (end_after q sets t places)) Unmatched)
      by true = f
      by false = tt

  after_fitting : (c : Chain Asked) → length c.input ≤ most_input → (o : Outcome) → input_at q sets t c.input ≡ o
      → Fitting t (after_input q sets t c o)
  after_fitting c few (taken places) e = context_fitting c places (input_fitting c.input places few e)
  after_fitting c few (lost extent) e = tt
  after_fitting c few unlike e = tt

  -- whatever its values ask
  pub chain_fitting : (c : Chain Asked) → length c.input ≤ most_input → Fitting t (chain_match q sets t c)
  unfolding chain_match
  chain_fitting c few = by (is_yes (c.first (get_or t.glyphs t.cursor blank)))
    where
      by : (b : Bool) → Fitting t (cond b (after_input q sets t c (input_at q sets t c.input)) Unmatched)
      by true = after_fitting c few (input_at q sets t c.input) refl
      by false = tt
