-- A match's total is at most 16,320 (01, "What must change shape"): 64 glyphs at most, and a count is a byte. The original's byte overflows past 255.
use Rattle.std.specs.Prelude.{◌≡◌, ⊤, Result, Ok, Err, List, [], ◌∷◌, ℕ, zero, suc, ◌*◌, ◌/◌, ◌≤◌, length, get_or, take, drop}
use Rattle.std.proofs.Math.Path.{refl}
use Rattle.std.proofs.Common.{sym, ap, ◌∙◌, arith}
use Rattle.glyph.specs.declared.Glyph.{Glyph}
use Rattle.glyph.specs.Glyph.{words, glyph_of, glyphs, glyphs_of, blank}
use Rattle.verdict.specs.Verdict.{Asked}
use Rattle.matching.specs.declared.Terms.{Terms}
use Rattle.matching.specs.declared.Refusal.{Refusal}
use Rattle.matching.specs.declared.Success.{Success}
use Rattle.matching.specs.declared.NoMatch.{NoMatch}
use Rattle.matching.specs.Take.{Outcome, taken, lost, unlike}
use Rattle.matching.specs.Matchers.{input_on}
use Rattle.matching.specs.Answers.{ligated, total_of, input_told}
use Rattle.matching.specs.Demand2Laws.{demand_2}
use Rattle.matching.specs.Rising.{as_many}
use Rattle.matching_refuse.specs.Fit.{input_fit}
use Rattle.matching_calls.specs.Calls.{input_unless, input_of}
use Rattle.matching_calls.specs.Kept.{input_takes}
use Rattle.matching_calls.specs.Table.{input_fits}

-- both counts are bytes
pub record ByteCounts (g : Glyph) : Type 0 where
  pub whole : g.count ≤ 255
  pub part : g.ligated ≤ 255

-- any words are such a glyph
word_counted : (w : List ℕ) → ByteCounts (glyph_of w)
word_counted w = record { whole = omega arith; part = omega arith }

blank_counted : ByteCounts blank
unfolding blank
blank_counted = record { whole = omega arith; part = omega arith }

-- of a row's glyphs, and past its end
glyphs_counted : (n : ℕ) (w : List ℕ) (k : ℕ) → ByteCounts (get_or (glyphs n w) k blank)
unfolding glyphs
glyphs_counted zero w k = blank_counted
glyphs_counted (suc n) w zero = word_counted (take words w)
glyphs_counted (suc n) w (suc k) = glyphs_counted n (drop words w) k

taken_counted : (gs : List Glyph) (len k : ℕ) → ((k : ℕ) → ByteCounts (get_or gs k blank)) → ByteCounts (get_or (take len gs) k blank)
taken_counted [] zero k c = blank_counted
taken_counted [] (suc len) k c = blank_counted
taken_counted (g ∷ gs) zero k c = blank_counted
taken_counted (g ∷ gs) (suc len) zero c = c 0
taken_counted (g ∷ gs) (suc len) (suc k) c = taken_counted gs len k (λ i. c (suc i))

text_counted : (coming : List ℕ) (len k : ℕ) → ByteCounts (get_or (take len (glyphs_of coming)) k blank)
unfolding glyphs_of
text_counted coming len k = taken_counted (glyphs (length coming / words) coming) len k (glyphs_counted (length coming / words) coming)

ligated_most : (gs : List Glyph) → ((k : ℕ) → ByteCounts (get_or gs k blank)) → (qs : List ℕ) → ligated gs qs ≤ 255 * length qs
unfolding ligated
ligated_most gs c [] = omega arith
ligated_most gs c (q ∷ qs) = let a = (c q).part in let b = ligated_most gs c qs in omega arith

-- the total of a success, else 0
abbrev total_or : Result Success NoMatch → ℕ
total_or (Ok s) = s.total
total_or (Err why) = 0

module _ {X : Type 0} (done : List ℕ) (d : ℕ) (coming : List ℕ) (len idx : ℕ) (lookup : Terms) (sets : List ℕ) (test : X → Asked)
    (values : List X) where
  abbrev text : List Glyph
  text = take len (glyphs_of coming)

  most_by : (o : Outcome) (end total : ℕ) → length values ≤ 63 → input_on lookup sets test (take d (glyphs_of done)) text idx values ≡ o
      → (input_told text idx o).answer ≡ Ok (record { end = end; total = total }) → total ≤ 16320
  most_by (taken qs) end total few e m =
      let t : total_of text idx qs ≡ total = ap total_or m in
      let n =
      as_many (((demand_2 _ _ _ _ values).accepted qs).0
      (sym (input_takes lookup sets test (take d (glyphs_of done)) text idx values) ∙ e)) in
      let a = (text_counted coming len idx).whole in
      let b = ligated_most text (text_counted coming len) qs in
      omega arith
  most_by (lost extent) end total few e m = let z : ◌≡◌ {A = ℕ} 0 1 = cc in absurd (omega arith)
  most_by unlike end total few e m = let z : ◌≡◌ {A = ℕ} 0 1 = cc in absurd (omega arith)

  fit_by : (f : Result ⊤ Refusal) (end total : ℕ) → input_fit done d coming len idx sets (length values) ≡ f
      → (input_unless f (input_told text idx (input_on lookup sets test (take d (glyphs_of done)) text idx values))).answer
      ≡ Ok (record { end = end; total = total })
      → total ≤ 16320
  fit_by (Ok fits) end total e m =
      let few = ((input_fits done d coming len idx sets (length values)).0 e).few in
      most_by (input_on lookup sets test (take d (glyphs_of done)) text idx values) end total few refl m
  fit_by (Err why) end total e m = let z : ◌≡◌ {A = ℕ} 0 1 = cc in absurd (omega arith)

  -- of any call, whatever the words
  pub total_most : (end total : ℕ)
      → (input_of done d coming len idx lookup sets test values).answer ≡ Ok (record { end = end; total = total }) → total ≤ 16320
  unfolding input_of
  total_most end total m = fit_by (input_fit done d coming len idx sets (length values)) end total refl m
