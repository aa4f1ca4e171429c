-- A chain matched in the coming row is matched in the text: places of the row from glyph idx on are those of the text from the cursor on.
-- Both are what matching finds in the glyphs from the cursor on, raised by idx and by the cursor.
use Rattle.std.specs.Prelude.{◌≡◌, refl, Bool, true, false, cond, ◌&&◌, List, [], ◌∷◌, map, ℕ, suc, ◌+◌, ◌-◌, ◌≤◌, ◌<◌, get_or, take, drop}
use Rattle.std.proofs.Common.{sym, ap, ap₂, ◌∙◌, arith, drop-drop}
use Rattle.std.proofs.Math.ListN.{length, length-drop, length-map}
use Rattle.std.proofs.Math.Seq.{take-append_seam}
use Rattle.glyph.specs.declared.Glyph.{Glyph}
use Rattle.glyph.specs.Glyph.{limit, glyphs_of, blank}
use Rattle.text.specs.declared.Place.{Place}
use Rattle.text.specs.Text.{Text, text_of, Fits}
use Rattle.text.specs.Changes.{before_cursor, from_cursor, at_cursor}
use Rattle.text.specs.Laws.{sizes}
use Rattle.verdict.specs.Verdict.{Asked}
use Rattle.matching.specs.declared.Terms.{Terms}
use Rattle.matching.specs.declared.InputMatch.{InputMatch}
use Rattle.matching.specs.Take.{Way, ahead, Outcome, taken, lost, unlike, reached}
use Rattle.matching.specs.Matchers.{input_on, input_by, ahead_on, back_on}
use Rattle.matching.specs.Answers.{slotted, matched_at, input_told, context_told, match_end}
use Rattle.std.specs.Prelude.{is_ok}
use Rattle.matching.specs.Demand2Laws.{demand_2}
use Rattle.matching.specs.Rising.{as_many, end_inside}
use Rattle.matching.specs.Shift.{raised_all, raised_by, reached_shift, input_shift, ahead_shift}
use Rattle.run.specs.Run.{Matched, Unmatched, from_done, moved_level}
use Rattle.book.specs.Book.{Chain}
use Rattle.run.specs.Chain.{is_taken, itself, input_at, ahead_at, back_at, end_after, after_input}

-- ---- answers, by their cases

pub found_taken : (way : Way) (p : ℕ) (o : Outcome) → is_ok (context_told way p o) ≡ is_taken o
found_taken way p (taken qs) = refl
found_taken way p (lost extent) = refl
found_taken way p unlike = refl

taken_raised : (n : ℕ) (o : Outcome) → is_taken (raised_by n o) ≡ is_taken o
taken_raised n (taken qs) = refl
taken_raised n (lost extent) = refl
taken_raised n unlike = refl

true_false : true ≡ false → ⊥
true_false e = let z : ◌≡◌ {A = ℕ} 0 1 = cc in omega arith

-- ---- places of the row, from the text's first glyph on

moved_all : (idx d : ℕ) (qs : List ℕ) → map (from_done idx d) (raised_all idx qs) ≡ raised_all d qs
moved_all idx d [] = refl
moved_all idx d (q ∷ qs) = let e : d + (idx + q - idx) ≡ d + q = omega arith in ap₂ (λ (x : ℕ) (xs : List ℕ). x ∷ xs) e (moved_all idx d qs)

module _ (done coming : List ℕ) (p : Place) (f : Fits done coming p) (q : Terms) (sets : List ℕ) where
  abbrev t : Text
  t = text_of done coming p

  abbrev C : List Glyph
  C = glyphs_of coming

  abbrev D : List Glyph
  D = take p.d (glyphs_of done)

  abbrev part : List Glyph
  part = drop p.idx (glyphs_of coming)

  -- matching in the glyphs from the cursor on
  abbrev from₀ : List Asked → Outcome
  from₀ values = input_on q sets itself D part 0 values

  row_input : (values : List Asked) → input_on q sets itself D C p.idx values ≡ raised_by p.idx (from₀ values)
  row_input values = let z = sizes done coming p f in input_shift C p.idx q sets itself (omega arith) D values

  text_input : (values : List Asked) → input_at q sets (text_of done coming p) values ≡ raised_by p.d (from₀ values)
  text_input values =
      let z = sizes done coming p f in
      input_shift t.glyphs p.d q sets itself (omega arith) (take p.d t.glyphs) values
      ∙ ap₂ (λ (a b : List Glyph). raised_by p.d (input_on q sets itself a b 0 values)) (before_cursor f) (from_cursor f)

  -- the end, from the cursor on
  abbrev R : List ℕ → ℕ
  R qs = reached (ahead (length part)) 1 qs

  row_end : (qs : List ℕ) → reached (ahead (length C)) (p.idx + 1) (raised_all p.idx qs) ≡ p.idx + R qs
  row_end qs =
      let z = sizes done coming p f in
      let e : length C ≡ p.idx + length part = omega (arith, length-drop p.idx C) in
      ap (λ (n : ℕ). reached (ahead n) (p.idx + 1) (raised_all p.idx qs)) e ∙ reached_shift p.idx (length part) 1 qs

  text_end : (qs : List ℕ) → end_after q sets (text_of done coming p) (raised_all p.d qs) ≡ p.d + R qs
  text_end qs =
      let z = sizes done coming p f in
      let e : length t.glyphs ≡ p.d + length part = omega (arith, length-drop p.idx C) in
      ap (λ (n : ℕ). reached (ahead n) (p.d + 1) (raised_all p.d qs)) e ∙ reached_shift p.d (length part) 1 qs

  -- ---- a match of the input in the row

  pub record Shown (values : List Asked) (m : InputMatch) : Type 0 where
    pub qs : List ℕ
    pub is : from₀ values ≡ taken qs
    pub end : match_end m.answer ≡ p.idx + R qs
    pub inside : p.idx + R qs ≤ length C
    pub begins : 1 ≤ R qs
    pub few : m.count ≡ suc (length values)
    pub all : m.positions ≡ slotted (p.idx ∷ raised_all p.idx qs)
    pub many : m.count ≡ length (p.idx ∷ raised_all p.idx qs)

  module _ (here : p.idx < limit) (values : List Asked) where
    taken_shown : (qs : List ℕ) → from₀ values ≡ taken qs → Shown values (matched_at C p.idx (raised_all p.idx qs))
    unfolding input_on input_by
    taken_shown qs e =
        let z = sizes done coming p f in
        let l : length part ≡ limit - p.idx = omega (arith, length-drop p.idx C) in
        let a = ((demand_2 _ _ _ _ values).accepted qs).0 e in
        let i = end_inside (omega arith) a in
        record {
          qs = qs;
          is = e;
          end = row_end qs;
          inside = omega (arith, i.1);
          begins = i.0;
          few = omega (arith, as_many a, length-map qs (λ (x : ℕ). p.idx + x));
          all = refl;
          many = refl;
        }

    shown_by : (o : Outcome) → from₀ values ≡ o → is_ok (input_told C p.idx (raised_by p.idx o)).answer ≡ true
        → Shown values (input_told C p.idx (raised_by p.idx o))
    shown_by (taken qs) e h = taken_shown qs e
    shown_by (lost extent) e h = absurd (true_false (sym h))
    shown_by unlike e h = absurd (true_false (sym h))

    pub input_shown : (m : InputMatch) → m ≡ input_told C p.idx (input_on q sets itself D C p.idx values) → is_ok m.answer ≡ true
        → Shown values m
    input_shown m e h =
        let r : m ≡ input_told C p.idx (raised_by p.idx (from₀ values)) = e ∙ ap (input_told C p.idx) (row_input values) in
        rw r (shown_by (from₀ values) refl (rw r at h))

  -- what lost in the row doesn't match in the text
  module _ (k : Chain Asked) where
    lost_by : (o : Outcome) → is_ok (input_told C p.idx (raised_by p.idx o)).answer ≡ false
        → Unmatched ≡ after_input q sets (text_of done coming p) k (raised_by p.d o)
    lost_by (taken qs) h = absurd (true_false h)
    lost_by (lost extent) h = refl
    lost_by unlike h = refl

    pub input_lost : (m : InputMatch) → m ≡ input_told C p.idx (input_on q sets itself D C p.idx k.input) → is_ok m.answer ≡ false
        → Unmatched ≡ after_input q sets (text_of done coming p) k (input_at q sets (text_of done coming p) k.input)
    input_lost m e h =
        let r : m ≡ input_told C p.idx (raised_by p.idx (from₀ k.input)) = e ∙ ap (input_told C p.idx) (row_input k.input) in
        rw (text_input k.input) (lost_by (from₀ k.input) (rw r at h))

  -- ---- lookahead and backtrack after it

  module _ (qs : List ℕ) (inside : p.idx + reached (ahead (length (drop p.idx (glyphs_of coming)))) 1 qs ≤ length (glyphs_of coming)) (g : Glyph)
      (is : g ≡ get_or (glyphs_of coming) p.idx blank) where
    syllable_is : (get_or t.glyphs p.d blank).syllable ≡ g.syllable
    syllable_is = ap (λ (x : Glyph). x.syllable) (at_cursor f ∙ sym is)

    ahead_is_lem : (onward : List Asked)
        → is_taken (ahead_at q sets (text_of done coming p) (end_after q sets (text_of done coming p) (raised_all p.d qs)) onward)
        ≡ is_taken (ahead_on q sets itself C (p.idx + R qs) g.syllable onward)
    ahead_is_lem onward =
        let z = sizes done coming p f in
        let n : ℕ = p.d + R qs in
        let tail : drop (p.d + R qs) t.glyphs ≡ drop (p.idx + R qs) C =
        sym (drop-drop (R qs) p.d t.glyphs) ∙ ap (drop (R qs)) (from_cursor f) ∙ drop-drop (R qs) p.idx C in
        ap₂ (λ (start s : ℕ). is_taken (ahead_on q sets itself t.glyphs start s onward)) (text_end qs) syllable_is
        ∙ ap is_taken (ahead_shift t.glyphs (p.d + R qs) q sets itself (omega arith) g.syllable onward)
        ∙ taken_raised (p.d + R qs) (ahead_on q sets itself (drop (p.d + R qs) t.glyphs) 0 g.syllable onward)
        ∙ ap (λ (l : List Glyph). is_taken (ahead_on q sets itself l 0 g.syllable onward)) tail
        ∙ sym (taken_raised (p.idx + R qs) (ahead_on q sets itself (drop (p.idx + R qs) C) 0 g.syllable onward))
        ∙ sym (ap is_taken (ahead_shift C (p.idx + R qs) q sets itself inside g.syllable onward))

    back_is_lem : (back : List Asked) → is_taken (back_at q sets (text_of done coming p) back) ≡ is_taken (back_on q sets itself D g.syllable back)
    back_is_lem back = ap₂ (λ (row : List Glyph) (s : ℕ). is_taken (back_on q sets itself row s back)) (before_cursor f) syllable_is

    -- the match in the text, by what was asked of the rows
    pub context_is : (k : Chain Asked) → input_on q sets itself D part 0 k.input ≡ taken qs
        → after_input q sets (text_of done coming p) k (input_at q sets (text_of done coming p) k.input)
        ≡ cond (is_taken (ahead_on q sets itself C (p.idx + R qs) g.syllable k.lookahead)
        && is_taken (back_on q sets itself D g.syllable k.backtrack))
        (Matched (p.d ∷ raised_all p.d qs) (p.d + R qs)) Unmatched
    context_is k e =
        let u : Text = text_of done coming p in
        ap (after_input q sets (text_of done coming p) k) (text_input k.input ∙ ap (raised_by p.d) e)
        ∙ ap₂ (λ (a b : Bool). cond (a && b) (Matched (p.d ∷ raised_all p.d qs) (end_after q sets u (raised_all p.d qs))) Unmatched)
        (ahead_is_lem k.lookahead) (back_is_lem k.backtrack)
        ∙ ap (λ (n : ℕ). cond (is_taken (ahead_on q sets itself C (p.idx + R qs) g.syllable k.lookahead)
        && is_taken (back_on q sets itself D g.syllable k.backtrack))
        (Matched (p.d ∷ raised_all p.d qs) n) Unmatched) (text_end qs)

  -- the level that the match opens
  pub level_is : (values : List Asked) (m : InputMatch) (s : Shown values m)
      → moved_level p.idx p.d (take m.count m.positions) (match_end m.answer)
      ≡ record { live = true; positions = p.d ∷ raised_all p.d s.qs; end = p.d + R s.qs }
  level_is values m s =
      let l : List ℕ = p.idx ∷ raised_all p.idx s.qs in
      let a : take m.count m.positions ≡ p.idx ∷ raised_all p.idx s.qs =
      ap₂ (λ (n : ℕ) (x : List ℕ). take n x) s.many s.all ∙ take-append_seam l _ in
      let b : map (from_done p.idx p.d) (take m.count m.positions) ≡ p.d ∷ raised_all p.d s.qs =
      ap (map (from_done p.idx p.d)) a
      ∙ (let e : p.d + (p.idx - p.idx) ≡ p.d = omega arith in ap₂ (λ (x : ℕ) (xs : List ℕ). x ∷ xs) e (moved_all p.idx p.d s.qs)) in
      let c : p.d + (match_end m.answer - p.idx) ≡ p.d + R s.qs = let u = s.end in omega arith in
      λ j. record { live = true; positions = b j; end = c j }
