-- A chain's aim by the tests that the code makes, in 01's order: first id, input, lookahead, backtrack.
use Rattle.std.specs.Prelude.{◌≡◌, Bool, true, false, cond, ◌&&◌, ℕ, ◌+◌, ◌-◌, ◌≤◌, length, get_or, take, drop}
use Rattle.std.specs.Prelude.{Option, Some, None, Result, is_ok}
use Rattle.std.proofs.Math.Path.{refl}
use Rattle.std.proofs.Common.{sym, ap, ◌∙◌, arith, length-append}
use mathlib.Core.List.{List, [], ◌∷◌, map}
use Rattle.std.proofs.lemmas.List.{length-replicate}
use Rattle.glyph.specs.declared.Glyph.{Glyph}
use Rattle.glyph.specs.Glyph.{limit, glyphs_of, blank}
use Rattle.text.specs.declared.Place.{Place}
use Rattle.text.specs.Text.{Text, text_of, Fits}
use Rattle.text.specs.Changes.{at_cursor}
use Rattle.text.specs.Laws.{sizes}
use Rattle.verdict.specs.Verdict.{Asked, is_yes, value_by}
use Rattle.matching.specs.declared.Terms.{Terms}
use Rattle.matching.specs.declared.InputMatch.{InputMatch}
use Rattle.matching.specs.declared.NoContext.{NoContext}
use Rattle.matching.specs.Take.{slots, ahead, behind, takes, reached}
use Rattle.matching.specs.Shift.{raised_all}
use Rattle.matching.specs.Matchers.{input_on, ahead_on, back_on}
use Rattle.matching.specs.Kinds.{input-map, ahead-map, back_map}
use Rattle.matching.specs.Answers.{slotted, input_told, context_told, match_end}
use Rattle.book.specs.declared.Part.{Part}
use Rattle.book.specs.declared.ChainParts.{ChainParts}
use Rattle.book.specs.declared.Entry.{Entry}
use Rattle.book.specs.Book.{Chain}
use Rattle.book.specs.Places.{widened}
use Rattle.book.specs.Widened.{widened_values}
use Rattle.run.specs.declared.Given.{Given}
use Rattle.run.specs.Repair.{Level}
use Rattle.run.specs.Run.{Matched, Unmatched, moved_level}
use Rattle.run.specs.Chain.{asks, is_taken, itself, input_at, after_input, chain_match}
use Rattle.run_positions.specs.declared.Slots.{Slots}
use Rattle.run_positions.specs.Slots.{shown}
use Rattle.run_chain_match.specs.declared.Aim.{Aim}
use Rattle.run_chain_match.specs.Aim.{aim_at, by_id, handed_chain, aimed_at}
use Rattle.run_chain_match.specs.Shifts.{found_taken, Shown, input_lost, context_is, level_is}

-- a matcher is handed the first slots of what was widened, `wide[..n]`
pub values_are : (wide values : List ℕ) → wide ≡ widened values → take (length values) wide ≡ values
values_are wide values e = ap (take (length values)) e ∙ widened_values values

-- what the rows answer for values by a test, as for what they ask
module _ (q : Terms) (sets : List ℕ) (test : ℕ → Asked) (C : List Glyph) (values wide : List ℕ) (e : wide ≡ widened values) where
  pub input_told_lem : (before : List Glyph) (idx : ℕ) (m : InputMatch) → m ≡ input_told C idx
      (input_on q sets test before C idx (take (length values) wide))
      → m ≡ input_told C idx (input_on q sets itself before C idx (map test values))
  input_told_lem before idx m h =
      h ∙ ap (λ (v : List ℕ). input_told C idx (input_on q sets test before C idx v)) (values_are wide values e)
      ∙ ap (input_told C idx) (input-map test q sets itself before C idx values)

  pub ahead_told : (start syllable : ℕ) (m : Result ℕ NoContext) (b : Bool)
      → m ≡ context_told (ahead (length C)) start (ahead_on q sets test C start syllable (take (length values) wide))
      → b ≡ is_ok m → b ≡ is_taken (ahead_on q sets itself C start syllable (map test values))
  ahead_told start syllable m b h k =
      k ∙ ap is_ok h ∙ found_taken (ahead (length C)) start (ahead_on q sets test C start syllable (take (length values) wide))
      ∙ ap (λ (v : List ℕ). is_taken (ahead_on q sets test C start syllable v)) (values_are wide values e)
      ∙ ap is_taken (ahead-map test q sets itself C start syllable values)

  pub back_told : (syllable : ℕ) (m : Result ℕ NoContext) (b : Bool)
      → m ≡ context_told behind (length C) (back_on q sets test C syllable (take (length values) wide))
      → b ≡ is_ok m → b ≡ is_taken (back_on q sets itself C syllable (map test values))
  back_told syllable m b h k =
      k ∙ ap is_ok h ∙ found_taken behind (length C) (back_on q sets test C syllable (take (length values) wide))
      ∙ ap (λ (v : List ℕ). is_taken (back_on q sets test C syllable v)) (values_are wide values e)
      ∙ ap is_taken (back_map test q sets itself C syllable values)

-- no values are always there
module _ (q : Terms) (sets : List ℕ) (test : ℕ → Asked) (C : List Glyph) where
  pub no_ahead : (start syllable : ℕ) (values : List ℕ) → length values ≡ 0 → true
      ≡ is_taken (ahead_on q sets itself C start syllable (map test values))
  unfolding ahead_on takes
  no_ahead start syllable [] e = refl
  no_ahead start syllable (x ∷ xs) e = absurd (omega arith)

  pub no_back : (syllable : ℕ) (values : List ℕ) → length values ≡ 0 → true ≡ is_taken (back_on q sets itself C syllable (map test values))
  unfolding back_on takes
  no_back syllable [] e = refl
  no_back syllable (x ∷ xs) e = absurd (omega arith)

module _ (done coming : List ℕ) (p : Place) (f : Fits done coming p) (q : Terms) (sets : List ℕ) (k : Chain Asked) (records : Part)
    (g : Glyph) (is : g ≡ get_or (glyphs_of coming) p.idx blank) where
  abbrev pub told : Option Aim
  told = aim_at records (chain_match q sets (text_of done coming p) k)

  first_is : is_yes (k.first (get_or (text_of done coming p).glyphs p.d blank)) ≡ is_yes (k.first g)
  first_is = ap (λ (x : Glyph). is_yes (k.first x)) (at_cursor f ∙ sym is)

  pub aim_other : is_yes (k.first g) ≡ false → None ≡ told
  unfolding chain_match
  aim_other n = rw (first_is, n)

  module _ (same : is_yes (k.first g) ≡ true) (m : InputMatch)
      (m_is : m ≡ input_told (glyphs_of coming) p.idx
      (input_on q sets itself (take p.d (glyphs_of done)) (glyphs_of coming) p.idx k.input)) where
    matched_is : chain_match q sets (text_of done coming p) k ≡ after_input q sets (text_of done coming p) k
        (input_at q sets (text_of done coming p) k.input)
    unfolding chain_match
    matched_is = rw (first_is, same)

    pub aim_lost : is_ok m.answer ≡ false → None ≡ told
    aim_lost h = ap (aim_at records) (input_lost done coming p f q sets k m m_is h ∙ sym matched_is)

    module _ (s : Shown done coming p f q sets k.input m) where
      -- what the rows answer, where matching ended in the row
      abbrev pub ahead_is : Bool
      ahead_is = is_taken (ahead_on q sets itself (glyphs_of coming) (match_end m.answer) g.syllable k.lookahead)

      abbrev pub back_is : Bool
      back_is = is_taken (back_on q sets itself (take p.d (glyphs_of done)) g.syllable k.backtrack)

      -- the level that the match opens
      abbrev pub opens : Level
      opens = moved_level p.idx p.d (take m.count m.positions) (match_end m.answer)

      by_context : told ≡ aim_at records (cond (ahead_is && back_is) (Matched opens.positions opens.end) Unmatched)
      by_context =
          let l = level_is done coming p f q sets k.input m s in
          let e : ℕ = p.d + reached (ahead (length (drop p.idx (glyphs_of coming)))) 1 s.qs in
          ap (aim_at records)
          (matched_is
          ∙ context_is done coming p f q sets s.qs s.inside g is k s.is
          ∙ ap (λ (n : ℕ). cond (is_taken (ahead_on q sets itself (glyphs_of coming) n g.syllable k.lookahead) && back_is)
          (Matched (p.d ∷ raised_all p.d s.qs) e) Unmatched) (sym s.end)
          ∙ ap (λ (lv : Level). cond (ahead_is && back_is) (Matched lv.positions lv.end) Unmatched) (sym l))

      pub aim_behind : ahead_is ≡ false → None ≡ told
      aim_behind h = sym (by_context ∙ rw h)

      pub aim_ahead : ahead_is ≡ true → back_is ≡ false → None ≡ told
      aim_ahead h n = sym (by_context ∙ rw (h, n))

      pub aim_hit : ahead_is ≡ true → back_is ≡ true → (lv : Slots) → lv ≡ shown opens
          → ◌≡◌ {A = Option Aim} (Some (record { level = lv; records = records })) told
      aim_hit h n lv e = sym (by_context ∙ rw (h, n) (λ j. Some (record { level = sym e j; records = records })))

      -- what opening a level asks
      pub open_asks : length k.input ≤ 63
          → (length m.positions ≡ 64) × (m.count ≤ 64) × (p.idx ≤ match_end m.answer) × (match_end m.answer ≤ limit) × (p.d ≤ p.idx)
      open_asks few =
          let z = sizes done coming p f in
          let e = s.end in
          let i = s.inside in
          let c = s.few in
          let b = s.begins in
          let n = s.many in
          (ap length s.all ∙ full (p.idx ∷ raised_all p.idx s.qs) (omega arith), omega arith, omega arith, omega arith, z.room)
        where
          full : (l : List ℕ) → length l ≤ 64 → length (slotted l) ≡ 64
          full l h = let r = length-replicate {A = ℕ} (slots - length l) 0 in simp length-append (omega arith)

-- the chain of an entry: an equal id is asked by the test of that name, whatever words are lent beside it
pub aim_chain : (given : Given) (sets ws : List ℕ) (t : Text) (props : ℕ) (c : ChainParts) (q : Terms) → q ≡ asks given props
    → aim_at c.records (chain_match q sets t
    (handed_chain by_id ws c))
    ≡ aimed_at given sets ws (Some (Entry.Chain props c)) t
unfolding chain_match value_by
aim_chain given sets ws t props c q e =
    ap (λ (x : Terms). aim_at c.records (chain_match x sets t (handed_chain by_id ws c))) e
