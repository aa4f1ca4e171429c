-- How a chain matches at the cursor of a text (01, "Records over a text": a chain tests first id, input, lookahead, backtrack; port order 5).
-- A chain's values are what they ask of a glyph; how a lookup's own values come to that is said in Deeds.antt.
-- The matchers are asked about the whole text, so that positions and end count from its first glyph; what is before the cursor is searched for a
-- base, and walked back over. A chain is tried with its own props, and the run's switches, mask and mark sets.
use Rattle.std.specs.Prelude.{Bool, true, false, cond, ◌&&◌, List, ◌∷◌, ℕ, ◌+◌, length, get_or, take}
use Rattle.glyph.specs.Glyph.{blank}
use Rattle.text.specs.Text.{Text}
use Rattle.verdict.specs.declared.Table.{Table}
use Rattle.verdict.specs.Verdict.{Asked, is_yes}
use Rattle.matching.specs.declared.Terms.{Terms}
use Rattle.matching.specs.Take.{ahead, Outcome, taken, lost, unlike, reached}
use Rattle.matching.specs.Matchers.{input_on, ahead_on, back_on}
use Rattle.book.specs.Book.{Chain}
use Rattle.run.specs.declared.Given.{Given}
use Rattle.run.specs.Run.{Match, Matched, Unmatched}

-- what a chain with these props asks of the glyphs
abbrev pub asks : Given → ℕ → Terms
asks given props = record {
  settings = record { table = Table.Gsub; zwnj = given.zwnj; zwj = given.zwj; syllables = given.syllables };
  mask = given.mask;
  props = props;
}

abbrev pub is_taken : Outcome → Bool
is_taken (taken places) = true
is_taken (lost extent) = false
is_taken unlike = false

-- a value is its own test
abbrev pub itself : Asked → Asked
itself asked = asked

module _ (q : Terms) (sets : List ℕ) (t : Text) where
  abbrev pub starting_syllable : ℕ
  starting_syllable = (get_or t.glyphs t.cursor blank).syllable

  -- the last of the places and one more
  abbrev pub end_after : List ℕ → ℕ
  end_after places = reached (ahead (length t.glyphs)) (t.cursor + 1) places

  abbrev pub input_at : List Asked → Outcome
  input_at values = input_on q sets itself (take t.cursor t.glyphs) t.glyphs t.cursor values

  -- from a start on
  abbrev pub ahead_at : ℕ → List Asked → Outcome
  ahead_at start values = ahead_on q sets itself t.glyphs start starting_syllable values

  abbrev pub back_at : List Asked → Outcome
  back_at values = back_on q sets itself (take t.cursor t.glyphs) starting_syllable values

  -- lookahead starts at the input's end
  abbrev pub context_matched : Chain Asked → List ℕ → Match
  context_matched c places =
      cond (is_taken (ahead_at (end_after places) c.lookahead) && is_taken (back_at c.backtrack))
      (Matched (t.cursor ∷ places) (end_after places)) Unmatched

  abbrev pub after_input : Chain Asked → Outcome → Match
  after_input c (taken places) = context_matched c places
  after_input c (lost extent) = Unmatched
  after_input c unlike = Unmatched

  -- the cursor glyph, then input, lookahead and backtrack
  unfoldable pub chain_match : Chain Asked → Match
  chain_match c = cond (is_yes (c.first (get_or t.glyphs t.cursor blank))) (after_input c (input_at c.input)) Unmatched

abbrev pub chain_by : Given → List ℕ → ℕ → Chain Asked → Text → Match
chain_by given sets props c t = chain_match (asks given props) sets t c
