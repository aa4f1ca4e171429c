-- What each kind of lookup does at the cursor (01, "Records over a text"), and the rules of a run. Of the definitions of a run this one alone goes by
-- the kinds: a further kind is a line of `deedBy`. A record's position is in the text, so a glyph is at the cursor.
use Rattle.std.specs.Prelude.{Bool, cond, List, [], ◌∷◌, map, ℕ, eqb, length, get_or}
use Rattle.glyph.specs.declared.Glyph.{Glyph}
use Rattle.glyph.specs.Glyph.{blank}
use Rattle.text.specs.Text.{Text, written, replaced_by, is_full}
use Rattle.verdict.specs.Verdict.{Asked, equal_to}
use Rattle.book.specs.Book.{Chain, Kind1, Kind2, Kind3, Found, Is, None}
use Rattle.run.specs.declared.Given.{Given}
use Rattle.run.specs.Repair.{Repairing, repaired}
use Rattle.run.specs.Run.{PastLimit, Made, Into, Halts, Match, Deed, Acts, Chains, Rules}
use Rattle.run.specs.Chain.{chain_by}

-- ---- kinds 1 and 2, which test only the cursor glyph's id

abbrev pub is_at : ℕ → Text → Bool
is_at id t = eqb (get_or t.glyphs t.cursor blank).id id

abbrev pub on_id : ℕ → (Text → Made) → Text → Made
on_id id act t = cond (is_at id t) (act t) (Into t)

module _ (write : ℕ → Glyph → Glyph) where
  -- kind 1: the glyph gets another id
  abbrev pub renamed_by : ℕ → Text → Made
  renamed_by to t = Into (replaced_by write (to ∷ []) t)

  -- kind 2: the glyph becomes one for each id; where the text would pass its limit nothing is written, and the run ends
  abbrev pub multiplied_by : List ℕ → Text → Made
  multiplied_by ids t = cond (is_full (length t.glyphs) (length ids)) (Halts PastLimit) (Into (replaced_by write ids t))

-- ---- chains

-- values as what they ask of a glyph: a test for the cursor glyph's value, and one for those of each part
abbrev pub asked_by : {X : Type 0} → (X → Asked) → (X → Asked) → (X → Asked) → (X → Asked) → Chain X → Chain Asked
asked_by first backtrack input lookahead c = record {
  first = first c.first;
  backtrack = map backtrack c.backtrack;
  input = map input c.input;
  lookahead = map lookahead c.lookahead;
  records = c.records;
}

-- kind 3: ids all through
abbrev pub ids_of : Chain ℕ → Chain Asked
ids_of c = asked_by equal_to equal_to equal_to equal_to c

-- ---- a lookup, over how a chain with its props matches, and what is written for an id in place of a glyph; one that isn't in the book does nothing

unfoldable pub deed_by : (ℕ → Chain Asked → Text → Match) → (ℕ → Glyph → Glyph) → Found → Deed
deed_by match write (Is (Kind1 props from to)) = Acts (on_id from (renamed_by write to))
deed_by match write (Is (Kind2 props from ids)) = Acts (on_id from (multiplied_by write ids))
deed_by match write (Is (Kind3 props chain)) = Chains (match props (ids_of chain)) chain.records
deed_by match write None = Acts (λ t. Into t)

-- a run over three parameters: how chains match, what is written, how a level is repaired after a lookup
abbrev pub rules_by : (ℕ → Chain Asked → Text → Match) → (ℕ → Glyph → Glyph) → (Found → Repairing) → Rules
rules_by match write repair = record { deed = deed_by match write; repair = repair }

-- those of 01: a written glyph keeps all but its id, and a level is repaired alike after every lookup
abbrev pub ruled : Given → List ℕ → Rules
ruled given sets = rules_by (chain_by given sets) written (λ found. repaired)
