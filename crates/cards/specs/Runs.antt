-- Cards K11 to K14 of 01: runs of one record over three glyphs that end the row. Each answer is its number, the text's ids, the positions, and d with
-- the number spent.
use Rattle.std.specs.Prelude.{false, List, [], ◌∷◌, ◌++◌, map, ℕ, ◌+◌, ◌-◌, ◌*◌, ⊤, Result, Ok, Err, length, replicate}
use Rattle.glyph.specs.declared.Glyph.{Glyph}
use Rattle.glyph.specs.Glyph.{words, limit}
use Rattle.matching.specs.declared.InputMatch.{InputMatch}
use Rattle.matching.specs.Answers.{slotted}
use Rattle.run.specs.Run.{Stage}
use Rattle.run.specs.declared.RunRefusal.{RunRefusal}
use Rattle.run.specs.Numbers.{ending_number, run_refusal_number}
use Rattle.run_calls.specs.Calls.{Handed, checked_all, run_says}
use Rattle.cards.specs.Card.{Card}
use Rattle.cards.specs.Signs.{letter}

abbrev empty : List ℕ
empty = replicate (words * limit) 0

-- where three glyphs that end the row begin
abbrev cursor : ℕ
cursor = limit - 3

abbrev three : List ℕ
three = replicate (words * cursor) 0 ++ (letter 1 ++ letter 2 ++ letter 3)

abbrev matched : InputMatch
matched = record { answer = Ok (record { end = limit; total = 3 }); count = 3; positions = slotted (cursor ∷ (cursor + 1) ∷ (cursor + 2) ∷ []) }

-- one lookup of kind 2, which turns 2 into these ids
abbrev turning : List ℕ → List ℕ
turning ids = 2 ∷ 0 ∷ 0 ∷ (2 + length ids) ∷ 2 ∷ length ids ∷ ids

abbrev shows : Result ⊤ RunRefusal → Stage → List (List ℕ)
shows (Err why) v = (run_refusal_number why ∷ []) ∷ []
shows (Ok ok) v =
    (ending_number v.run.tally.ending ∷ []) ∷ map (λ (g : Glyph). g.id) v.run.text.glyphs ∷ v.level.positions ∷
    (v.run.text.cursor ∷ v.run.tally.spent ∷ []) ∷ []

-- record (1, 0) over ids 1, 2, 3, matched whole
abbrev handed : List ℕ → Handed
handed ids = record {
  done = empty;
  coming = three;
  place = record { d = 0; idx = cursor };
  sets = [];
  book = turning ids;
  records = 1 ∷ 0 ∷ [];
  match = matched;
  given = record { zwnj = false; zwj = false; syllables = false; mask = 1 };
}

abbrev ran : List ℕ → ℕ → ℕ → List (List ℕ)
ran ids allowance depth = shows (checked_all (handed ids) allowance depth) (run_says (handed ids) allowance depth)

abbrev pub k11 : Card
k11 = record { given = ran (2 ∷ 2 ∷ []) 1 1; wanted = (0 ∷ []) ∷ (1 ∷ 2 ∷ 2 ∷ 3 ∷ []) ∷ (0 ∷ 1 ∷ 2 ∷ 3 ∷ []) ∷ (4 ∷ 1 ∷ []) ∷ [] }

abbrev pub k12 : Card
k12 = record { given = ran (2 ∷ 2 ∷ []) 0 1; wanted = (8 ∷ []) ∷ (1 ∷ 2 ∷ 3 ∷ []) ∷ (0 ∷ 1 ∷ 2 ∷ []) ∷ (3 ∷ 0 ∷ []) ∷ [] }

abbrev pub k13 : Card
k13 = record { given = ran [] 1 1; wanted = (0 ∷ []) ∷ (1 ∷ 3 ∷ []) ∷ (0 ∷ 1 ∷ []) ∷ (2 ∷ 1 ∷ []) ∷ [] }

-- K14: depth 0 is Deep, and stays at the record's position; allowance 0 too is Short
abbrev pub k14 : Card
k14 = record { given = ran (2 ∷ 2 ∷ []) 1 0; wanted = (9 ∷ []) ∷ (1 ∷ 2 ∷ 3 ∷ []) ∷ (0 ∷ 1 ∷ 2 ∷ []) ∷ (1 ∷ 0 ∷ []) ∷ [] }

abbrev pub k14_too : Card
k14_too = record { given = ran (2 ∷ 2 ∷ []) 0 0; wanted = (8 ∷ []) ∷ (1 ∷ 2 ∷ 3 ∷ []) ∷ (0 ∷ 1 ∷ 2 ∷ []) ∷ (3 ∷ 0 ∷ []) ∷ [] }
