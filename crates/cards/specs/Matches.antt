-- Cards K1 to K6 of 01: input matching on rows of words, refusals and all. Each answer is the number of its reply and then the values: of a success
-- the end, the total, the number of positions and the positions; else the extent.
use Rattle.std.specs.Prelude.{false, List, [], ◌∷◌, ◌++◌, ℕ}
use Rattle.glyph.specs.Reply.{Reply}
use Rattle.verdict.specs.declared.Table.TheVariants.{Gsub}
use Rattle.verdict.specs.Verdict.{equal_to}
use Rattle.matching.specs.declared.Terms.{Terms}
use Rattle.matching.specs.Answers.{input_reply}
use Rattle.matching_calls.specs.Calls.{input_of}
use Rattle.cards.specs.Card.{Card}
use Rattle.cards.specs.Signs.{sign, letter}

abbrev mark : ℕ → List ℕ
mark id = sign id 0 8

abbrev ignorable : ℕ → List ℕ
ignorable id = sign id 1 0

-- default ignorable and ZWNJ
abbrev joiner : ℕ → List ℕ
joiner id = sign id 3 0

-- GSUB, settings off, mask 1
abbrev lookup : ℕ → Terms
lookup props = record { settings = record { table = Gsub; zwnj = false; zwj = false; syllables = false }; mask = 1; props = props }

abbrev spelled : Reply → List (List ℕ)
spelled r = (r.number ∷ []) ∷ r.values ∷ []

-- input matching over a row of n glyphs with the cursor at 0, no glyphs before and no mark sets
abbrev pub matched : ℕ → ℕ → List ℕ → List ℕ → List (List ℕ)
matched props n row values = spelled (input_reply (input_of [] 0 row n 0 (lookup props) [] equal_to values))

abbrev success : List ℕ → List (List ℕ)
success values = (0 ∷ []) ∷ values ∷ []

abbrev extent : ℕ → List (List ℕ)
extent n = (4 ∷ []) ∷ (n ∷ []) ∷ []

-- K1: ids 5, 7 values 7: positions 0, 1 end 2
abbrev pub k1 : Card
k1 = record { given = matched 0 2 (letter 5 ++ letter 7) (7 ∷ []); wanted = success (2 ∷ 2 ∷ 2 ∷ 0 ∷ 1 ∷ []) }

-- K2: ids 5, 9, 7, 9 a mark, flag 8, values 7: 0, 2 end 3
abbrev pub k2 : Card
k2 = record { given = matched 8 3 (letter 5 ++ mark 9 ++ letter 7) (7 ∷ []); wanted = success (3 ∷ 2 ∷ 2 ∷ 0 ∷ 2 ∷ []) }

-- K3: flag 0: extent 2
abbrev pub k3 : Card
k3 = record { given = matched 0 3 (letter 5 ++ mark 9 ++ letter 7) (7 ∷ []); wanted = extent 2 }

-- K4: id 5 alone: extent 1
abbrev pub k4 : Card
k4 = record { given = matched 0 1 (letter 5) (7 ∷ []); wanted = extent 1 }

-- K5: ids 5, 9, 7, 9 default ignorable: values 7 give 0, 2; values 9 give 0, 1
abbrev pub k5 : Card
k5 = record { given = matched 0 3 (letter 5 ++ ignorable 9 ++ letter 7) (7 ∷ []); wanted = success (3 ∷ 2 ∷ 2 ∷ 0 ∷ 2 ∷ []) }

abbrev pub k5_matched : Card
k5_matched = record { given = matched 0 3 (letter 5 ++ ignorable 9 ++ letter 7) (9 ∷ []); wanted = success (2 ∷ 2 ∷ 2 ∷ 0 ∷ 1 ∷ []) }

-- K6: 9 also ZWNJ, values 7: extent 2
abbrev pub k6 : Card
k6 = record { given = matched 0 3 (letter 5 ++ joiner 9 ++ letter 7) (7 ∷ []); wanted = extent 2 }
