-- Examples of our own of runs: repair at its edges, and what an ending below leaves to the levels above (01, "Records over a text"). What is
-- wanted was worked out by hand from that section and A's `apply_lookup`. They run on texts, which compute quicker than rows; refusals 11 and 7
-- are included.
use Rattle.std.specs.Prelude.{false, List, [], ◌∷◌, ◌++◌, map, ℕ, ◌-◌, ⊤, Result, Ok, Err, length, replicate}
use Rattle.glyph.specs.declared.Glyph.{Glyph}
use Rattle.glyph.specs.Glyph.{limit}
use Rattle.glyph.specs.Signs.{glyph}
use Rattle.matching.specs.declared.InputMatch.{InputMatch}
use Rattle.matching.specs.Answers.{slotted}
use Rattle.book.specs.Book.{Record, Lookup, Kind1, Kind2, Kind3, lookups_of}
use Rattle.book.specs.Encode.{encode_all}
use Rattle.run.specs.declared.Given.{Given}
use Rattle.run.specs.Numbers.{ending_number, run_refusal_number}
use Rattle.run.specs.Run.{Stage, run_on}
use Rattle.run.specs.Deeds.{ruled}
use Rattle.run.specs.declared.RunRefusal.{RunRefusal}
use Rattle.run_refuse.specs.Refuse.{checked_match}
use Rattle.run_calls.specs.Calls.{then, checked_book}
use Rattle.cards.specs.Card.{Card}

-- ---- what is handed in: a text with the cursor at its first glyph, a match that counts from there, records, a book, allowance and depth

record Question : Type 0 where
  text : List Glyph
  positions : List ℕ
  end : ℕ
  records : List Record
  book : List Lookup
  allowance : ℕ
  depth : ℕ

-- ---- what is wanted: the ending's number, the lookups tried, the text's ids, the cursor, the count of the positions and the positions

record Left : Type 0 where
  ending : ℕ
  spent : ℕ
  ids : List ℕ
  cursor : ℕ
  count : ℕ
  positions : List ℕ

abbrev leaves : Left → List (List ℕ)
leaves l = (l.ending ∷ []) ∷ (l.spent ∷ []) ∷ l.ids ∷ (l.cursor ∷ []) ∷ (l.count ∷ []) ∷ l.positions ∷ []

-- ---- what the definitions give

abbrev left_by : Stage → Left
left_by v = record {
  ending = ending_number v.run.tally.ending;
  spent = v.run.tally.spent;
  ids = map (λ (g : Glyph). g.id) v.run.text.glyphs;
  cursor = v.run.text.cursor;
  count = length v.level.positions;
  positions = v.level.positions;
}

-- mask 1
abbrev settings_off : Given
settings_off = record { zwnj = false; zwj = false; syllables = false; mask = 1 }

abbrev matched : Question → InputMatch
matched q = record {
  answer = Ok (record { end = q.end; total = length q.positions });
  count = length q.positions;
  positions = slotted q.positions;
}

abbrev shows : Result ⊤ RunRefusal → Stage → List (List ℕ)
shows (Err why) v = (run_refusal_number why ∷ []) ∷ []
shows (Ok ok) v = leaves (left_by v)

abbrev ran : Question → List (List ℕ)
ran q =
    let book = encode_all q.book in
    let run = run_on (ruled settings_off []) (lookups_of book) q.depth q.records q.positions q.end q.allowance in
    shows (then (checked_book book) (checked_match 0 (matched q))) (run (record { glyphs = q.text; cursor = 0 }))

-- ---- glyphs, records and lookups

abbrev letters : List ℕ → List Glyph
letters ids = map (λ id. glyph id 0 0 0 0 1) ids

abbrev mark : ℕ → Glyph
mark id = glyph id 0 8 0 0 1

-- at this one of the positions, this lookup
abbrev at : ℕ → ℕ → Record
at seq lookup = record { seq = seq; lookup = lookup }

abbrev renames : ℕ → ℕ → Lookup
renames from to = Kind1 0 from to

abbrev turns : ℕ → List ℕ → Lookup
turns from ids = Kind2 0 from ids

abbrev chain : ℕ → List ℕ → List Record → Lookup
chain first input records = Kind3 0 (record { first = first; backtrack = []; input = input; lookahead = []; records = records })

-- ---- a loss

-- a chain at position 1 deletes the two glyphs after it, and the level's end was 2: the end is raised from 0 to the record's own position
abbrev pub end_raised : Card
end_raised = record {
  given = ran (record {
    text = letters (1 ∷ 2 ∷ 3 ∷ 4 ∷ 5 ∷ []);
    positions = 0 ∷ 1 ∷ [];
    end = 2;
    records = at 1 0 ∷ [];
    book = chain 2 (3 ∷ 4 ∷ []) (at 1 1 ∷ at 1 2 ∷ []) ∷ turns 3 [] ∷ turns 4 [] ∷ [];
    allowance = 9;
    depth = 9;
  });
  wanted = leaves (record { ending = 0; spent = 3; ids = 1 ∷ 2 ∷ 5 ∷ []; cursor = 1; count = 2; positions = 0 ∷ 1 ∷ [] });
}

-- a chain at position 1 deletes two glyphs, and one position follows: that one is dropped, and no other
abbrev pub loss_held_back : Card
loss_held_back = record {
  given = ran (record {
    text = letters (1 ∷ 2 ∷ []) ++ (mark 9 ∷ mark 9 ∷ letters (3 ∷ []));
    positions = 0 ∷ 1 ∷ 4 ∷ [];
    end = 5;
    records = at 1 0 ∷ [];
    book = chain 2 (9 ∷ 9 ∷ []) (at 1 1 ∷ at 1 1 ∷ []) ∷ turns 9 [] ∷ [];
    allowance = 9;
    depth = 9;
  });
  wanted = leaves (record { ending = 0; spent = 3; ids = 1 ∷ 2 ∷ 3 ∷ []; cursor = 3; count = 2; positions = 0 ∷ 1 ∷ [] });
}

-- the last glyph is deleted, and no position follows: its own stays, now past the text, so the second record is skipped and spends nothing
abbrev pub nothing_to_drop : Card
nothing_to_drop = record {
  given = ran (record {
    text = letters (1 ∷ 2 ∷ 3 ∷ []);
    positions = 0 ∷ 1 ∷ 2 ∷ [];
    end = 3;
    records = at 2 0 ∷ at 2 0 ∷ [];
    book = turns 3 [] ∷ [];
    allowance = 9;
    depth = 9;
  });
  wanted = leaves (record { ending = 0; spent = 1; ids = 1 ∷ 2 ∷ []; cursor = 2; count = 3; positions = 0 ∷ 1 ∷ 2 ∷ [] });
}

-- request Nine's text by today's rule: 2 is deleted before a mark that was passed over; the position after it is dropped, its own stays
abbrev pub own_glyph_deleted : Card
own_glyph_deleted = record {
  given = ran (record {
    text = letters (1 ∷ 2 ∷ []) ++ (mark 9 ∷ letters (3 ∷ []));
    positions = 0 ∷ 1 ∷ 3 ∷ [];
    end = 4;
    records = at 1 0 ∷ [];
    book = turns 2 [] ∷ [];
    allowance = 9;
    depth = 9;
  });
  wanted = leaves (record { ending = 0; spent = 1; ids = 1 ∷ 9 ∷ 3 ∷ []; cursor = 3; count = 2; positions = 0 ∷ 1 ∷ [] });
}

-- ---- a gain that passes 64 positions

-- 58 glyphs 1. A chain of so many input values makes 8 glyphs of its first and then renames its third; the level above it then renames the second
abbrev grown : ℕ → List (List ℕ)
grown values = ran (record {
  text = letters (replicate 58 1);
  positions = 0 ∷ 1 ∷ [];
  end = 2;
  records = at 0 0 ∷ at 1 2 ∷ [];
  book = chain 1 (replicate values 1) (at 0 1 ∷ at 2 3 ∷ []) ∷ turns 1 (replicate 8 2) ∷ renames 2 3 ∷ renames 2 4 ∷ [];
  allowance = 9;
  depth = 9;
})

abbrev nine : List ℕ
nine = 0 ∷ 1 ∷ 2 ∷ 3 ∷ 4 ∷ 5 ∷ 6 ∷ 7 ∷ 8 ∷ []

-- 58 positions and 7 more pass 64: the chain's level stops and its second record isn't looked at; the level above goes on, and the run is Finished
abbrev pub level_stops : Card
level_stops = record {
  given = grown 57;
  wanted = leaves (record {
    ending = 0;
    spent = 3;
    ids = 2 ∷ 3 ∷ 2 ∷ 2 ∷ 2 ∷ 2 ∷ 2 ∷ 2 ∷ replicate 57 1;
    cursor = 9;
    count = 9;
    positions = nine;
  });
}

-- 57 positions and 7 more are 64: the chain's level goes on, and its second record is done
abbrev pub level_goes_on : Card
level_goes_on = record {
  given = grown 56;
  wanted = leaves (record {
    ending = 0;
    spent = 4;
    ids = 2 ∷ 3 ∷ 4 ∷ 2 ∷ 2 ∷ 2 ∷ 2 ∷ 2 ∷ replicate 57 1;
    cursor = 9;
    count = 9;
    positions = nine;
  });
}

-- ---- an ending below

-- a chain doubles 1, and doubling it again is Full: no level looks at its last record or moves to its end; the first has a position more
abbrev pub full_below : Card
full_below = record {
  given = ran (record {
    text = letters (1 ∷ 2 ∷ replicate (limit - 3) 7);
    positions = 0 ∷ 1 ∷ [];
    end = 2;
    records = at 0 0 ∷ at 0 2 ∷ [];
    book = chain 1 (2 ∷ []) (at 0 1 ∷ at 1 1 ∷ at 0 2 ∷ []) ∷ turns 1 (1 ∷ 1 ∷ []) ∷ renames 1 3 ∷ [];
    allowance = 9;
    depth = 9;
  });
  wanted = leaves (record { ending = 10; spent = 3; ids = 1 ∷ 1 ∷ 2 ∷ replicate (limit - 3) 7; cursor = 1; count = 3; positions = 0 ∷ 1 ∷ 2 ∷ [] });
}

-- a chain doubles 1 with the last of the allowance: both levels stop at their next record, and move to their ends with a position more
abbrev pub short_below : Card
short_below = record {
  given = ran (record {
    text = letters (1 ∷ 2 ∷ 3 ∷ []);
    positions = 0 ∷ 1 ∷ 2 ∷ [];
    end = 3;
    records = at 0 0 ∷ at 3 3 ∷ [];
    book = chain 1 (2 ∷ []) (at 0 1 ∷ at 2 2 ∷ []) ∷ turns 1 (1 ∷ 1 ∷ []) ∷ turns 2 [] ∷ turns 3 [] ∷ [];
    allowance = 2;
    depth = 9;
  });
  wanted = leaves (record { ending = 8; spent = 2; ids = 1 ∷ 1 ∷ 2 ∷ 3 ∷ []; cursor = 4; count = 4; positions = 0 ∷ 1 ∷ 2 ∷ 3 ∷ [] });
}

-- a chain doubles 1, then a chain below it meets depth 0: the first level has a position more, and the cursor stays at that record's, 2
abbrev pub deep_below : Card
deep_below = record {
  given = ran (record {
    text = letters (1 ∷ 2 ∷ 3 ∷ []);
    positions = 0 ∷ 1 ∷ 2 ∷ [];
    end = 3;
    records = at 0 0 ∷ at 0 1 ∷ [];
    book = chain 1 (2 ∷ []) (at 0 1 ∷ at 2 2 ∷ at 0 1 ∷ []) ∷ turns 1 (1 ∷ 1 ∷ []) ∷ chain 2 [] (at 0 3 ∷ []) ∷ renames 2 5 ∷ [];
    allowance = 9;
    depth = 2;
  });
  wanted = leaves (record { ending = 9; spent = 3; ids = 1 ∷ 1 ∷ 2 ∷ 3 ∷ []; cursor = 2; count = 4; positions = 0 ∷ 1 ∷ 2 ∷ 3 ∷ [] });
}

abbrev pub run_examples : List Card
run_examples = end_raised ∷ loss_held_back ∷ nothing_to_drop ∷ own_glyph_deleted ∷ level_stops ∷ level_goes_on ∷ full_below ∷ short_below ∷ deep_below
    ∷ []
