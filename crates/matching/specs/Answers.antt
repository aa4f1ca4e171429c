-- The answers that an outcome gives, and this paper's number and values for each case of each answer (01, "When the desk says no").
use Rattle.std.specs.Prelude.{ℕ, ◌+◌, ◌-◌, cond, eqb, Result, Ok, Err, List, [], ◌∷◌, ◌++◌, length, get_or, take, replicate}
use Rattle.glyph.specs.declared.Glyph.{Glyph}
use Rattle.glyph.specs.Glyph.{blank}
use Rattle.glyph.specs.Reply.{Reply, replies}
use Rattle.matching.specs.declared.Refusal.{Refusal}
use Rattle.matching.specs.declared.Refusal.TheVariants.{Shape, Cursor, Values, Start}
use Rattle.matching.specs.declared.Success.{Success}
use Rattle.matching.specs.declared.NoMatch.{NoMatch}
use Rattle.matching.specs.declared.InputMatch.{InputMatch}
use Rattle.matching.specs.declared.NoContext.{NoContext}
use Rattle.matching.specs.Take.{slots, Way, ahead, Outcome, taken, lost, unlike, reached}

-- positions in their slots, unused ones 0
abbrev pub slotted : List ℕ → List ℕ
slotted l = l ++ replicate (slots - length l) 0

-- no positions
abbrev pub without : NoMatch → InputMatch
without why = record { answer = Err why; count = 0; positions = slotted [] }

-- the counts in ligation of the glyphs at these places
unfoldable pub ligated : List Glyph → List ℕ → ℕ
ligated gs [] = 0
ligated gs (q ∷ qs) = (get_or gs q blank).ligated + ligated gs qs

-- the cursor glyph's count plus each later glyph's count in ligation
abbrev pub total_of : List Glyph → ℕ → List ℕ → ℕ
total_of gs idx qs = (get_or gs idx blank).count + ligated gs qs

-- the cursor is the first position, and the end is the last and one more
abbrev pub matched_at : List Glyph → ℕ → List ℕ → InputMatch
matched_at gs idx qs = record {
  answer = Ok (record { end = reached (ahead (length gs)) (idx + 1) qs; total = total_of gs idx qs });
  count = length (idx ∷ qs);
  positions = slotted (idx ∷ qs);
}

abbrev pub input_told : List Glyph → ℕ → Outcome → InputMatch
input_told gs idx (taken qs) = matched_at gs idx qs
input_told gs idx (lost extent) = without (NoMatch.Lost extent)
input_told gs idx unlike = without NoMatch.Ligature

-- from p on; a context matcher has no rule on places that could turn one down
abbrev pub context_told : Way → ℕ → Outcome → Result ℕ NoContext
context_told way p (taken qs) = Ok (reached way p qs)
context_told way p (lost extent) = Err (NoContext.Lost extent)
context_told way p unlike = Err (NoContext.Lost 0)

-- ---- number and values of each case; 01 gives a success no number, 0 is our choice

abbrev pub refusal_number : Refusal → ℕ
refusal_number Shape = 1
refusal_number Cursor = 2
refusal_number Values = 3
refusal_number Start = 6

-- an answer by its number, for a caller that has no enums: 0 is a success; of any other number a run needs to know only that it is none
abbrev pub answer_from : ℕ → ℕ → ℕ → Result Success NoMatch
answer_from number end total = cond (eqb number 0) (Ok (record { end = end; total = total })) (Err NoMatch.Ligature)

abbrev input_reply_by : Result Success NoMatch → List ℕ → Reply
input_reply_by (Ok s) positions = replies 0 (s.end ∷ s.total ∷ length positions ∷ positions)
input_reply_by (Err (NoMatch.Refused why)) positions = replies (refusal_number why) []
input_reply_by (Err (NoMatch.Lost extent)) positions = replies 4 (extent ∷ [])
input_reply_by (Err NoMatch.Ligature) positions = replies 5 []

-- end, total, the number of positions, and the positions
abbrev pub input_reply : InputMatch → Reply
input_reply m = input_reply_by m.answer (take m.count m.positions)

abbrev pub context_reply : Result ℕ NoContext → Reply
context_reply (Ok place) = replies 0 (place ∷ [])
context_reply (Err (NoContext.Refused why)) = replies (refusal_number why) []
context_reply (Err (NoContext.Lost extent)) = replies 4 (extent ∷ [])

-- the end of a match, else 0
abbrev pub match_end : Result Success NoMatch → ℕ
match_end (Ok s) = s.end
match_end (Err why) = 0
