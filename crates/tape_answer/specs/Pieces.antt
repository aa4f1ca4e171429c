-- A tape in pieces is answered as the whole tape is, whatever the pieces, though only the first bytes of a line are kept:
-- a line that is longer than what is kept is longer than any frame.
use Rattle.std.specs.Prelude.{ℕ, ◌+◌, ◌-◌, ◌≤◌, ◌<◌, ◌≡◌, refl, List, [], ◌∷◌, ◌++◌, Bool, true, false, cond, eqb, leb, length, take, drop}
use Rattle.std.proofs.Common.{sym, ap, ◌∙◌, append_assoc, ⊎_elim, arith, lt-ltb, le-ltb, length-append, take_all, length-take-le, drop-drop}
use Rattle.std.proofs.lemmas.List.{take-append-le}
use Rattle.tape_answer.specs.Answer.{answer_to, answer_line}
use Rattle.tape_answer.specs.AnswerLaws.{le_or_lt}
use Rattle.tape_frame.specs.Frame.{LineRead, frame_of}
use Rattle.tape_frame.specs.FrameLaws.{long_none}
use Rattle.tape_frame.specs.Put.{take_put}
use Rattle.tape_answer.specs.Line.{newline, most_answer, with_newline}
use Rattle.tape_answer.specs.Tape.{last_answer, answers_from, tape_of}
use Rattle.tape_answer.specs.Feeding.{most_kept, longer, line_after, answer_at, line_left, answers_in, bytes_taken, Feeds}

-- ---- one piece after another

pub line_pieces : (l p q : List ℕ) → line_left l (p ++ q) ≡ line_left (line_left l p) q
unfolding line_left
line_pieces l [] q = refl
line_pieces l (b ∷ p) q = line_pieces (line_after l b) p q

pub answers_pieces : (l p q : List ℕ) → answers_in l (p ++ q) ≡ answers_in l p ++ answers_in (line_left l p) q
unfolding answers_in line_left
answers_pieces l [] q = refl
answers_pieces l (b ∷ p) q =
    ap (λ (r : List ℕ). answer_at l b ++ r) (answers_pieces (line_after l b) p q)
    ∙ sym (append_assoc (answer_at l b) (answers_in (line_after l b) p) (answers_in (line_left (line_after l b) p) q))

-- ---- a piece of which a part is taken: the part and the rest give what the piece does

taken_by : (b : ℕ) (p onward : List ℕ) → onward ++ drop (length onward) p ≡ p
    → (t : Bool) → cond t (b ∷ onward) [] ++ drop (length (cond t (b ∷ onward) [])) (b ∷ p) ≡ b ∷ p
taken_by b p onward e true = ap (λ (r : List ℕ). b ∷ r) e
taken_by b p onward e false = refl

taken_part : (room : ℕ) (l p : List ℕ) → bytes_taken room l p ++ drop (length (bytes_taken room l p)) p ≡ p
unfolding bytes_taken
taken_part room l [] = refl
taken_part room l (b ∷ p) =
    taken_by b p (bytes_taken (room - length (answer_at l b)) (line_after l b) p) (taken_part (room - length (answer_at l b)) (line_after l b) p)
    (leb most_answer room)

module _ (piece : List ℕ) (at : ℕ) (kept out : List ℕ) (m room at' : ℕ) (kept' out' : List ℕ) (m' : ℕ)
    (f : Feeds (bytes_taken room kept (drop at piece)) at kept out m at' kept' out' m') where
  rest : bytes_taken room kept (drop at piece) ++ drop at' piece ≡ drop at piece
  rest =
      ap (λ (n : ℕ). bytes_taken room kept (drop at piece) ++ drop n piece) f.came
      ∙ ap (λ (r : List ℕ). bytes_taken room kept (drop at piece) ++ r) (sym (drop-drop (length (bytes_taken room kept (drop at piece))) at piece))
      ∙ taken_part room kept (drop at piece)

  pub line_rest : line_left kept' (drop at' piece) ≡ line_left kept (drop at piece)
  line_rest =
      ap (λ (l : List ℕ). line_left l (drop at' piece)) f.line
      ∙ sym (line_pieces kept (bytes_taken room kept (drop at piece)) (drop at' piece))
      ∙ ap (line_left kept) rest

  pub answers_rest : m' ≤ length out → take m' out' ++ answers_in kept' (drop at' piece) ≡ take m out ++ answers_in kept (drop at piece)
  answers_rest h =
      let bytes = bytes_taken room kept (drop at piece) in
      ap (λ (n : ℕ). take n out' ++ answers_in kept' (drop at' piece)) f.answers.ends
      ∙ ap (λ (o : List ℕ). take (m + length (answers_in kept bytes)) o ++ answers_in kept' (drop at' piece)) f.answers.stored
      ∙ ap (λ (o : List ℕ). o ++ answers_in kept' (drop at' piece)) (take_put out m (answers_in kept bytes) (omega (arith, f.answers.ends)))
      ∙ ap (λ (l : List ℕ). (take m out ++ answers_in kept bytes) ++ answers_in l (drop at' piece)) f.line
      ∙ append_assoc (take m out) (answers_in kept bytes) (answers_in (line_left kept bytes) (drop at' piece))
      ∙ ap (λ (r : List ℕ). take m out ++ r) (sym (answers_pieces kept bytes (drop at' piece)) ∙ ap (answers_in kept) rest)

-- ---- what is kept of a line tells its answer

frame_kept : (u : List ℕ) → frame_of (take most_kept u) ≡ frame_of u
frame_kept u =
    ⊎_elim
    (λ h. ap frame_of (take_all most_kept u h))
    (λ h.
    let e : length (take most_kept u) ≡ most_kept = length-take-le most_kept u (omega arith) in
    long_none (take most_kept u) (omega arith) ∙ sym (long_none u (omega arith)))
    (le_or_lt (length u) most_kept)

answer_kept : (u : List ℕ) → answer_line (take most_kept u) ≡ answer_line u
unfolding answer_line
answer_kept u = ap (λ (r : LineRead). with_newline (answer_to r)) (frame_kept u)

last_kept : (u : List ℕ) → last_answer (take most_kept u) ≡ last_answer u
last_kept [] = refl
last_kept (b ∷ u) = answer_kept (b ∷ u)

longer_full : (u : List ℕ) (b : ℕ) → most_kept ≤ length u → longer (take most_kept u) b ≡ take most_kept (u ++ (b ∷ []))
longer_full u b h =
    let e : length (take most_kept u) ≡ most_kept = length-take-le most_kept u h in
    rw (le-ltb (length (take most_kept u)) most_kept (omega arith)) (sym (take-append-le most_kept u (b ∷ []) h))

longer_room : (u : List ℕ) (b : ℕ) → length u < most_kept → longer (take most_kept u) b ≡ take most_kept (u ++ (b ∷ []))
longer_room u b h =
    let e : take most_kept u ≡ u = take_all most_kept u (omega arith) in
    let k : length (u ++ (b ∷ [])) ≤ most_kept = simp length-append (omega arith) in
    rw (e, lt-ltb (length u) most_kept h) (sym (take_all most_kept (u ++ (b ∷ [])) k))

longer_kept : (u : List ℕ) (b : ℕ) → longer (take most_kept u) b ≡ take most_kept (u ++ (b ∷ []))
longer_kept u b = ⊎_elim (λ h. longer_full u b h) (λ h. longer_room u b h) (le_or_lt most_kept (length u))

-- ---- the whole tape

module _ (u : List ℕ) (b : ℕ) (p : List ℕ)
    (closed : answers_in [] p ++ last_answer (line_left [] p) ≡ answers_from [] p)
    (on : answers_in (take most_kept (u ++ (b ∷ []))) p ++ last_answer (line_left (take most_kept (u ++ (b ∷ []))) p)
    ≡ answers_from (u ++ (b ∷ [])) p) where
  byte_whole : (t : Bool)
      → (cond t (answer_line (take most_kept u)) [] ++ answers_in (cond t [] (longer (take most_kept u) b)) p)
      ++ last_answer (line_left (cond t [] (longer (take most_kept u) b)) p)
      ≡ cond t (answer_line u ++ answers_from [] p) (answers_from (u ++ (b ∷ [])) p)
  byte_whole true =
      rw (answer_kept u)
      (append_assoc (answer_line u) (answers_in [] p) (last_answer (line_left [] p)) ∙ ap (λ (r : List ℕ). answer_line u ++ r) closed)
  byte_whole false = rw (longer_kept u b) on

whole : (u p : List ℕ) → answers_in (take most_kept u) p ++ last_answer (line_left (take most_kept u) p) ≡ answers_from u p
unfolding answers_in line_left answers_from line_after answer_at
whole u [] = last_kept u
whole u (b ∷ p) = byte_whole u b p (whole [] p) (whole (u ++ (b ∷ [])) p) (eqb b newline)

-- from the first byte to the last
pub tape_whole : (input : List ℕ) → answers_in [] input ++ last_answer (line_left [] input) ≡ tape_of input
tape_whole input = whole [] input
