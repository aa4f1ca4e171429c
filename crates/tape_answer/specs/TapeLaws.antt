-- A tape a byte at a time: what the code's steps do, and where it stops.
use Rattle.std.specs.Prelude.{ℕ, ◌+◌, ◌-◌, ◌≤◌, ◌<◌, ◌≡◌, refl, List, [], ◌∷◌, ◌++◌, length, get_or, drop}
use Rattle.std.proofs.Math.Path.{sym}
use Rattle.std.proofs.Common.{ap, ◌∙◌, add-one, drop_of_length-le, length-append}
use native.Mathlib.Omega.{arith}
use borrow.Author.Tests.{eq-eqb, ne_eqb, lt-ltb, le-ltb, le-leb, lt-leb}
use Rattle.std.proofs.Math.Seq.{drop-cons}
use Rattle.tape_frame.specs.Put.{put, Puts, put_none, put_then}
use Rattle.tape_answer.specs.Answer.{answer_line}
use Rattle.tape_answer.specs.Line.{newline, most_answer}
use Rattle.tape_answer.specs.Feeding.{most_kept, line_after, answer_at, line_left, answers_in, bytes_taken, Feeds}

module _ (l : List ℕ) (b : ℕ) where
  pub after_newline : b ≡ newline → line_after l b ≡ []
  unfolding line_after
  after_newline e = rw (eq-eqb b newline e)

  pub answer_newline : b ≡ newline → answer_at l b ≡ answer_line l
  unfolding answer_at
  answer_newline e = rw (eq-eqb b newline e)

  pub after_kept : (b ≡ newline → ⊥) → length l < most_kept → line_after l b ≡ l ++ (b ∷ [])
  unfolding line_after
  after_kept e h = rw (ne_eqb b newline e, lt-ltb (length l) most_kept h)

  pub after_full : (b ≡ newline → ⊥) → most_kept ≤ length l → line_after l b ≡ l
  unfolding line_after
  after_full e h = rw (ne_eqb b newline e, le-ltb (length l) most_kept h)

  -- no answer, nothing stored
  pub answer_other : (b ≡ newline → ⊥) → (out : List ℕ) (m : ℕ) → Puts out m (answer_at l b) out m
  unfolding answer_at
  answer_other e out m = rw (ne_eqb b newline e) (record { stored = sym (put_none out m); ends = omega arith })

module _ (piece : List ℕ) (at room : ℕ) (l : List ℕ) where
  taken_on : at < length piece → most_answer ≤ room
      → bytes_taken room l (drop at piece)
      ≡ get_or piece at 0 ∷ bytes_taken (room - length (answer_at l (get_or piece at 0))) (line_after l (get_or piece at 0)) (drop (at + 1) piece)
  unfolding bytes_taken
  taken_on h k = rw (add-one at, drop-cons piece at 0 h, le-leb most_answer room k)

  pub taken_full : at < length piece → room < most_answer → bytes_taken room l (drop at piece) ≡ []
  unfolding bytes_taken
  taken_full h k = rw (drop-cons piece at 0 h, lt-leb most_answer room k)

  pub taken_all : length piece ≤ at → bytes_taken room l (drop at piece) ≡ []
  unfolding bytes_taken
  taken_all h = rw (drop_of_length-le piece {i = at} h)

-- no byte taken
feeds_none : (at : ℕ) (kept out : List ℕ) (m : ℕ) → Feeds [] at kept out m at kept out m
unfolding line_left answers_in
feeds_none at kept out m = record {
  came = omega arith;
  line = refl;
  answers = record { stored = sym (put_none out m); ends = omega arith };
}

-- one byte taken, and what is taken after it
feeds_more : (b : ℕ) (rest : List ℕ) (at : ℕ) (kept out : List ℕ) (m : ℕ) (k o : List ℕ) (w at' : ℕ) (k' o' : List ℕ) (w' : ℕ)
    → k ≡ line_after kept b → Puts out m (answer_at kept b) o w → w ≤ length out
    → Feeds rest (at + 1) k o w at' k' o' w' → Feeds (b ∷ rest) at kept out m at' k' o' w'
unfolding line_left answers_in
feeds_more b rest at kept out m k o w at' k' o' w' p q h f =
    let e = f.came in
    let s : w' ≡ w + length (answers_in (line_after kept b) rest) =
    f.answers.ends ∙ ap (λ (x : List ℕ). w + length (answers_in x rest)) p in
    record {
      came = omega arith;
      line = f.line ∙ ap (λ (x : List ℕ). line_left x rest) p;
      answers = record {
        stored =
            put_then out m w (answer_at kept b) (answers_in (line_after kept b) rest) q.stored q.ends
            (f.answers.stored ∙ ap (λ (x : List ℕ). put o w (answers_in x rest)) p) (omega (arith, q.ends));
        ends = simp length-append (omega (arith, s, q.ends));
      };
    }

-- the bytes that are taken from a place on
abbrev left : List ℕ → ℕ → List ℕ → List ℕ → ℕ → List ℕ
left piece at kept out m = bytes_taken (length out - m) kept (drop at piece)

-- what comes of the bytes that are taken from here on comes of those from the first place on
abbrev pub FeedsOn : List ℕ → ℕ → List ℕ → List ℕ → ℕ → ℕ → List ℕ → List ℕ → ℕ → Type 0
FeedsOn piece from kept out m at k o w =
    (at' : ℕ) (k' o' : List ℕ) (w' : ℕ) → Feeds (left piece at k o w) at k o w at' k' o' w'
    → Feeds (left piece from kept out m) from kept out m at' k' o' w'

module _ (piece : List ℕ) (from : ℕ) (kept out : List ℕ) (m at : ℕ) (k o : List ℕ) (w : ℕ) where
  pub leads_end : FeedsOn piece from kept out m at k o w → left piece at k o w ≡ [] → Feeds (left piece from kept out m) from kept out m at k o w
  leads_end f e = f at k o w (rw e (feeds_none at k o w))

module _ (piece : List ℕ) (from : ℕ) (kept out : List ℕ) (m at : ℕ) (k o : List ℕ) (w : ℕ) (k' o' : List ℕ) (w' : ℕ)
    (h : at < length piece) (room : most_answer ≤ length o - w)
    (p : k' ≡ line_after k (get_or piece at 0)) (q : Puts o w (answer_at k (get_or piece at 0)) o' w')
    (s : length o' ≡ length o) (e : w' ≤ length o) where
  left_on : left piece at k o w ≡ get_or piece at 0 ∷ left piece (at + 1) k' o' w'
  left_on =
      let r : length o - w - length (answer_at k (get_or piece at 0)) ≡ length o' - w' = omega (arith, q.ends) in
      taken_on piece at (length o - w) k h room
      ∙ ap (λ (x : List ℕ). get_or piece at 0 ∷ bytes_taken (length o - w - length (answer_at k (get_or piece at 0))) x (drop (at + 1) piece)) (sym p)
      ∙ ap (λ (n : ℕ). get_or piece at 0 ∷ bytes_taken n k' (drop (at + 1) piece)) r

  pub leads_on : FeedsOn piece from kept out m at k o w → FeedsOn piece from kept out m (at + 1) k' o' w'
  leads_on f at' a b c g =
      f at' a b c (rw left_on (feeds_more (get_or piece at 0) (left piece (at + 1) k' o' w') at k o w k' o' w' at' a b c p q e g))
