-- An answer's bytes, case by case, as the code writes them; and the answer to a line by what it was decoded to.
use Rattle.std.specs.Prelude.{ℕ, zero, suc, ◌*◌, ◌≤◌, ◌<◌, min, ◌≡◌, List, [], ◌∷◌, ◌⊎◌, Option, Ok, Err}
use Rattle.std.proofs.Common.{zero-le, suc-le-suc, ◌∙◌, inl, inr, ⊎_elim, arith, take_all}
use Rattle.std.proofs.Math.Path.{sym, ap}
use Rattle.std.proofs.Math.ListN.{length, take}
use Rattle.std.proofs.Math.Seq.{length-take-le}
use Rattle.matching.specs.declared.Refusal.{Refusal}
use Rattle.matching.specs.declared.NoMatch.{NoMatch}
use Rattle.matching.specs.declared.Success.{Success}
use Rattle.matching.specs.declared.InputMatch.{InputMatch}
use Rattle.matching.specs.Answers.{refusal_number, input_reply, without}
use Rattle.matching.specs.Take.{slots}
use Rattle.glyph.specs.Glyph.{words}
use Rattle.tape_frame.specs.declared.Head.{Head}
use Rattle.tape_frame.specs.declared.Lists.{Lists}
use Rattle.tape_answer.specs.Answer.{frame_match, answer_line}
use Rattle.tape_answer.specs.Asking.{asked}
use Rattle.tape_frame.specs.Frame.{most_values, most_glyphs, LineRead, frame_of}
use Rattle.tape_frame.specs.Decoding.{values_of, done_of, coming_of, Decodes}
use Rattle.tape_frame.specs.DecodingLaws.{FrameTold, frame_rows, told_bounded}
use Rattle.tape_frame.specs.Line.{half}
use Rattle.tape_answer.specs.Line.{halves, matched_bytes, answer_bytes, with_newline}
use Rattle.tape_frame.specs.Put.{put, front_put}

pub le_or_lt : (a b : ℕ) → (a ≤ b) ⊎ (b < a)
le_or_lt zero b = inl zero-le
le_or_lt (suc a) zero = inr (suc-le-suc zero-le)
le_or_lt (suc a) (suc b) = ⊎_elim (λ p. inl (suc-le-suc p)) (λ q. inr (suc-le-suc q)) (le_or_lt a b)

take_min : (count : ℕ) (l : List ℕ) → length l ≡ slots → take count l ≡ take (min count slots) l
take_min count l e =
    ⊎_elim
    (λ h.
    let m : count ≡ min count slots = omega arith in
    ap (λ (n : ℕ). take n l) m)
    (λ h.
    let m : min count slots ≡ slots = omega arith in
    take_all count l (omega arith) ∙ sym (take_all slots l (omega arith)) ∙ ap (λ (n : ℕ). take n l) (sym m))
    (le_or_lt count slots)

module _ (m : InputMatch) where
  pub reply_matched : (found : Success) (n : ℕ) → m.answer ≡ Ok found → n ≡ min m.count slots
      → length m.positions ≡ slots
      → answer_bytes (input_reply m) ≡ 0 ∷ matched_bytes (found.end ∷ found.total ∷ n ∷ take n m.positions)
  unfolding answer_bytes
  reply_matched found n e f s =
      let size : length (take n m.positions) ≡ n = length-take-le n m.positions (omega arith) in
      rw (e, take_min m.count m.positions s, ← f, size)

  pub reply_refused : (why : Refusal) → m.answer ≡ Err (NoMatch.Refused why) → answer_bytes (input_reply m) ≡ refusal_number why ∷ []
  unfolding answer_bytes halves
  reply_refused Refusal.Shape e = rw e
  reply_refused Refusal.Cursor e = rw e
  reply_refused Refusal.Values e = rw e
  reply_refused Refusal.Start e = rw e

  pub reply_lost : (extent : ℕ) → m.answer ≡ Err (NoMatch.Lost extent) → answer_bytes (input_reply m) ≡ 4 ∷ half extent
  unfolding answer_bytes halves
  reply_lost extent e = rw e

  pub reply_ligature : m.answer ≡ Err NoMatch.Ligature → answer_bytes (input_reply m) ≡ 5 ∷ []
  unfolding answer_bytes halves
  reply_ligature e = rw e

-- of no match nothing but what it is told to be is answered
pub reply_without : (m : InputMatch) (no : NoMatch) → m.answer ≡ Err no → input_reply m ≡ input_reply (without no)
reply_without m (NoMatch.Refused why) e = rw e
reply_without m (NoMatch.Lost extent) e = rw e
reply_without m NoMatch.Ligature e = rw e

-- ---- the answer to a line by what it was decoded to

module _ (l : List ℕ) (h : Head) (t : FrameTold (frame_of l) h) where
  -- a list that was stored at the front of a slice with room for it
  stored : (v v' s : List ℕ) (n : ℕ) → v' ≡ put v 0 s → n ≡ length s → n ≤ length v → take n v' ≡ s
  stored v v' s n e k m = ap (take n) e ∙ front_put v s n (sym k) (omega arith)

  -- asking with what was stored is asking what the frame asks
  pub told_answer : (a : Option Head) (old new : Lists) → Decodes (frame_of l) a old new
      → length old.values ≡ most_values → length old.done ≡ words * most_glyphs → length old.coming ≡ words * most_glyphs
      → with_newline (answer_bytes (input_reply
      (asked h (take h.values new.values) (take (words * h.done) new.done) (take (words * h.coming) new.coming)))) ≡ answer_line l
  unfolding answer_line asked frame_match
  told_answer a old new s lv ld lc =
      let f = t.frame in
      let b = told_bounded l h t in
      let nv : h.values ≡ length f.values = ap (λ (x : Head). x.values) t.head in
      let rows = frame_rows l f t.is in
      let nd : words * h.done ≡ length f.done = ap (λ (x : Head). words * x.done) t.head ∙ sym rows.0 in
      let nc : words * h.coming ≡ length f.coming = ap (λ (x : Head). words * x.coming) t.head ∙ sym rows.1 in
      let ev : take h.values new.values ≡ f.values =
      stored old.values new.values f.values h.values (s.values ∙ ap (λ (r : LineRead). put old.values 0 (values_of r)) t.is) nv
      (omega (arith, b.values)) in
      let ed : take (words * h.done) new.done ≡ f.done =
      stored old.done new.done f.done (words * h.done) (s.done ∙ ap (λ (r : LineRead). put old.done 0 (done_of r)) t.is) nd
      (omega (arith, b.done)) in
      let ec : take (words * h.coming) new.coming ≡ f.coming =
      stored old.coming new.coming f.coming (words * h.coming) (s.coming ∙ ap (λ (r : LineRead). put old.coming 0 (coming_of r)) t.is) nc
      (omega (arith, b.coming)) in
      rw (ev, ed, ec, t.is, t.head)
