-- Writes after each other, and a tape piece by piece: what is written of it is the answers to it.
use Rattle.std.specs.Prelude.{ℕ, ◌≤◌, ◌≡◌, refl, List, [], ◌∷◌, ◌++◌, length, take, drop}
use Rattle.std.specs.Prelude.{Option, Some, None, Result, Ok, Err, OnOk, OnErr, IsErr, is_ok}
use Rattle.std.specs.Io.KnownBytes.{Appends}
use Rattle.std.proofs.Common.{sym, ap, ◌∙◌, true≢false, append_assoc, append-nil, drop_of_length-le, arith}
use Rattle.tape_frame.specs.Put.{Puts, put_none, front_put}
use Rattle.tape_answer.specs.Feeding.{line_left, answers_in}
use Rattle.tape_answer.specs.Tape.{last_answer, tape_of}
use Rattle.tape_answer.specs.Pieces.{line_pieces, answers_pieces, tape_whole}
use Rattle.bench_tape.specs.declared.Part.{Part}
use Rattle.bench_tape.specs.Taking.{PartTaken, PieceTaken, LineOf, Answered, TapeOf}

-- nothing written
pub writes_none : (held : Option (List ℕ)) → Appends held held []
writes_none None = record {}
writes_none (Some xs) = sym (append-nil xs)

pub writes_then : (a b c : Option (List ℕ)) (s t : List ℕ) → Appends a b s → Appends b c t → Appends a c (s ++ t)
writes_then None b c s t p q = record {}
writes_then (Some xs) None c s t p q = absurd p
writes_then (Some xs) (Some ys) None s t p q = absurd q
writes_then (Some xs) (Some ys) (Some zs) s t p q = q ∙ ap (λ (l : List ℕ). l ++ t) p ∙ append_assoc xs s t

writes_as : (a b : Option (List ℕ)) (s t : List ℕ) → s ≡ t → Appends a b s → Appends a b t
writes_as a b s t e p = rw (← e) p

-- no line, nothing stored
pub last_none : (out line : List ℕ) → length line ≡ 0 → Puts out 0 (last_answer line) out 0
last_none out [] e = record { stored = sym (put_none out 0); ends = refl }
last_none out (b ∷ line) e = absurd (omega arith)

-- what an answer from the front says is what stands there
pub front_stored : (out s out' : List ℕ) (end : ℕ) → Puts out 0 s out' end → end ≤ length out → take end out' ≡ s
front_stored out s out' end p h = ap (take end) p.stored ∙ front_put out s end (omega (arith, p.ends)) (omega (arith, p.ends))

-- what follows from what holds where a call succeeds
pub on_ok : {T E P Q : Type 0} (r : Result T E) → OnOk r P → (P → Q) → OnOk r Q
on_ok (Ok x) h f = f h
on_ok (Err e) h f = h

-- what holds of a call that succeeds
pub if_ok : {T E P : Type 0} (r : Result T E) → OnOk r P → (x : T) → r ≡ Ok x → P
if_ok (Ok y) h x e = h
if_ok (Err w) h x e = absurd (err_ok w x e)
  where
    err_ok : {T E : Type 0} (w : E) (x : T) → Err w ≡ Ok x → ⊥
    err_ok w x e = true≢false (sym (ap is_ok e))

-- what holds where a call succeeds, if that before it did: it doesn't where that failed
pub on_both : {T E P Q R : Type 0} (S : Type 0) (r r' : Result T E) → OnOk r P → OnErr r (IsErr r' × S) → OnOk r' Q → (P → Q → R) → OnOk r' R
on_both S (Ok x) (Ok y) h e k f = f h k
on_both S (Err x) (Ok y) h e k f = absurd (true≢false (sym e.0))
on_both S (Ok x) (Err y) h e k f = k
on_both S (Err x) (Err y) h e k f = k

-- ---- a piece, a part at a time

-- what was taken of a piece so far: its answers and those to the rest are the piece's
pub record TakenSo (piece line : List ℕ) (at : ℕ) (line' : List ℕ) (held held' : Option (List ℕ)) : Type 0 where
  pub within : at ≤ length piece
  pub written : List ℕ
  pub writes : Appends held held' written
  pub answers : written ++ answers_in line' (drop at piece) ≡ answers_in line piece
  pub leaves : line_left line' (drop at piece) ≡ line_left line piece

pub taken_none : (piece line : List ℕ) (held : Option (List ℕ)) → TakenSo piece line 0 line held held
taken_none piece line held = record { within = omega arith; written = []; writes = writes_none held; answers = refl; leaves = refl }

-- and then something more, whatever was written of it and whatever is kept of the line
pub taken_more : (piece line : List ℕ) (at : ℕ) (line' : List ℕ) (a b : Option (List ℕ)) → TakenSo piece line at line' a b
    → (at' : ℕ) (line'' written : List ℕ) (c : Option (List ℕ)) → at' ≤ length piece → Appends b c written
    → written ++ answers_in line'' (drop at' piece) ≡ answers_in line' (drop at piece)
    → line_left line'' (drop at' piece) ≡ line_left line' (drop at piece)
    → TakenSo piece line at' line'' a c
taken_more piece line at line' a b so at' line'' written c within writes answers leaves = record {
  within = within;
  written = so.written ++ written;
  writes = writes_then a b c so.written written so.writes writes;
  answers =
      append_assoc so.written written (answers_in line'' (drop at' piece))
      ∙ ap (λ (l : List ℕ). so.written ++ l) answers
      ∙ so.answers;
  leaves = leaves ∙ so.leaves;
}

-- a part, where what was handed to a write was written
pub part_more : (piece line : List ℕ) (at : ℕ) (line' : List ℕ) (a b : Option (List ℕ)) → TakenSo piece line at line' a b
    → (p : Part) (line'' out : List ℕ) (c : Option (List ℕ)) → PartTaken piece at line' p line'' out → Appends b c (take p.written out)
    → TakenSo piece line p.at line'' a c
part_more piece line at line' a b so part line'' out c p w =
    taken_more piece line at line' a b so part.at line'' (take part.written out) c p.within w p.answers p.leaves

pub taken_all : (piece line : List ℕ) (at : ℕ) (line' : List ℕ) (a b : Option (List ℕ)) → TakenSo piece line at line' a b → length piece ≤ at
    → PieceTaken piece line line' a b
unfolding line_left answers_in
taken_all piece line at line' a b so h =
    let none : drop at piece ≡ [] = drop_of_length-le piece {i = at} h in
    record {
      writes = writes_as a b so.written (answers_in line piece)
          (sym (append-nil so.written) ∙ rw none at so.answers) so.writes;
      leaves = rw none at so.leaves;
    }

-- what is left at a piece's end is the line
pub left_all : (piece line : List ℕ) (at : ℕ) → length piece ≤ at → line_left line (drop at piece) ≡ line
unfolding line_left
left_all piece line at h = rw (drop_of_length-le piece {i = at} h) refl

-- ---- a tape, a piece at a time

pub answered_none : (held : Option (List ℕ)) → Answered [] held held
unfolding line_left answers_in
answered_none held = record { input = []; writes = writes_none held; left = refl }

pub answered_more : (line : List ℕ) (a b : Option (List ℕ)) → Answered line a b
    → (piece line' : List ℕ) (c : Option (List ℕ)) → PieceTaken piece line line' b c → Answered line' a c
answered_more line a b so piece line' c p = record {
  input = so.input ++ piece;
  writes = writes_as a c (answers_in [] so.input ++ answers_in line piece) (answers_in [] (so.input ++ piece))
      (ap (λ (l : List ℕ). answers_in [] so.input ++ answers_in l piece) so.left ∙ sym (answers_pieces [] so.input piece))
      (writes_then a b c (answers_in [] so.input) (answers_in line piece) so.writes p.writes);
  left = p.leaves ∙ ap (λ (l : List ℕ). line_left l piece) so.left ∙ sym (line_pieces [] so.input piece);
}

pub line_answered : (line : List ℕ) (a b : Option (List ℕ)) → Answered line a b → LineOf line
line_answered line a b so = record { input = so.input; left = so.left }

pub line_more : (line : List ℕ) → LineOf line → (piece line' : List ℕ) → line' ≡ line_left line piece → LineOf line'
line_more line so piece line' on = record {
  input = so.input ++ piece;
  left = on ∙ ap (λ (l : List ℕ). line_left l piece) so.left ∙ sym (line_pieces [] so.input piece);
}

pub tape_answered : (line : List ℕ) (a b : Option (List ℕ)) → Answered line a b → (c : Option (List ℕ)) → Appends b c (last_answer line) → TapeOf a c
tape_answered line a b so c p = record {
  input = so.input;
  writes = writes_as a c (answers_in [] so.input ++ last_answer line) (tape_of so.input)
      (ap (λ (l : List ℕ). answers_in [] so.input ++ last_answer l) so.left ∙ tape_whole so.input)
      (writes_then a b c (answers_in [] so.input) (last_answer line) so.writes p);
}
