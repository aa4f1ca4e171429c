-- Words in a line: when there is room for the whole of them, and what a line is that ends in them.
use Rattle.std.specs.Prelude.{ℕ, ◌+◌, ◌-◌, ◌≤◌, ◌<◌, ◌≡◌, List, ◌++◌, length, get_or, set, take, drop}
use Rattle.std.proofs.Common.{ap, sym, ◌∙◌, arith, drop-drop, length-take-le}
use Rattle.std.proofs.lemmas.List.{set-append_left, set-append_right, set-get_or}
use Rattle.tape_frame.specs.Put.{put, Puts, take_put}

-- the whole of the words fits into a line from a place on
abbrev pub IsFitting : List ℕ → ℕ → List ℕ → Type 0
IsFitting line at words = at + length words ≤ length line

-- what a line has before a place ends in the words, all of them
pub record EndsIn (line : List ℕ) (place : ℕ) (words : List ℕ) : Type 0 where
  pub before : List ℕ
  pub whole : take place line ≡ before ++ words

pub put_ends : {line words line' : List ℕ} {at end : ℕ} → IsFitting line at words → Puts line at words line' end → EndsIn line' end words
put_ends {line = line} {words = words} {line' = line'} {at = at} h p = record {
  before = take at line;
  whole = ap (λ (k : ℕ). take k line') p.ends ∙ ap (take (at + length words)) p.stored ∙ take_put line at words h;
}

-- what stands behind the words is dropped in one step, as it is dropped in two
pub put_paste : (line words : List ℕ) (at k : ℕ) → k ≡ length words → put line at words ≡ take at line ++ (words ++ drop k (drop at line))
unfolding put
put_paste line words at k e = rw (e, drop-drop (length words) at line)

-- a byte of the words that is put once more, where it stands, changes nothing
pub put_again : (line words : List ℕ) (at k j : ℕ) → k ≡ length words → j < length words → at ≤ length line
    → put line at words ≡ set (take at line ++ (words ++ drop k (drop at line))) (at + j) (get_or words j 0)
put_again line words at k j e h room =
    let rest = drop k (drop at line) in
    let b = get_or words j 0 in
    let i : at + j - at ≡ j = omega arith in
    put_paste line words at k e
    ∙ sym (
    set-append_right (take at line) (words ++ rest) at (at + j) b (length-take-le at line room) (omega arith)
    ∙ ap (λ (x : ℕ). take at line ++ set (words ++ rest) x b) i
    ∙ ap (λ (l : List ℕ). take at line ++ l) (set-append_left words rest j b h ∙ ap (λ (l : List ℕ). l ++ rest) (set-get_or words j 0)))
