-- Bytes written as digits and words written as bytes come back when they are read.
use Rattle.std.specs.Prelude.{ℕ, zero, suc, ◌+◌, ◌*◌, ◌/◌, ◌%◌, ◌<◌, ◌≡◌, refl, List, [], ◌∷◌, ◌++◌, true, eqb, length, drop}
use Rattle.std.proofs.Common.{ap, arith, eqb-true, get_or-drop}
use Rattle.bits.specs.Bits.{every}
use Rattle.bits.proofs.Laws.{every_at}
use Rattle.tape_frame.specs.Digits.{digit, is_digit, spells, bytes_of}
use Rattle.tape_frame.specs.Frame.{half_at, word_at, words_at}
use Rattle.tape_frame.specs.Line.{capital, digits_of, half, word, word_bytes}

-- ---- numbers below a bound, and lists of them

pub data Below (m : ℕ) : List ℕ → Type 0 where
  nothing : Below m []
  more : (x : ℕ) {l : List ℕ} → x < m → Below m l → Below m (x ∷ l)

pub below-append : {m : ℕ} {a b : List ℕ} → Below m a → Below m b → Below m (a ++ b)
below-append nothing q = q
below-append (more x h p) q = more x h (below-append p q)

-- ---- digits

back_digit : (n : ℕ) → n < 16 → digit (capital n) ≡ n
unfolding digit every
back_digit n h = eqb-true (digit (capital n)) n (every_at (λ k. eqb (digit (capital k)) k) 16 n refl h)

back_is_digit : (n : ℕ) → n < 16 → is_digit (capital n) ≡ true
unfolding digit every
back_is_digit n h = every_at (λ k. is_digit (capital k)) 16 n refl h

pub digits_spell : (b : List ℕ) → spells (digits_of b) ≡ true
unfolding spells digits_of
digits_spell [] = refl
digits_spell (x ∷ rest) =
    rw (back_is_digit (x / 16 % 16) (omega arith), back_is_digit (x % 16) (omega arith)) (digits_spell rest)

pub digits_back : {b : List ℕ} → Below 256 b → bytes_of (digits_of b) ≡ b
unfolding bytes_of digits_of
digits_back nothing = refl
digits_back (more x h p) =
    let e : x / 16 % 16 * 16 + x % 16 ≡ x = omega arith in
    rw (back_digit (x / 16 % 16) (omega arith), back_digit (x % 16) (omega arith), e) (ap (λ (r : List ℕ). x ∷ r) (digits_back p))

-- ---- words

pub below_half : (x : ℕ) → Below 256 (half x)
below_half x = more (x / 256 % 256) (omega arith) (more (x % 256) (omega arith) nothing)

pub below_word : (x : ℕ) → Below 256 (word x)
below_word x = below-append (below_half (x / 65536)) (below_half (x % 65536))

pub below_words : (l : List ℕ) → Below 256 (word_bytes l)
unfolding word_bytes
below_words [] = nothing
below_words (x ∷ rest) = below-append (below_word x) (below_words rest)

pub length-word_bytes : (l : List ℕ) → length (word_bytes l) ≡ 4 * length l
unfolding word_bytes
length-word_bytes [] = refl
length-word_bytes (x ∷ rest) = let e = length-word_bytes rest in omega arith

pub half_back : (x : ℕ) → x < 65536 → x / 256 % 256 * 256 + x % 256 ≡ x
half_back x h = omega arith

pub word_back : (x : ℕ) → x < 4294967296
    → (x / 65536 / 256 % 256 * 256 + x / 65536 % 256) * 65536 + (x % 65536 / 256 % 256 * 256 + x % 65536 % 256) ≡ x
word_back x h =
    let a : x / 65536 / 256 % 256 * 256 + x / 65536 % 256 ≡ x / 65536 = half_back (x / 65536) (omega arith) in
    let b : x % 65536 / 256 % 256 * 256 + x % 65536 % 256 ≡ x % 65536 = half_back (x % 65536) (omega arith) in
    omega arith

-- places in what is left after n bytes
pub half_on : (b : List ℕ) (n k : ℕ) → half_at b (n + k) ≡ half_at (drop n b) k
half_on b n k =
    let e : n + k + 1 ≡ n + (k + 1) = omega arith in
    rw (get_or-drop n b k 0, get_or-drop n b (k + 1) 0, e)

word_on : (b : List ℕ) (n k : ℕ) → word_at b (n + k) ≡ word_at (drop n b) k
word_on b n k =
    let e : n + k + 2 ≡ n + (k + 2) = omega arith in
    rw (half_on b n k, e, half_on b n (k + 2))

pub words_on : (m : ℕ) (b : List ℕ) (n k : ℕ) → words_at m (n + k) b ≡ words_at m k (drop n b)
unfolding words_at
words_on zero b n k = refl
words_on (suc m) b n k =
    let e : n + k + 4 ≡ n + (k + 4) = omega arith in
    rw (word_on b n k, e) (ap (λ (r : List ℕ). word_at (drop n b) k ∷ r) (words_on m b n (k + 4)))

-- words that were written come back
pub words_back : {l : List ℕ} (rest : List ℕ) → Below 4294967296 l → words_at (length l) 0 (word_bytes l ++ rest) ≡ l
unfolding words_at word_bytes
words_back rest nothing = refl
words_back rest (more x {l} h p) =
    rw (word_back x h, words_on (length l) (word_bytes (x ∷ l) ++ rest) 4 0)
    (ap (λ (r : List ℕ). x ∷ r) (words_back rest p))
